-- The name of an inner image's file is in its grammar.
use Rattle.std.proofs.Common.{◌≡◌, ℕ, ◌+◌, ◌-◌, ◌/◌, ◌%◌, ◌<◌, Bool, true, false, ◌&&◌, ◌||◌, List, [], ◌∷◌, refl, arith, inl, inr}
use Rattle.std.specs.Prelude.{nat_lt, nat_le, slice_index}
use Rattle.std.proofs.lemmas.Bool.{cases_Bool, and_from, ltb-true, ltb-false, le-leb}
use Rattle.std.specs.List.{list_all}
use Rattle.uuid.specs.Text.{by_index, hex_digit}
use Rattle.vbm_ports.specs.Names.{is_inner_name, is_lower_hex}
use Rattle.vbm_ids.specs.declared.Kind.TheVariants.{Inner}
use Rattle.vbm_ids.specs.Identifier.{identifier_of}
use Rattle.vbm_standing.specs.ChainDisks.{inner_file}

hex_low : (d : ℕ) → d < 16 → is_lower_hex (hex_digit 97 d) ≡ true
hex_low d lt = elim (cases_Bool (nat_lt d 10)) [
  | inl small ↦ let s = ltb-true d 10 small in let a : nat_le 48 (48 + d) ≡ true = le-leb _ _ (omega arith) in let b : nat_le (48 + d) 57 ≡ true = le-leb _ _ (omega (arith, s)) in rw small (rw (a, b) refl)
  | inr large ↦
      let s = ltb-false d 10 large in
      let a : nat_le 97 (97 + d - 10) ≡ true = le-leb _ _ (omega (arith, s)) in
      let b : nat_le (97 + d - 10) 102 ≡ true = le-leb _ _ (omega (arith, lt)) in
      rw large (rw (a, b) (or_true _))
]
  where
    or_true : (t : Bool) → (t || true) ≡ true
    or_true true = refl
    or_true false = refl

digits : List ℕ → List ℕ
digits [] = []
digits (b ∷ bs) = hex_digit 97 (b / 16 % 16) ∷ hex_digit 97 (b % 16) ∷ digits bs

digits_low : (bs : List ℕ) → list_all is_lower_hex (digits bs) ≡ true
unfolding digits
digits_low [] = refl
digits_low (b ∷ bs) =
    and_from (is_lower_hex (hex_digit 97 (b / 16 % 16))) _ (hex_low (b / 16 % 16) (omega arith))
    (and_from (is_lower_hex (hex_digit 97 (b % 16))) _ (hex_low (b % 16) (omega arith)) (digits_low bs))

five : (a b c d e : Bool) → a ≡ true → b ≡ true → c ≡ true → d ≡ true → e ≡ true
    → (true && a && true && b && true && c && true && d && true && e) ≡ true
five a b c d e p q r s t = rw (p, q, r, s, t) refl

-- an inner image's file has a name of the store
pub inner_named_so : (seed : List ℕ) (n : ℕ) → is_inner_name (inner_file seed n) ≡ true
unfolding is_inner_name inner_file by_index digits
inner_named_so seed n =
    let at : ℕ → ℕ = λ i. slice_index (identifier_of seed Inner n) i in
    five _ _ _ _ _ (digits_low (at 0 ∷ at 1 ∷ at 2 ∷ at 3 ∷ [])) (digits_low (at 4 ∷ at 5 ∷ [])) (digits_low (at 6 ∷ at 7 ∷ [])) (digits_low (at 8 ∷ at 9 ∷ []))
    (digits_low (at 10 ∷ at 11 ∷ at 12 ∷ at 13 ∷ at 14 ∷ at 15 ∷ []))
