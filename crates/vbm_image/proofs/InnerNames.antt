-- The name of an inner image's file is in its grammar.
use Rattle.std.proofs.Common.{◌≡◌, ℕ, ◌+◌, ◌-◌, ◌/◌, ◌%◌, ◌<◌, Bool, true, false, ◌&&◌, ◌||◌, List, [], ◌∷◌, refl, arith, inl, inr}
use Rattle.std.specs.Prelude.{nat_lt, nat_le, slice_index}
use Rattle.std.specs.List.{list_all}
use Rattle.std.proofs.lemmas.Bool.{cases_Bool, and_from, ltb-true, ltb-false, le-leb}
use Rattle.uuid.specs.Text.{by_index, hex_digit}
use Rattle.vbm_ports.specs.Names.{is_inner_name, is_lower_hex}
use Rattle.vbm_image.specs.InnerName.{inner_name_of}

digit_lower : (d : ℕ) → d < 16 → is_lower_hex (hex_digit 97 d) ≡ true
digit_lower d lt = elim (cases_Bool (nat_lt d 10)) [
  | inl small ↦
      let s = ltb-true d 10 small in
      let from : nat_le 48 (48 + d) ≡ true = le-leb _ _ (omega arith) in
      let to : nat_le (48 + d) 57 ≡ true = le-leb _ _ (omega (arith, s)) in
      rw small (rw (from, to) refl)
  | inr large ↦
      let s = ltb-false d 10 large in
      let from : nat_le 97 (97 + d - 10) ≡ true = le-leb _ _ (omega (arith, s)) in
      let to : nat_le (97 + d - 10) 102 ≡ true = le-leb _ _ (omega (arith, lt)) in
      rw large (rw (from, to) (or_true _))
]
  where
    or_true : (t : Bool) → (t || true) ≡ true
    or_true true = refl
    or_true false = refl

-- two digits for each byte
hex_digits : List ℕ → List ℕ
hex_digits [] = []
hex_digits (b ∷ bs) = hex_digit 97 (b / 16 % 16) ∷ hex_digit 97 (b % 16) ∷ hex_digits bs

digits_lower : (bs : List ℕ) → list_all is_lower_hex (hex_digits bs) ≡ true
unfolding hex_digits
digits_lower [] = refl
digits_lower (b ∷ bs) =
    and_from (is_lower_hex (hex_digit 97 (b / 16 % 16))) _ (digit_lower (b / 16 % 16) (omega arith))
    (and_from (is_lower_hex (hex_digit 97 (b % 16))) _ (digit_lower (b % 16) (omega arith)) (digits_lower bs))

groups : (a b c d e : Bool) → a ≡ true → b ≡ true → c ≡ true → d ≡ true → e ≡ true
    → (true && a && true && b && true && c && true && d && true && e) ≡ true
groups a b c d e p q r s t = rw (p, q, r, s, t) refl

pub inner_name_is : (id : List ℕ) → is_inner_name (inner_name_of id) ≡ true
unfolding is_inner_name by_index hex_digits
inner_name_is id =
    let at : ℕ → ℕ = λ i. slice_index id i in
    groups _ _ _ _ _ (digits_lower (at 0 ∷ at 1 ∷ at 2 ∷ at 3 ∷ [])) (digits_lower (at 4 ∷ at 5 ∷ [])) (digits_lower (at 6 ∷ at 7 ∷ []))
    (digits_lower (at 8 ∷ at 9 ∷ [])) (digits_lower (at 10 ∷ at 11 ∷ at 12 ∷ at 13 ∷ at 14 ∷ at 15 ∷ []))
