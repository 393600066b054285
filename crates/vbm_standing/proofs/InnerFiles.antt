-- The names of inner images' files: one for each number, and none is a medium's.
use Rattle.std.proofs.Common.{◌≡◌, ℕ, zero, suc, ◌+◌, ◌^◌, ◌<◌, Bool, true, false, List, [], ◌∷◌, ◌++◌, length, take, Some, refl, sym, ap, ◌∙◌, arith, inl}
use Rattle.std.specs.Prelude.{codes, All, ◌&&◌, nat_eq, nat_le, not, ◌==◌, slice_index}
use Rattle.std.specs.List.{list_all, ends_with}
use Rattle.std.specs.Int.{w64, to_be_bytes, byte_at, bytes_high_first}
use Rattle.std.proofs.lemmas.List.{append_cancel_left, append_cancel_right}
use Rattle.std.proofs.lemmas.List.Elements.{All-append, All-cons, All-take, All-from_recursion}
use Rattle.uuid.specs.Text.{parsed}
use Rattle.uuid.proofs.RoundTrips.{parses_hyphenated}
use Rattle.vbm_ports.specs.Names.{is_medium_name, is_name_character}
use Rattle.vbm_ids.specs.declared.Kind.TheVariants.{Inner}
use Rattle.vbm_ids.specs.Identifier.{kind_number, version_byte, first_half, identifier_of}
use Rattle.vbm_ids.proofs.Identifiers.{length-identifier_of, identifier_of-same}
use Rattle.vbm_world.specs.Texts.{id_text}
use Rattle.vbm_standing.specs.ChainDisks.{inner_file}

-- bytes
abbrev pub AreBytes : List ℕ → Type 0
AreBytes xs = All (λ b. b < 256) xs

byte_bound : (k n : ℕ) → byte_at k n < 256
byte_bound zero n = omega arith
byte_bound (suc k) n = omega arith

numbers_bytes : (k n : ℕ) → AreBytes (bytes_high_first k n)
numbers_bytes zero n = All-from_recursion _ [] tt
numbers_bytes (suc k) n = All-cons (λ b. b < 256) (byte_at k n) (bytes_high_first k n) (byte_bound k n) (numbers_bytes k n)

module _ (seed : List ℕ) (long : length seed ≡ 16) (bytes : AreBytes seed) where
  identifier_bytes : (n : ℕ) → AreBytes (identifier_of seed Inner n)
  unfolding identifier_of
  identifier_bytes n =
      All-append (λ b. b < 256) (first_half seed Inner) (to_be_bytes w64 (2 ^ 63 + n))
      (All-append (λ b. b < 256) (take 6 seed) (version_byte seed ∷ kind_number Inner ∷ []) (All-take (λ b. b < 256) 6 seed bytes)
      (let version : version_byte seed < 256 = omega arith in
      All-cons (λ b. b < 256) (version_byte seed) (2 ∷ []) version (All-cons (λ b. b < 256) 2 [] (omega arith) (All-from_recursion _ [] tt))))
      (numbers_bytes 8 (2 ^ 63 + n))

  text_same : (n m : ℕ) → id_text (identifier_of seed Inner n) ≡ id_text (identifier_of seed Inner m) → identifier_of seed Inner n ≡ identifier_of seed Inner m
  text_same n m same =
      let a = identifier_of seed Inner n in
      let b = identifier_of seed Inner m in
      let read : Some a ≡ Some b =
      parses_hyphenated 97 a (inl refl) (length-identifier_of seed (omega arith) Inner n) (identifier_bytes n) ∙ ap parsed same
      ∙ sym (parses_hyphenated 97 b (inl refl) (length-identifier_of seed (omega arith) Inner m) (identifier_bytes m)) in cc

  -- one number for each name
  pub inner_file-same : (n m : ℕ) → n < 2 ^ 62 → m < 2 ^ 62 → inner_file seed n ≡ inner_file seed m → n ≡ m
  unfolding inner_file
  inner_file-same n m small less same =
      let inside : id_text (identifier_of seed Inner n) ≡ id_text (identifier_of seed Inner m) =
      append_cancel_left (codes "{") _ _ (append_cancel_right _ _ (codes "}.vdi") same) in
      (identifier_of-same seed (omega arith) Inner Inner n m small less (text_same n m inside)).1

fourth_false : (a b c d e : Bool) → d ≡ false → (a && b && c && d && e) ≡ false
fourth_false true true true d e none = rw none refl
fourth_false true true false d e none = refl
fourth_false true false c d e none = refl
fourth_false false b c d e none = refl

-- no medium has such a name
pub inner_not_medium : (seed : List ℕ) (n : ℕ) → is_medium_name (inner_file seed n) ≡ false
unfolding is_medium_name inner_file
inner_not_medium seed n =
    let name = inner_file seed n in
    fourth_false (nat_le 5 (length name)) (nat_le (length name) 64) (not (slice_index name 0 == 45)) _ (ends_with nat_eq name (codes ".vdi"))
    (first 123 (id_text (identifier_of seed Inner n) ++ codes "}.vdi") refl)
  where
    first : (c : ℕ) (rest : List ℕ) → is_name_character c ≡ false → list_all is_name_character (c ∷ rest) ≡ false
    first c rest e = rw e refl
