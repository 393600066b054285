-- Identifiers of one seed tell their kinds and numbers.
use Rattle.std.proofs.Common.{◌≡◌, ℕ, ◌+◌, ◌-◌, ◌%◌, ◌^◌, ◌<◌, ◌≤◌, List, [], ◌∷◌, length, take, drop, get_or, refl, sym, ap, ◌∙◌, arith, length-append, length-take}
use Rattle.std.specs.Prelude.{◌==◌, if◌then◌else◌, cond, Bool, false, Some, None}
use Rattle.std.specs.Str.{bytes_eq}
use Rattle.std.specs.Int.{w64, to_be_bytes, from_be_bytes}
use Rattle.std.proofs.lemmas.Nat.{from_be_bytes-to_be_bytes_8}
use Rattle.std.proofs.lemmas.List.{drop_at, get_or_append_left, get_or-append_right}
use Rattle.uuid.specs.Uuid.{version_num}
use Rattle.vbm_ids.specs.declared.Kind.{Kind}
use Rattle.vbm_ids.specs.declared.Kind.TheVariants.{Medium, Modify, Inner, InnerModify}
use Rattle.vbm_ids.specs.Identifier.{kind_number, version_byte, first_half, identifier_of, count_of_id, number_in}

abbrev kind_of : ℕ → Kind
kind_of n = if n == 0 then Medium else if n == 1 then Modify else if n == 2 then Inner else InnerModify

kind_of-kind_number : (kind : Kind) → kind_of (kind_number kind) ≡ kind
kind_of-kind_number Medium = refl
kind_of-kind_number Modify = refl
kind_of-kind_number Inner = refl
kind_of-kind_number InnerModify = refl

module _ (seed : List ℕ) (long : 6 ≤ length seed) where
  length-front : length (take 6 seed) ≡ 6
  length-front = omega (arith, long, length-take 6 seed)

  length-first_half : (kind : Kind) → length (first_half seed kind) ≡ 8
  length-first_half kind = omega (arith, length-front, length-append (take 6 seed) (version_byte seed ∷ kind_number kind ∷ []))

  pub length-identifier_of : (kind : Kind) (n : ℕ) → length (identifier_of seed kind n) ≡ 16
  unfolding identifier_of
  length-identifier_of kind n = omega (arith, length-first_half kind, length-append (first_half seed kind) (to_be_bytes w64 (2 ^ 63 + n)))

  pub number_in_of : (kind : Kind) (n : ℕ) → n < 2 ^ 62 → from_be_bytes w64 (drop 8 (identifier_of seed kind n)) % 2 ^ 62 ≡ n
  unfolding identifier_of
  number_in_of kind n small =
      let half : from_be_bytes w64 (drop 8 (identifier_of seed kind n)) ≡ 2 ^ 63 + n =
      ap (λ (half : List ℕ). from_be_bytes w64 half) (drop_at (first_half seed kind) (to_be_bytes w64 (2 ^ 63 + n)) 8 (length-first_half kind))
      ∙ from_be_bytes-to_be_bytes_8 (2 ^ 63 + n) (omega (arith, small)) in
      rw half (omega (arith, small))

  byte_at : (kind : Kind) (n i : ℕ) → 6 ≤ i → i < 8
      → get_or (identifier_of seed kind n) i 0 ≡ get_or (version_byte seed ∷ kind_number kind ∷ []) (i - 6) 0
  unfolding identifier_of
  byte_at kind n i after before =
      get_or_append_left (first_half seed kind) (to_be_bytes w64 (2 ^ 63 + n)) 0 i (omega (arith, before, length-first_half kind))
      ∙ get_or-append_right (take 6 seed) (version_byte seed ∷ kind_number kind ∷ []) 6 i 0 length-front after

  kind_at : (kind : Kind) (n : ℕ) → get_or (identifier_of seed kind n) 7 0 ≡ kind_number kind
  kind_at kind n = byte_at kind n 7 (omega arith) (omega arith)

  pub version_num-identifier_of : (kind : Kind) (n : ℕ) → version_num (identifier_of seed kind n) ≡ 8
  version_num-identifier_of kind n = rw (byte_at kind n 6 (omega arith) (omega arith)) (omega arith)

  -- two identifiers of a seed that are the same are of one kind and one number
  pub identifier_of-same : (kind other : Kind) (n m : ℕ) → n < 2 ^ 62 → m < 2 ^ 62 → identifier_of seed kind n ≡ identifier_of seed other m
      → (kind ≡ other) × (n ≡ m)
  identifier_of-same kind other n m n_small m_small same = (
    sym (kind_of-kind_number kind)
        ∙ ap kind_of (sym (kind_at kind n) ∙ ap (λ (id : List ℕ). get_or id 7 0) same ∙ kind_at other m)
        ∙ kind_of-kind_number other,
    sym (number_in_of kind n n_small)
        ∙ ap (λ (id : List ℕ). from_be_bytes w64 (drop 8 id) % 2 ^ 62) same
        ∙ number_in_of other m m_small,
  )

-- an identifier other than that of what it counts has no number
pub no_number : (seed : List ℕ) (kind : Kind) (id : List ℕ) (n : ℕ) (made : List ℕ) → n ≡ count_of_id id → made ≡ identifier_of seed kind n
    → bytes_eq id made ≡ false → None ≡ number_in seed kind id
unfolding number_in
no_number seed kind id n made counts is_made other =
    sym (ap (λ (same : Bool). cond same (Some (count_of_id id)) None)
    (ap (λ (made : List ℕ). bytes_eq id made) (sym (is_made ∙ ap (identifier_of seed kind) counts)) ∙ other))
