-- What the tally of positions tells.
use Rattle.std.proofs.Common.{◌≡◌, ℕ, ◌+◌, ◌*◌, ◌^◌, ◌<◌, ◌≤◌, Bool, true, false, not, ◌&&◌, ◌||◌, leb, ltb, eqb, max, List, [], ◌∷◌, ◌++◌, refl, sym, ap, ◌∙◌, arith, inl, inr}
use Rattle.std.specs.Prelude.{Option}
use Rattle.std.specs.List.{filter, list_all}
use Rattle.std.proofs.lemmas.Bool.{cases_lt, lt-ltb, le-ltb, le-leb, lt-leb}
use Rattle.std.proofs.lemmas.Bool.Decides.{eqb_tells}
use Rattle.vbm_header.specs.declared.BadImage.{BadImage}
use Rattle.vbm_header.specs.declared.Header.{Header}
use Rattle.vbm_header.specs.Header.{first_that_fails, unless}
use Rattle.vbm_volume.specs.Faults.{HasHeader}
use Rattle.vbm_volume.specs.Image.{is_distinct, map_conditions, positions, image_of}
use Rattle.vbm_volume.specs.Positions.{end_of, is_low, is_high}
use Rattle.vbm_volume.specs.Tally.{IsTally}
use Rattle.vbm_volume.specs.declared.tally.Tally.{Tally}
use Rattle.vbm_volume.proofs.Images.{image_of-checked}
use Rattle.std.proofs.lemmas.List.{append-nil}
use Rattle.std.proofs.lemmas.List.Elements.{filter-append}
use Rattle.vbm_volume.proofs.PositionLemmas.{is_distinct-split, filter-is_high}

not-both : (a b : Bool) → (not a || not b) ≡ not (a && b)
not-both true b = refl
not-both false b = refl

-- a test holds of all positions where it holds of their end
pub all_counted : (allocated : ℕ) (ps : List ℕ) → end_of ps ≤ allocated → list_all (λ p. ltb p allocated) ps ≡ true
all_counted allocated [] below = refl
all_counted allocated (p ∷ ps) below =
    let first : ltb p allocated ≡ true = lt-ltb _ _ (omega arith) in
    rw first (all_counted allocated ps (omega arith))

pub not_all_counted : (allocated : ℕ) (ps : List ℕ) → allocated < end_of ps → list_all (λ p. ltb p allocated) ps ≡ false
not_all_counted allocated [] above = absurd (omega arith)
not_all_counted allocated (p ∷ ps) above = elim (cases_lt p allocated) [
  | inl below ↦ let first : ltb p allocated ≡ true = lt-ltb _ _ below in rw first (not_all_counted allocated ps (omega arith))
  | inr past ↦ let first : ltb p allocated ≡ false = le-ltb _ _ past in rw first refl
]

pub all_within : (off_data len : ℕ) (ps : List ℕ) → (0 < end_of ps → off_data + end_of ps * 2 ^ 20 ≤ len)
    → list_all (λ p. leb (off_data + (p + 1) * 2 ^ 20) len) ps ≡ true
all_within off_data len [] within = refl
all_within off_data len (p ∷ ps) within =
    let all : off_data + max (p + 1) (end_of ps) * 1048576 ≤ len = within (omega arith) in
    let first : leb (off_data + (p + 1) * 2 ^ 20) len ≡ true = le-leb _ _ (omega arith) in
    rw first (all_within off_data len ps (λ some. omega arith))

pub not_all_within : (off_data len : ℕ) (ps : List ℕ) → 0 < end_of ps → len < off_data + end_of ps * 2 ^ 20
    → list_all (λ p. leb (off_data + (p + 1) * 2 ^ 20) len) ps ≡ false
not_all_within off_data len [] some past = absurd (omega arith)
not_all_within off_data len (p ∷ ps) some past = elim (cases_lt len (off_data + (p + 1) * 2 ^ 20)) [
  | inl here ↦ let first : leb (off_data + (p + 1) * 2 ^ 20) len ≡ false = lt-leb _ _ here in rw first refl
  | inr inside ↦
      let first : leb (off_data + (p + 1) * 2 ^ 20) len ≡ true = le-leb _ _ inside in
      rw first (not_all_within off_data len ps (omega arith) (omega arith))
]

pub list_all-counted : (allocated : ℕ) (ps : List ℕ) → leb (end_of ps) allocated ≡ list_all (λ p. ltb p allocated) ps
list_all-counted allocated ps = elim (cases_lt allocated (end_of ps)) [
  | inl above ↦ lt-leb _ _ above ∙ sym (not_all_counted allocated ps above)
  | inr below ↦ le-leb _ _ below ∙ sym (all_counted allocated ps below)
]

pub list_all-within : (off_data len : ℕ) (ps : List ℕ)
    → (eqb (end_of ps) 0 || leb (off_data + end_of ps * 2 ^ 20) len) ≡ list_all (λ p. leb (off_data + (p + 1) * 2 ^ 20) len) ps
list_all-within off_data len ps = elim (eqb_tells (end_of ps) 0) [
  | inl none ↦ ap (λ b. b || leb (off_data + end_of ps * 2 ^ 20) len) none.0 ∙ sym (all_within off_data len ps (λ some. absurd (omega (arith, none.1))))
  | inr some ↦
      ap (λ b. b || leb (off_data + end_of ps * 2 ^ 20) len) some.0
      ∙ elim (cases_lt len (off_data + end_of ps * 2 ^ 20)) [
        | inl past ↦ lt-leb _ _ past ∙ sym (not_all_within off_data len ps (omega (arith, some.1)) past)
        | inr inside ↦ le-leb _ _ inside ∙ sym (all_within off_data len ps (λ _. inside))
      ]
]

-- two positions are equal
pub twice-IsTally : (tally : Tally) (ps : List ℕ) → IsTally tally ps → (tally.is_twice || not (is_distinct tally.high.items)) ≡ not (is_distinct ps)
twice-IsTally tally ps is =
    ap (λ t. t || not (is_distinct tally.high.items)) is.low.twice
    ∙ ap (λ xs. not (is_distinct (filter (is_low tally.limits.low_end) ps)) || not (is_distinct xs)) is.high
    ∙ not-both (is_distinct (filter (is_low tally.limits.low_end) ps)) (is_distinct (filter (is_high tally.limits.low_end) ps))
    ∙ ap not (sym (is_distinct-split tally.limits.low_end ps))

-- the listed positions among more
pub filter-is_high-append : (low_end : ℕ) (ps qs : List ℕ) → end_of qs ≤ low_end → filter (is_high low_end) (ps ++ qs) ≡ filter (is_high low_end) ps
filter-is_high-append low_end ps qs below =
    filter-append (is_high low_end) ps qs ∙ ap (λ xs. filter (is_high low_end) ps ++ xs) (filter-is_high low_end qs below)
    ∙ append-nil (filter (is_high low_end) ps)

-- what a file is, by the tally of its positions
pub image_of-tally : (f : List ℕ) (h : Header) (len : ℕ) (tally : Tally) (fault : Option BadImage) → HasHeader f h len
    → IsTally tally (positions f h) → tally.limits.allocated ≡ h.allocated → tally.limits.off_data ≡ h.off_data → tally.limits.file_len ≡ len
    → ((ps : List ℕ) (h : Header) → IsTally tally ps → h.allocated ≡ tally.limits.allocated → h.off_data ≡ tally.limits.off_data
    → fault ≡ first_that_fails (map_conditions ps h tally.limits.file_len))
    → image_of f ≡ unless fault h
image_of-tally f h len tally fault has is allocated off_data file_len found =
    image_of-checked f h len (positions f h) fault has.size has.is refl
    (found (positions f h) h is (sym allocated) (sym off_data) ∙ ap (λ n. first_that_fails (map_conditions (positions f h) h n)) file_len)
