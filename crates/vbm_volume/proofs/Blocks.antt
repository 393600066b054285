-- The positions of a block map, block by block: no two blocks have one position.
use Rattle.std.proofs.Common.{◌≡◌, ◌≢◌, ℕ, zero, suc, ◌+◌, ◌*◌, ◌<◌, Bool, true, false, not, List, [], ◌∷◌, ◌++◌, Ok, length, refl, sym, ap, ◌∙◌}
use Rattle.std.proofs.Common.{arith, inl, inr}
use Rattle.std.specs.Prelude.{◌==◌}
use Rattle.std.specs.List.{filter, list_any}
use Rattle.std.proofs.lemmas.Bool.{cases_Bool, cases_lt, and_parts, and_from, or_from, or_left, or_right, false≢true, eq-eqb, ne_eqb, not-true}
use Rattle.std.proofs.lemmas.Bool.{not_from_false}
use Rattle.std.proofs.lemmas.List.{append-nil}
use Rattle.std.proofs.lemmas.List.Elements.{filter-append}
use Rattle.std.proofs.lemmas.List.Folds.{list_any-append}
use Rattle.vbm_header.specs.declared.Header.{Header}
use Rattle.vbm_header.specs.Field.{number_at}
use Rattle.vbm_header.proofs.Headers.{all_hold}
use Rattle.vbm_volume.specs.Image.{image_of, map_conditions, positions, word_of, words_at, is_distinct, is_position}
use Rattle.vbm_volume.proofs.Images.{image_of-ok}
use Rattle.vbm_volume.proofs.PositionLemmas.{is_distinct-one_more}

abbrev word : List ℕ → ℕ → ℕ → ℕ
word f at b = number_at f (at + 4 * b) 4

-- the positions of the first n blocks
abbrev listed : List ℕ → ℕ → ℕ → List ℕ
listed f at n = filter is_position (words_at f at n)

-- one block more
listed-more : (f : List ℕ) (at n : ℕ) → listed f at (suc n) ≡ listed f at n ++ filter is_position (word f at n ∷ [])
unfolding words_at
listed-more f at n = filter-append is_position (words_at f at n) (word f at n ∷ [])

pub listed-position : (f : List ℕ) (at n : ℕ) → is_position (word f at n) ≡ true → listed f at (suc n) ≡ listed f at n ++ word f at n ∷ []
listed-position f at n is = listed-more f at n ∙ rw is refl

pub listed-other : (f : List ℕ) (at n : ℕ) → is_position (word f at n) ≡ false → listed f at (suc n) ≡ listed f at n
listed-other f at n none = listed-more f at n ∙ rw (none, append-nil) refl

-- a test that the position of some block passes
pub any_block : (p : ℕ → Bool) (f : List ℕ) (at n b : ℕ) → b < n → is_position (word f at b) ≡ true → p (word f at b) ≡ true
    → list_any p (listed f at n) ≡ true
any_block p f at zero b lt is passes = absurd (omega arith)
any_block p f at (suc n) b lt is passes = elim (cases_lt b n) [
  | inl below ↦
      let first : list_any p (listed f at n) ≡ true = any_block p f at n b below is passes in
      ap (list_any p) (listed-more f at n) ∙ list_any-append p (listed f at n) (filter is_position (word f at n ∷ [])) ∙ or_left _ _ first
  | inr last ↦
      let same : b ≡ n = omega arith in
      let here : is_position (word f at n) ≡ true = ap (λ (k : ℕ). is_position (word f at k)) (sym same) ∙ is in
      let holds : p (word f at n) ≡ true = ap (λ (k : ℕ). p (word f at k)) (sym same) ∙ passes in
      ap (list_any p) (listed-position f at n here) ∙ list_any-append p (listed f at n) (word f at n ∷ []) ∙ or_right _ _ (or_left _ _ holds)
]

-- a test that no block's position passes
pub no_block : (p : ℕ → Bool) (f : List ℕ) (at n : ℕ) → ((b : ℕ) → b < n → is_position (word f at b) ≡ true → p (word f at b) ≡ false)
    → list_any p (listed f at n) ≡ false
unfolding words_at
no_block p f at zero each = refl
no_block p f at (suc n) each =
    let first : list_any p (listed f at n) ≡ false = no_block p f at n (λ b lt. each b (omega arith)) in
    elim (cases_Bool (is_position (word f at n))) [
      | inl is ↦
          ap (list_any p) (listed-position f at n is) ∙ list_any-append p (listed f at n) (word f at n ∷ [])
          ∙ or_from _ _ first (or_from _ _ (each n (omega arith) is) refl)
      | inr none ↦ ap (list_any p) (listed-other f at n none) ∙ first
    ]

-- a test that a position passes is passed by that of a block
pub found_block : (p : ℕ → Bool) (f : List ℕ) (at n : ℕ) → list_any p (listed f at n) ≡ true
    → (b : ℕ) × (b < n) × (is_position (word f at b) ≡ true) × (p (word f at b) ≡ true)
unfolding words_at
found_block p f at zero found = absurd (false≢true found)
found_block p f at (suc n) found = elim (cases_Bool (list_any p (listed f at n))) [
  | inl earlier ↦ let b = found_block p f at n earlier in (b.0, omega (arith, b.1), b.2, b.3)
  | inr none ↦ elim (cases_Bool (is_position (word f at n))) [
    | inr other ↦ absurd (false≢true (sym (ap (list_any p) (listed-other f at n other) ∙ none) ∙ found))
    | inl is ↦ elim (cases_Bool (p (word f at n))) [
      | inl passes ↦ (n, omega arith, is, passes)
      | inr fails ↦
          let all : list_any p (listed f at (suc n)) ≡ false =
          ap (list_any p) (listed-position f at n is) ∙ list_any-append p (listed f at n) (word f at n ∷ [])
          ∙ or_from _ _ none (or_from _ _ fails refl) in
          absurd (false≢true (sym all ∙ found))
    ]
  ]
]

-- two blocks of a map without repeats have different positions
pub distinct_blocks : (f : List ℕ) (at n : ℕ) → is_distinct (listed f at n) ≡ true → (a b : ℕ) → a < b → b < n
    → is_position (word f at a) ≡ true → is_position (word f at b) ≡ true → word f at a ≢ word f at b
distinct_blocks f at zero distinct a b less lt is_a is_b same = absurd (omega arith)
distinct_blocks f at (suc n) distinct a b less lt is_a is_b same = elim (cases_Bool (is_position (word f at n))) [
  | inr none ↦ elim (cases_lt b n) [
    | inl below ↦ distinct_blocks f at n (sym (ap is_distinct (listed-other f at n none)) ∙ distinct) a b less below is_a is_b same
    | inr last ↦
        let here : b ≡ n = omega arith in
        absurd (false≢true (sym none ∙ ap (λ (k : ℕ). is_position (word f at k)) (sym here) ∙ is_b))
  ]
  | inl is ↦
      let both = and_parts (is_distinct (listed f at n)) (not (list_any (λ y. word f at n == y) (listed f at n)))
      (sym (ap is_distinct (listed-position f at n is) ∙ is_distinct-one_more (listed f at n) (word f at n)) ∙ distinct) in
      elim (cases_lt b n) [
        | inl below ↦ distinct_blocks f at n both.0 a b less below is_a is_b same
        | inr last ↦
            let here : b ≡ n = omega arith in
            let found : list_any (λ y. word f at n == y) (listed f at n) ≡ true =
            any_block (λ y. word f at n == y) f at n a (omega arith) is_a (eq-eqb _ _ (ap (word f at) (sym here) ∙ sym same)) in
            absurd (false≢true (sym (not-true _ both.1) ∙ found))
      ]
]

-- a map without repeats, block by block
pub distinct_from_blocks : (f : List ℕ) (at n : ℕ)
    → ((a b : ℕ) → a < b → b < n → is_position (word f at a) ≡ true → is_position (word f at b) ≡ true → word f at a ≢ word f at b)
    → is_distinct (listed f at n) ≡ true
unfolding words_at
distinct_from_blocks f at zero each = refl
distinct_from_blocks f at (suc n) each =
    let first : is_distinct (listed f at n) ≡ true = distinct_from_blocks f at n (λ a b less lt. each a b less (omega arith)) in
    elim (cases_Bool (is_position (word f at n))) [
      | inr none ↦ ap is_distinct (listed-other f at n none) ∙ first
      | inl is ↦
          ap is_distinct (listed-position f at n is) ∙ is_distinct-one_more (listed f at n) (word f at n)
          ∙ and_from _ _ first (not_from_false _ (no_block (λ y. word f at n == y) f at n (λ b lt is_b.
          ne_eqb _ _ (λ same. each b n lt (omega arith) is_b is (sym same)))))
    ]

-- blocks of an image that have one position are one block
pub words_once : (f : List ℕ) (h : Header) → image_of f ≡ Ok h → (a b : ℕ) → a < h.blocks → b < h.blocks
    → is_position (word_of f h a) ≡ true → word_of f h a ≡ word_of f h b → a ≡ b
words_once f h e a b lt_a lt_b is same =
    let distinct = (all_hold (map_conditions (positions f h) h (length f)) (image_of-ok f h e).1).1.1.0 in
    let is_b : is_position (word_of f h b) ≡ true = ap is_position (sym same) ∙ is in
    elim (cases_lt a b) [
      | inl less ↦ absurd (distinct_blocks f h.off_blocks h.blocks distinct a b less lt_b is is_b same)
      | inr other ↦ elim (cases_lt b a) [
        | inl more ↦ absurd (distinct_blocks f h.off_blocks h.blocks distinct b a more lt_a is_b is (sym same))
        | inr neither ↦ omega arith
      ]
    ]
