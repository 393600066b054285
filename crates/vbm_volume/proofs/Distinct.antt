-- A list without repeats, as a test and as std has it.
use Rattle.std.proofs.Common.{◌≡◌, ℕ, ◌-◌, ◌<◌, true, false, eqb, List, [], ◌∷◌, length, get_or, refl, sym, ◌∙◌, arith, inl, inr}
use Rattle.std.specs.List.{list_any, AllByRecursion, IsDistinct}
use Rattle.std.specs.List.Sorted.{IsPermutation, IsStrictlyIncreasing}
use Rattle.std.proofs.lemmas.Bool.{eqb-false, cases_Bool, false≢true, false_from_ne_true}
use Rattle.std.proofs.lemmas.Bool.Decides.{eqb_tells}
use Rattle.std.proofs.lemmas.List.Kept.{AllPairs-from_increasing}
use Rattle.std.proofs.lemmas.List.Sorted.{IsPermutation-sym}
use Rattle.std.proofs.lemmas.Map.Keys.{IsDistinct-IsPermutation, IsDistinct-from_apart, apart_from_distinct}
use Rattle.vbm_volume.specs.Image.{is_distinct}

-- no later element is x
none_later : (x : ℕ) (xs : List ℕ) → list_any (λ y. eqb x y) xs ≡ false → AllByRecursion (λ y. eqb x y ≡ false) xs
none_later x [] h = tt
none_later x (y ∷ ys) h = elim (cases_Bool (eqb x y)) [
  | inl is ↦ absurd (false≢true (sym h ∙ rw is refl))
  | inr not_this ↦ (not_this, none_later x ys (rw not_this at h))
]

later_none : (x : ℕ) (xs : List ℕ) → AllByRecursion (λ y. eqb x y ≡ false) xs → list_any (λ y. eqb x y) xs ≡ false
later_none x [] h = refl
later_none x (y ∷ ys) h = let first : eqb x y ≡ false = h.0 in rw first (later_none x ys h.1)

pub distinct_from_test : (xs : List ℕ) → is_distinct xs ≡ true → IsDistinct eqb xs
unfolding IsDistinct
distinct_from_test [] h = tt
distinct_from_test (x ∷ xs) h = elim (cases_Bool (list_any (λ y. eqb x y) xs)) [
  | inl is ↦ absurd (false≢true (sym (rw is refl) ∙ h))
  | inr none ↦ (none_later x xs none, distinct_from_test xs (rw none at h))
]

pub test_from_distinct : (xs : List ℕ) → IsDistinct eqb xs → is_distinct xs ≡ true
unfolding IsDistinct
test_from_distinct [] h = refl
test_from_distinct (x ∷ xs) h = rw (later_none x xs h.0) (test_from_distinct xs h.1)

flips : (x y : ℕ) → eqb x y ≡ eqb y x
flips x y = elim (eqb_tells x y) [
  | inl same ↦ elim (eqb_tells y x) [ inl back ↦ same.0 ∙ sym back.0 | inr other ↦ absurd (other.1 (sym same.1)) ]
  | inr apart ↦ elim (eqb_tells y x) [ inl back ↦ absurd (apart.1 (sym back.1)) | inr other ↦ apart.0 ∙ sym other.0 ]
]

-- an order of the elements doesn't matter
pub is_distinct-IsPermutation : (xs ys : List ℕ) → IsPermutation xs ys → is_distinct ys ≡ is_distinct xs
is_distinct-IsPermutation xs ys h = elim (cases_Bool (is_distinct xs)) [
  | inl is ↦ test_from_distinct ys (IsDistinct-IsPermutation eqb flips xs ys h (distinct_from_test xs is)) ∙ sym is
  | inr isnt ↦ false_from_ne_true (is_distinct ys) (λ is.
      false≢true (sym isnt ∙ test_from_distinct xs (IsDistinct-IsPermutation eqb flips ys xs (IsPermutation-sym xs ys h) (distinct_from_test ys is))))
      ∙ sym isnt
]

-- a list that rises strictly has no repeats
pub is_distinct-increasing : (xs : List ℕ) → IsStrictlyIncreasing xs → is_distinct xs ≡ true
is_distinct-increasing xs up = test_from_distinct xs (IsDistinct-from_apart eqb xs (λ i j d lt within.
    elim (eqb_tells (get_or xs i d) (get_or xs j d)) [
      | inl same ↦ absurd (omega (arith, AllPairs-from_increasing xs up i j d lt within, same.1))
      | inr apart ↦ apart.0
    ]))

-- two equal neighbours are a repeat
pub is_distinct-repeat : (xs : List ℕ) (i : ℕ) → 0 < i → i < length xs → get_or xs (i - 1) 0 ≡ get_or xs i 0 → is_distinct xs ≡ false
is_distinct-repeat xs i low high same = false_from_ne_true (is_distinct xs) (λ is.
    eqb-false _ _ (apart_from_distinct eqb xs (i - 1) i 0 (distinct_from_test xs is) (omega arith) high) same)
