-- Tests, counts and sums over lists, with an item more, and with an item in the place of another.
use Rattle.std.proofs.Common.{◌≡◌, ℕ, ◌+◌, Bool, true, false, cond, ◌||◌, List, [], ◌∷◌, Some, refl, sym, ap, subst, ◌∙◌, inl, inr, is_some, sum_by, count_by}
use Rattle.std.specs.List.{AllByRecursion, list_any}
use Rattle.std.specs.Str.{bytes_eq}
use Rattle.std.proofs.lemmas.Bool.{cases_Bool, or_right}
use Rattle.std.proofs.lemmas.List.Sums.{sum_by-cons}
use Rattle.vbm_named.specs.Names.{Name, find_by, has_name, put_by, change_by, Rises}
use Rattle.vbm_named.proofs.Lists.{same_name, has_found, All-map, behind_others, put_cases, put_without}
use Rattle.vbm_named.proofs.Sums.{sum_edited}

or_join : (a b c : Bool) → ((a || b) || c) ≡ (a || (b || c))
or_join true b c = refl
or_join false b c = refl

or_swap : (a b c : Bool) → (a || (b || c)) ≡ (b || (a || c))
or_swap true true c = refl
or_swap true false c = refl
or_swap false true c = refl
or_swap false false c = refl

-- ---- tests, counts and sums

module _ {X : Type 0} where
  -- a test that passes wherever another does
  pub any_more : (p q : X → Bool) (xs : List X) → AllByRecursion (λ x. p x ≡ true → q x ≡ true) xs
      → list_any p xs ≡ true → list_any q xs ≡ true
  any_more p q [] all any = absurd cc
  any_more p q (x ∷ xs) all any = elim (cases_Bool (p x)) [
    | inl here ↦ rw (all.0 here) refl
    | inr other ↦ or_right (q x) _ (any_more p q xs all.1 (rw other at any))
  ]

  -- what follows from any item that passes
  pub any_gives : (p : X → Bool) (C : Type 0) (xs : List X) → AllByRecursion (λ x. p x ≡ true → C) xs → list_any p xs ≡ true → C
  any_gives p C [] all any = absurd cc
  any_gives p C (x ∷ xs) all any = elim (cases_Bool (p x)) [
    | inl here ↦ all.0 here
    | inr other ↦ any_gives p C xs all.1 (rw other at any)
  ]

  pub count_same : (p q : X → Bool) (xs : List X) → AllByRecursion (λ x. p x ≡ q x) xs → count_by p xs ≡ count_by q xs
  count_same p q [] all = refl
  count_same p q (x ∷ xs) all =
      sum_by-cons (λ y. cond (p y) 1 0) x xs
      ∙ (λ i. cond (all.0 i) 1 0 + count_same p q xs all.1 i) ∙ sym (sum_by-cons (λ y. cond (q y) 1 0) x xs)

  pub sum_none : (f : X → ℕ) (xs : List X) → AllByRecursion (λ x. f x ≡ 0) xs → sum_by f xs ≡ 0
  sum_none f [] all = refl
  sum_none f (x ∷ xs) all = sum_by-cons f x xs ∙ (λ i. all.0 i + sum_none f xs all.1 i)

  pub count_none : (p : X → Bool) (xs : List X) → AllByRecursion (λ x. p x ≡ false) xs → count_by p xs ≡ 0
  count_none p xs all = sum_none (λ x. cond (p x) 1 0) xs (All-map _ _ (λ x e. ap (λ (b : Bool). cond {A = ℕ} b 1 0) e) xs all)

-- ---- an item more

-- some item of a list with one more passes a test
pub any_put : {X : Type 0} (nx : X → Name) (p : X → Bool) (x : X) (xs : List X) → list_any p (put_by nx x xs) ≡ (p x || list_any p xs)
unfolding put_by
any_put nx p x [] = refl
any_put nx p x (y ∷ ys) = put_cases nx x y ys (λ l. list_any p l ≡ (p x || (p y || list_any p ys)))
    (λ e. refl) (λ e. ap (λ (b : Bool). p y || b) (any_put nx p x ys) ∙ or_swap (p y) (p x) (list_any p ys))

-- ---- an item in the place of another

module _ {X : Type 0} (nx : X → Name) (new old : X) where
  unchanged : (xs : List X) → AllByRecursion (λ y. bytes_eq (nx y) (nx new) ≡ false) xs → change_by nx (nx new) (λ _. new) xs ≡ xs
  unchanged [] others = refl
  unchanged (x ∷ xs) others = rw others.0 (ap (λ (l : List X). x ∷ l) (unchanged xs others.1))

  -- the new item passes a test where the old one does, or more often
  pub any_in_place : (p : X → Bool) (more : Bool) → p new ≡ (more || p old) → (xs : List X) → Rises nx xs
      → find_by nx (nx new) xs ≡ Some old → list_any p (change_by nx (nx new) (λ _. new) xs) ≡ (more || list_any p xs)
  any_in_place p more is [] rises there = absurd cc
  any_in_place p more is (x ∷ xs) rises there = elim (bytes_eq (nx x) (nx new)) as (λ b. bytes_eq (nx x) (nx new) ≡ b
      → cond b (Some x) (find_by nx (nx new) xs) ≡ Some old
      → (p (cond b new x) || list_any p (change_by nx (nx new) (λ _. new) xs)) ≡ (more || (p x || list_any p xs))) [
        | true ↦ λ e h.
            let one : x ≡ old = cc in
            let others = subst (λ (n : Name). AllByRecursion (λ y. bytes_eq (nx y) n ≡ false) xs) (same_name (nx x) (nx new) e)
            (behind_others nx x xs rises.0) in
            rw (unchanged xs others, is, one) (or_join more (p old) (list_any p xs))
        | false ↦ λ e h.
            ap (λ (b : Bool). p x || b) (any_in_place p more is xs rises.1 h) ∙ or_swap (p x) more (list_any p xs)
      ] refl there

  pub sum_in_place : (f : X → ℕ) (xs : List X) → Rises nx xs → find_by nx (nx new) xs ≡ Some old
      → sum_by f (change_by nx (nx new) (λ _. new) xs) + f old ≡ sum_by f xs + f new
  sum_in_place f xs rises there =
      let has : has_name nx (nx new) xs ≡ true = has_found nx (nx new) xs ∙ ap is_some there in
      subst (λ (l : List X). sum_by f l + f old ≡ sum_by f xs + f new) (put_without nx new xs rises has) (sum_edited nx f old new xs rises there)
