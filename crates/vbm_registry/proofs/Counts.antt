-- Sums and counts over lists.
use Rattle.std.proofs.Common.{[], ◌*◌, ◌+◌, ◌∙◌, ◌∷◌, ◌≡◌, ◌≤◌, Bool, IsTrue, List, Some, ap, arith, cond, false, inl, inr, length, map, not, refl, subst, suc, sym, true, ℕ}
use Rattle.std.specs.List.{AllByRecursion, list_any}
use Rattle.std.specs.Prelude.{count_by, filter, sum_by}
use Rattle.std.specs.Str.{bytes_eq}
use Rattle.std.proofs.lemmas.Bool.{cases_Bool}
use Rattle.std.proofs.lemmas.List.Folds.{fold-map}
use Rattle.std.proofs.lemmas.List.Sums.{sum_by-cons}
use Rattle.vbm_named.proofs.Lists.{All-every, All-join, All-map, behind_others, find_cases, same_name}
use Rattle.vbm_named.specs.Names.{Name, Rises, change_by, find_by, is_before}

abbrev one : Bool → ℕ
one b = cond b 1 0

module _ {X : Type 0} where
  -- ---- sums

  pub sum-zero : (f : X → ℕ) (xs : List X) → sum_by f xs ≡ 0 → AllByRecursion (λ x. f x ≡ 0) xs
  sum-zero f [] none = tt
  sum-zero f (x ∷ xs) none =
      let parts : sum_by f (x ∷ xs) ≡ f x + sum_by f xs = sum_by-cons f x xs in
      (omega (arith, parts, none), sum-zero f xs (omega (arith, parts, none)))

  pub zero-sum : (f : X → ℕ) (xs : List X) → AllByRecursion (λ x. f x ≡ 0) xs → sum_by f xs ≡ 0
  zero-sum f [] all = refl
  zero-sum f (x ∷ xs) all = sum_by-cons f x xs ∙ omega (arith, all.0, zero-sum f xs all.1)

  pub sum-add : (f g : X → ℕ) (xs : List X) → sum_by (λ x. f x + g x) xs ≡ sum_by f xs + sum_by g xs
  sum-add f g [] = refl
  sum-add f g (x ∷ xs) =
      let rest = sum-add f g xs in
      sum_by-cons (λ y. f y + g y) x xs ∙ rw (sum_by-cons f x xs, sum_by-cons g x xs) (omega (arith, rest))

  pub sum-constant : (n : ℕ) (xs : List X) → sum_by (λ x. n) xs ≡ n * length xs
  sum-constant n [] = omega arith
  sum-constant n (x ∷ xs) = sum_by-cons (λ y. n) x xs ∙ ap (λ k. n + k) (sum-constant n xs) ∙ sym (times n (length xs))
    where
      times : (a b : ℕ) → a * suc b ≡ a + a * b
      times a b = grind arith

  pub sum-same : (f g : X → ℕ) (xs : List X) → AllByRecursion (λ x. f x ≡ g x) xs → sum_by f xs ≡ sum_by g xs
  sum-same f g [] same = refl
  sum-same f g (x ∷ xs) same = sum_by-cons f x xs ∙ (λ i. same.0 i + sum-same f g xs same.1 i) ∙ sym (sum_by-cons g x xs)

  -- ---- counts

  pub count-cons : (p : X → Bool) (x : X) (xs : List X) → count_by p (x ∷ xs) ≡ cond (p x) 1 0 + count_by p xs
  count-cons p x xs = sum_by-cons (λ y. cond (p y) 1 0) x xs

  pub count-zero : (p : X → Bool) (xs : List X) → count_by p xs ≡ 0 → AllByRecursion (λ x. p x ≡ false) xs
  count-zero p xs none = All-map (λ x. one (p x) ≡ 0) _ (λ x e. zero_not (p x) e) xs (sum-zero (λ x. one (p x)) xs none)
    where
      zero_not : (b : Bool) → one b ≡ 0 → b ≡ false
      zero_not true e = absurd (omega arith)
      zero_not false e = refl

  pub zero-count : (p : X → Bool) (xs : List X) → AllByRecursion (λ x. p x ≡ false) xs → count_by p xs ≡ 0
  zero-count p xs all = zero-sum _ xs (All-map _ _ (λ x e. rw e refl) xs all)

  pub any-count : (p : X → Bool) (xs : List X) → list_any p xs ≡ true → 1 ≤ count_by p xs
  any-count p [] any = absurd cc
  any-count p (x ∷ xs) any =
      let parts = count-cons p x xs in
      elim (cases_Bool (p x)) [
        | inl here ↦ rw parts (rw here (omega arith))
        | inr other ↦ let rest = any-count p xs (rw other at any) in rw parts (rw other (omega (arith, rest)))
      ]

  -- tests that agree on each
  pub count-same : (p q : X → Bool) (xs : List X) → AllByRecursion (λ x. p x ≡ q x) xs → count_by p xs ≡ count_by q xs
  count-same p q xs same = sum-same (λ x. cond (p x) 1 0) (λ x. cond (q x) 1 0) xs (All-map _ _ (λ x e i. cond (e i) 1 0) xs same)

  pub split_count : (p q : X → Bool) (xs : List X) → count_by p xs ≡ count_by p (filter q xs) + count_by p (filter (λ x. not (q x)) xs)
  split_count p q [] = refl
  split_count p q (x ∷ xs) =
      let rest = split_count p q xs in
      elim (cases_Bool (q x)) [
        | inl yes_so ↦ rw (count-cons p x xs, yes_so) (rw (count-cons p x (filter q xs)) (omega (arith, rest)))
        | inr no_so ↦ rw (count-cons p x xs, no_so) (rw (count-cons p x (filter (λ y. not (q y)) xs)) (omega (arith, rest)))
      ]

module _ {X Y : Type 0} where
  pub count-map : (p : Y → Bool) (f : X → Y) (xs : List X) → count_by p (map f xs) ≡ count_by (λ x. p (f x)) xs
  count-map p f xs = fold-map (λ a y. a + cond (p y) 1 0) f 0 xs

  -- sums over two lists in the other order
  pub swap-sums : (f : X → Y → ℕ) (g : Y → ℕ) (xs : List X) (ys : List Y) → AllByRecursion (λ y. sum_by (λ x. f x y) xs ≤ g y) ys
      → sum_by (λ x. sum_by (f x) ys) xs ≤ sum_by g ys
  swap-sums f g xs [] all = let zero = zero-sum (λ (x : X). 0) xs (All-every _ (λ x. refl) xs) in omega (arith, zero)
  swap-sums f g xs (y ∷ ys) all =
      let rest = swap-sums f g xs ys all.1 in
      let parts : sum_by (λ x. sum_by (f x) (y ∷ ys)) xs ≡ sum_by (λ x. f x y) xs + sum_by (λ x. sum_by (f x) ys) xs =
      ap (λ h. sum_by h xs) (λ i x. sum_by-cons (f x) y ys i) ∙ sum-add (λ x. f x y) (λ x. sum_by (f x) ys) xs in
      rw (sum_by-cons g y ys) (omega (arith, parts, rest, all.0))

-- ---- a list with the item of a name changed

module _ {X : Type 0} (nx : X → Name) where
  change-none : (name : Name) (change : X → X) (xs : List X) → AllByRecursion (λ x. bytes_eq (nx x) name ≡ false) xs
      → change_by nx name change xs ≡ xs
  change-none name change [] all = refl
  change-none name change (x ∷ xs) all = rw all.0 (ap (λ l. x ∷ l) (change-none name change xs all.1))

  -- those behind it have other names
  behind : (x old : X) (name : Name) (xs : List X) → x ≡ old → bytes_eq (nx x) name ≡ true → AllByRecursion (λ y. IsTrue (is_before (nx x) (nx y))) xs
      → AllByRecursion (λ y. bytes_eq (nx y) name ≡ false) xs
  behind x old name xs same named rises =
      subst (λ n. AllByRecursion (λ y. bytes_eq (nx y) n ≡ false) xs) (same_name (nx x) name named) (behind_others nx x xs rises)

  pub sum_changed : (f : X → ℕ) (old new : X) (xs : List X) → Rises nx xs → find_by nx (nx new) xs ≡ Some old
      → sum_by f (change_by nx (nx new) (λ _. new) xs) + f old ≡ sum_by f xs + f new
  sum_changed f old new [] rises there = absurd cc
  sum_changed f old new (x ∷ xs) rises there = find_cases nx (nx new) x xs
      (λ o. o ≡ Some old → sum_by f (change_by nx (nx new) (λ _. new) (x ∷ xs)) + f old ≡ sum_by f (x ∷ xs) + f new)
      (λ e is.
      let same : x ≡ old = cc in
      let tail = change-none (nx new) (λ _. new) xs (behind x old (nx new) xs same e rises.0) in
      let first : f x ≡ f old = ap f same in
      rw (e, tail) (rw (sum_by-cons f new xs, sum_by-cons f x xs) (omega (arith, first))))
      (λ e is.
      let rest = sum_changed f old new xs rises.1 is in
      rw e (rw (sum_by-cons f x (change_by nx (nx new) (λ _. new) xs), sum_by-cons f x xs) (omega (arith, rest)))) there

  -- where all others are zero
  pub sum_alone : (f : X → ℕ) (name : Name) (one : X) (xs : List X) → find_by nx name xs ≡ Some one → Rises nx xs
      → AllByRecursion (λ y. bytes_eq (nx y) name ≡ false → f y ≡ 0) xs → sum_by f xs ≡ f one
  sum_alone f name one [] there rises zeros = absurd cc
  sum_alone f name one (x ∷ xs) there rises zeros = find_cases nx name x xs (λ o. o ≡ Some one → sum_by f (x ∷ xs) ≡ f one)
      (λ e is.
      let same : x ≡ one = cc in
      let none = zero-sum f xs (All-join _ _ _ (λ y apart zero. zero apart) xs (behind x one name xs same e rises.0) zeros.1) in
      let first : f x ≡ f one = ap f same in
      sum_by-cons f x xs ∙ omega (arith, none, first))
      (λ e is.
      let rest = sum_alone f name one xs is rises.1 zeros.1 in
      let first = zeros.0 e in
      sum_by-cons f x xs ∙ omega (arith, rest, first)) there
