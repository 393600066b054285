-- Counts and sums over lists in the order of names.
use Rattle.std.proofs.Common.{◌≡◌, ◌≤◌, ℕ, ◌+◌, Bool, true, false, not, cond, List, [], ◌∷◌, count_by, sum_by, Some, refl, ap, subst, ◌∙◌, arith}
use Rattle.std.specs.List.{AllByRecursion}
use Rattle.std.specs.Str.{bytes_eq}
use Rattle.std.proofs.lemmas.List.Sums.{sum_by-cons}
use Rattle.std.proofs.lemmas.Slice.Eq.{bytes_eq-Decides}
use Rattle.vbm_named.specs.Names.{Name, find_by, put_by, without, Rises}
use Rattle.vbm_named.proofs.Lists.{put_cases, without_cases, behind_others, without_none}

-- ---- counts

module _ {X : Type 0} (nx : X → Name) (p : X → Bool) where
  count-cons : (x : X) (xs : List X) → count_by p (x ∷ xs) ≡ cond (p x) 1 0 + count_by p xs
  count-cons x xs = sum_by-cons (λ y. cond (p y) 1 0) x xs

  counts_one : (x : X) → p x ≡ true → cond {A = ℕ} (p x) 1 0 ≡ 1
  counts_one x e = rw e refl

  pub count_put : (x : X) (xs : List X) → count_by p (put_by nx x xs) ≡ cond (p x) 1 0 + count_by p xs
  unfolding put_by
  count_put x [] = count-cons x []
  count_put x (y ∷ ys) = put_cases nx x y ys (λ l. count_by p l ≡ cond (p x) 1 0 + count_by p (y ∷ ys))
      (λ e. count-cons x (y ∷ ys))
      (λ e. let one = count-cons y (put_by nx x ys) in let two = count-cons y ys in let three = count_put x ys in omega arith)

  pub count_without : (name : Name) (xs : List X) → count_by p (without nx name xs) ≤ count_by p xs
  count_without name [] = omega arith
  count_without name (x ∷ xs) = let old = count-cons x xs in let less = count_without name xs in
      without_cases nx name x xs (λ l. count_by p l ≤ count_by p (x ∷ xs))
      (λ e. omega arith) (λ e. let now = count-cons x (without nx name xs) in omega arith)

  -- one that counts goes
  pub count_gone : (name : Name) (x : X) (xs : List X) → find_by nx name xs ≡ Some x → p x ≡ true
      → count_by p (without nx name xs) + 1 ≤ count_by p xs
  count_gone name x [] found counts = absurd cc
  count_gone name x (y ∷ ys) found counts =
      let old = count-cons y ys in
      elim (bytes_eq (nx y) name) as (λ b. cond b (Some y) (find_by nx name ys) ≡ Some x
      → count_by p (cond (not b) (y ∷ without nx name ys) (without nx name ys)) + 1 ≤ count_by p (y ∷ ys)) [
        | true ↦ λ e. let is : y ≡ x = cc in
            let one : cond {A = ℕ} (p y) 1 0 ≡ 1 = counts_one y (ap p is ∙ counts) in
            let less = count_without name ys in omega arith
        | false ↦ λ e. let now = count-cons y (without nx name ys) in let less = count_gone name x ys e counts in omega arith
      ] found

  pub count_none : (xs : List X) → count_by p xs ≤ 0 → AllByRecursion (λ x. p x ≡ false) xs
  count_none [] none = tt
  count_none (x ∷ xs) none = let old = count-cons x xs in (zero_false (p x) (omega arith), count_none xs (omega arith)) where
    zero_false : (b : Bool) → cond b 1 0 ≤ 0 → b ≡ false
    zero_false true h = absurd (omega arith)
    zero_false false h = refl

-- ---- sums

module _ {X : Type 0} (nx : X → Name) (f : X → ℕ) where
  pub sum_put : (x : X) (xs : List X) → sum_by f (put_by nx x xs) ≡ f x + sum_by f xs
  unfolding put_by
  sum_put x [] = sum_by-cons f x []
  sum_put x (y ∷ ys) = put_cases nx x y ys (λ l. sum_by f l ≡ f x + sum_by f (y ∷ ys))
      (λ e. sum_by-cons f x (y ∷ ys))
      (λ e. let one = sum_by-cons f y (put_by nx x ys) in let two = sum_by-cons f y ys in let three = sum_put x ys in omega arith)

  -- without the item of a name
  pub sum_without : (name : Name) (x : X) (xs : List X) → Rises nx xs → find_by nx name xs ≡ Some x
      → sum_by f (without nx name xs) + f x ≡ sum_by f xs
  sum_without name x [] rises found = absurd cc
  sum_without name x (y ∷ ys) rises found =
      let old = sum_by-cons f y ys in
      elim (bytes_eq (nx y) name) as (λ b. bytes_eq (nx y) name ≡ b → cond b (Some y) (find_by nx name ys) ≡ Some x
      → sum_by f (cond (not b) (y ∷ without nx name ys) (without nx name ys)) + f x ≡ sum_by f (y ∷ ys)) [
        | true ↦ λ e h.
            let is : y ≡ x = cc in
            let same : nx y ≡ name = (bytes_eq-Decides (nx y) name).0 e in
            let others = subst (λ n. AllByRecursion (λ z. bytes_eq (nx z) n ≡ false) ys) same (behind_others nx y ys rises.0) in
            let gone : sum_by f (without nx name ys) ≡ sum_by f ys = ap (sum_by f) (without_none nx name ys others) in
            let here : f y ≡ f x = ap f is in
            omega arith
        | false ↦ λ e h.
            let now = sum_by-cons f y (without nx name ys) in let more = sum_without name x ys rises.1 h in omega arith
      ] refl found

  -- an item in another form
  pub sum_edited : (x new : X) (xs : List X) → Rises nx xs → find_by nx (nx new) xs ≡ Some x
      → sum_by f (put_by nx new (without nx (nx new) xs)) + f x ≡ sum_by f xs + f new
  sum_edited x new xs rises found = let one = sum_put new (without nx (nx new) xs) in let two = sum_without (nx new) x xs rises found in omega arith
