-- A list in the order of names, parted at the item of a name.
use Rattle.std.proofs.Common.{◌≡◌, ℕ, ◌+◌, Bool, true, false, cond, ◌||◌, ◌&&◌, List, [], ◌∷◌, ◌++◌, Some, refl, sym, ap, subst, ◌∙◌, arith}
use Rattle.std.specs.List.{AllByRecursion, list_any, sum_by}
use Rattle.std.specs.Str.{bytes_eq}
use Rattle.std.proofs.lemmas.Bool.{cond_both}
use Rattle.std.proofs.lemmas.List.Sums.{sum_by-cons}
use Rattle.vbm_named.specs.Names.{Name, find_by, without, change_by, Rises}
use Rattle.vbm_named.proofs.Lists.{All-map, find_named, behind_others, without_none, any_none, same_name, others-without, rises_map}

module _ {X : Type 0} where
  -- tests and sums of a list, where one item stands before the others
  pub any-among : (p : X → Bool) (before : List X) (x : X) (behind : List X)
      → list_any p (before ++ x ∷ behind) ≡ (p x || list_any p (before ++ behind))
  any-among p [] x behind = refl
  any-among p (y ∷ before) x behind = ap (λ (b : Bool). p y || b) (any-among p before x behind) ∙ turned (p y) (p x) (list_any p (before ++ behind)) where
    turned : (a b c : Bool) → (a || (b || c)) ≡ (b || (a || c))
    turned true true c = refl
    turned true false c = refl
    turned false true c = refl
    turned false false c = refl

  pub sum-among : (f : X → ℕ) (before : List X) (x : X) (behind : List X)
      → sum_by f (before ++ x ∷ behind) ≡ f x + sum_by f (before ++ behind)
  sum-among f [] x behind = sum_by-cons f x behind
  sum-among f (y ∷ before) x behind =
      let all = sum_by-cons f y (before ++ x ∷ behind) in let less = sum_by-cons f y (before ++ behind) in
      let more = sum-among f before x behind in omega arith

module _ {X : Type 0} (nx : X → Name) where
  -- the items before the one of a name, and those behind it
  pub record IsParted (name : Name) (xs : List X) (x : X) : Type 0 where
    pub before : List X
    pub behind : List X
    pub all : xs ≡ before ++ x ∷ behind
    pub less : without nx name xs ≡ before ++ behind
    pub changed : (y : X) → change_by nx name (λ _. y) xs ≡ before ++ y ∷ behind

  unchanged : (name : Name) (y : X) (xs : List X) → AllByRecursion (λ x. bytes_eq (nx x) name ≡ false) xs → change_by nx name (λ _. y) xs ≡ xs
  unchanged name y [] others = refl
  unchanged name y (x ∷ xs) others = rw others.0 (ap (λ l. x ∷ l) (unchanged name y xs others.1))

  pub parted : (name : Name) (x : X) (xs : List X) → Rises nx xs → find_by nx name xs ≡ Some x → IsParted name xs x
  parted name x [] rises is = absurd cc
  parted name x (y ∷ ys) rises is = elim (bytes_eq (nx y) name) as (λ b. bytes_eq (nx y) name ≡ b → cond b (Some y) (find_by nx name ys) ≡ Some x → IsParted name (y ∷ ys) x) [
    | true ↦ λ e is.
        let same : y ≡ x = cc in
        let others : AllByRecursion (λ z. bytes_eq (nx z) name ≡ false) ys =
        subst (λ n. AllByRecursion (λ z. bytes_eq (nx z) n ≡ false) ys) (same_name (nx y) name e) (behind_others nx y ys rises.0) in
        record {
          before = [];
          behind = ys;
          all = ap (λ z. z ∷ ys) same;
          less = rw e (without_none nx name ys others);
          changed = λ z. rw e (ap (λ l. z ∷ l) (unchanged name z ys others));
        }
    | false ↦ λ e is.
        let rest = parted name x ys rises.1 is in record {
          before = y ∷ rest.before;
          behind = rest.behind;
          all = ap (λ l. y ∷ l) rest.all;
          less = rw e (ap (λ l. y ∷ l) rest.less);
          changed = λ z. rw e (ap (λ l. y ∷ l) (rest.changed z));
        }
  ] refl is

  module _ (name : Name) (xs : List X) (x : X) (rises : Rises nx xs) (found : find_by nx name xs ≡ Some x) where
    pub any-parted : (p : X → Bool) → list_any p xs ≡ (p x || list_any p (without nx name xs))
    any-parted p = let at = parted name x xs rises found in
        ap (list_any p) at.all ∙ any-among p at.before x at.behind ∙ ap (λ l. p x || list_any p l) (sym at.less)

    pub any-changed : (p : X → Bool) (y : X) → list_any p (change_by nx name (λ _. y) xs) ≡ (p y || list_any p (without nx name xs))
    any-changed p y = let at = parted name x xs rises found in
        ap (list_any p) (at.changed y) ∙ any-among p at.before y at.behind ∙ ap (λ l. p y || list_any p l) (sym at.less)

    pub sum-parted : (f : X → ℕ) → sum_by f xs ≡ f x + sum_by f (without nx name xs)
    sum-parted f = let at = parted name x xs rises found in
        ap (sum_by f) at.all ∙ sum-among f at.before x at.behind ∙ ap (λ l. f x + sum_by f l) (sym at.less)

    pub sum-changed : (f : X → ℕ) (y : X) → sum_by f (change_by nx name (λ _. y) xs) ≡ f y + sum_by f (without nx name xs)
    sum-changed f y = let at = parted name x xs rises found in
        ap (sum_by f) (at.changed y) ∙ sum-among f at.before y at.behind ∙ ap (λ l. f y + sum_by f l) (sym at.less)

    -- a test of the items of a name
    pub any-named : (p : X → Bool) → list_any (λ y. bytes_eq (nx y) name && p y) xs ≡ p x
    any-named p = any-parted (λ y. bytes_eq (nx y) name && p y) ∙ here ∙ none where
      q : X → Bool
      q y = bytes_eq (nx y) name && p y

      here : (bytes_eq (nx x) name && p x || list_any (λ y. bytes_eq (nx y) name && p y) (without nx name xs))
          ≡ (p x || list_any (λ y. bytes_eq (nx y) name && p y) (without nx name xs))
      here = rw (find_named nx name x xs found) refl

      none : (p x || list_any (λ y. bytes_eq (nx y) name && p y) (without nx name xs)) ≡ p x
      none = rw (any_none (λ y. bytes_eq (nx y) name && p y) (without nx name xs)
          (All-map _ (λ y. bytes_eq (nx y) name && p y ≡ false) (λ y e. rw e refl) (without nx name xs) (others-without nx name xs))) (or_false (p x)) where
            or_false : (b : Bool) → (b || false) ≡ b
            or_false true = refl
            or_false false = refl

  -- the list with another item of the name in its place
  module _ (name : Name) (y : X) (named : nx y ≡ name) where
    same_names : (x : X) → nx (cond (bytes_eq (nx x) name) y x) ≡ nx x
    same_names x = cond_both (bytes_eq (nx x) name) y x (λ z. nx z ≡ nx x) (λ e. named ∙ sym (same_name (nx x) name e)) (λ e. refl)

    pub rises-swapped : (xs : List X) → Rises nx xs → Rises nx (change_by nx name (λ _. y) xs)
    rises-swapped xs rises = rises_map (λ x. cond (bytes_eq (nx x) name) y x) nx nx same_names xs rises

  pub All-swapped : (P : X → Type 0) (name : Name) (y : X) → P y → (xs : List X) → AllByRecursion P xs → AllByRecursion P (change_by nx name (λ _. y) xs)
  All-swapped P name y holds [] all = tt
  All-swapped P name y holds (x ∷ xs) all =
      (cond_both (bytes_eq (nx x) name) y x P (λ e. holds) (λ e. all.0), All-swapped P name y holds xs all.1)
