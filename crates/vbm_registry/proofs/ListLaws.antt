-- Lists.
use Rattle.std.proofs.Common.{◌≡◌, ℕ, ◌+◌, Bool, true, false, cond, ◌||◌, List, [], ◌∷◌, ◌++◌, map, reverse, refl, sym, ap, subst, ◌∙◌, IsTrue}
use Rattle.std.specs.Prelude.{filter}
use Rattle.std.specs.List.{AllByRecursion, list_any}
use Rattle.std.proofs.lemmas.Bool.{cond_both}
use Rattle.std.proofs.lemmas.List.{append-nil, map-append, reverse-append, reverse-reverse}
use Rattle.std.proofs.lemmas.List.Elements.{filter-append}
use Rattle.std.specs.Prelude.{sum_by}
use Rattle.std.proofs.Common.{arith}
use Rattle.std.proofs.lemmas.List.Sums.{sum_by-cons}
use Rattle.vbm_named.specs.Names.{Name, is_before, put_by, Rises}
use Rattle.vbm_named.proofs.Lists.{put_cases, All-map}

or_swap : (a b c : Bool) → (a || (b || c)) ≡ (b || (a || c))
or_swap true true c = refl
or_swap true false c = refl
or_swap false true c = refl
or_swap false false c = refl

module _ {X : Type 0} where
  pub reverse-cons : (x : X) (xs : List X) → reverse (x ∷ xs) ≡ reverse xs ++ x ∷ []
  reverse-cons x xs = reverse-append (x ∷ []) xs

  pub All-append : (P : X → Type 0) (xs ys : List X) → AllByRecursion P xs → AllByRecursion P ys → AllByRecursion P (xs ++ ys)
  All-append P [] ys a b = b
  All-append P (x ∷ xs) ys a b = (a.0, All-append P xs ys a.1 b)

  pub All-reverse : (P : X → Type 0) (xs : List X) → AllByRecursion P xs → AllByRecursion P (reverse xs)
  All-reverse P [] all = tt
  All-reverse P (x ∷ xs) all = subst (AllByRecursion P) (sym (reverse-cons x xs)) (All-append P (reverse xs) (x ∷ []) (All-reverse P xs all.1) (all.0, tt))

  pub All-of_reverse : (P : X → Type 0) (xs : List X) → AllByRecursion P (reverse xs) → AllByRecursion P xs
  All-of_reverse P xs all = subst (AllByRecursion P) (reverse-reverse xs) (All-reverse P (reverse xs) all)

  pub filter-reverse : (p : X → Bool) (xs : List X) → reverse (filter p xs) ≡ filter p (reverse xs)
  filter-reverse p [] = refl
  filter-reverse p (x ∷ xs) =
      cond_both (p x) (x ∷ filter p xs) (filter p xs) (λ l. reverse l ≡ filter p (reverse (x ∷ xs)))
      (λ e. reverse-cons x (filter p xs) ∙ ap (λ l. l ++ x ∷ []) (filter-reverse p xs) ∙ sym (last e))
      (λ e. filter-reverse p xs ∙ sym (first e))
    where
      whole : filter p (reverse (x ∷ xs)) ≡ filter p (reverse xs) ++ filter p (x ∷ [])
      whole = ap (filter p) (reverse-cons x xs) ∙ filter-append p (reverse xs) (x ∷ [])

      last : p x ≡ true → filter p (reverse (x ∷ xs)) ≡ filter p (reverse xs) ++ x ∷ []
      last e = whole ∙ ap (λ b. filter p (reverse xs) ++ cond b (x ∷ []) []) e

      first : p x ≡ false → filter p (reverse (x ∷ xs)) ≡ filter p (reverse xs)
      first e = whole ∙ ap (λ b. filter p (reverse xs) ++ cond b (x ∷ []) []) e ∙ append-nil (filter p (reverse xs))

  pub any_put : (nx : X → Name) (p : X → Bool) (x : X) (xs : List X) → list_any p (put_by nx x xs) ≡ (p x || list_any p xs)
  unfolding put_by
  any_put nx p x [] = refl
  any_put nx p x (y ∷ ys) =
      cond_both (is_before (nx x) (nx y)) (x ∷ y ∷ ys) (y ∷ put_by nx x ys) (λ l. list_any p l ≡ (p x || (p y || list_any p ys)))
      (λ e. refl) (λ e. ap (λ b. p y || b) (any_put nx p x ys) ∙ or_swap (p y) (p x) (list_any p ys))

module _ {X Y : Type 0} where
  pub map-same : (f g : X → Y) (xs : List X) → AllByRecursion (λ x. f x ≡ g x) xs → map f xs ≡ map g xs
  map-same f g [] all = refl
  map-same f g (x ∷ xs) all = λ i. all.0 i ∷ map-same f g xs all.1 i

  pub reverse_map : (f : X → Y) (xs : List X) → reverse (map f xs) ≡ map f (reverse xs)
  reverse_map f [] = refl
  reverse_map f (x ∷ xs) =
      reverse-cons (f x) (map f xs) ∙ ap (λ ys. ys ++ f x ∷ []) (reverse_map f xs)
      ∙ sym (ap (map f) (reverse-cons x xs) ∙ map-append f (reverse xs) (x ∷ []))

  pub All-from_map : (f : X → Y) (P : Y → Type 0) (xs : List X) → AllByRecursion P (map f xs) → AllByRecursion (λ x. P (f x)) xs
  All-from_map f P [] all = tt
  All-from_map f P (x ∷ xs) all = (all.0, All-from_map f P xs all.1)

  -- names that rise after a change that keeps them rose before it
  pub rises_from_map : (f : X → Y) (nx : X → Name) (ny : Y → Name) → ((x : X) → ny (f x) ≡ nx x) → (xs : List X) → Rises ny (map f xs) → Rises nx xs
  rises_from_map f nx ny keeps [] rises = tt
  rises_from_map f nx ny keeps (x ∷ xs) rises = (
    All-map _ (λ y. IsTrue (is_before (nx x) (nx y))) (λ y h. rw (sym (keeps x), sym (keeps y)) h) xs (All-from_map f _ xs rises.0),
    rises_from_map f nx ny keeps xs rises.1,
  )

pub sum-put : {X : Type 0} (nx : X → Name) (f : X → ℕ) (x : X) (xs : List X) → sum_by f (put_by nx x xs) ≡ f x + sum_by f xs
unfolding put_by
sum-put nx f x [] = sum_by-cons f x []
sum-put nx f x (y ∷ ys) = put_cases nx x y ys (λ l. sum_by f l ≡ f x + sum_by f (y ∷ ys)) (λ e. sum_by-cons f x (y ∷ ys))
    (λ e. let rest = sum-put nx f x ys in sum_by-cons f y (put_by nx x ys) ∙ rw (sum_by-cons f y ys) (omega (arith, rest)))
