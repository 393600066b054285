-- Places in lists in the order of names.
use Rattle.std.proofs.Common.{◌≡◌, ◌≢◌, ◌≤◌, ℕ, zero, suc, ◌+◌, ltb, true, false, not, cond, List, [], ◌∷◌, ◌++◌, map, length, take, Some, refl, sym, ap, subst, ◌∙◌, arith, IsTrue, IsFalse}
use Rattle.std.specs.List.{AllByRecursion, slice_get}
use Rattle.std.specs.Option.{option_map}
use Rattle.std.specs.Str.{bytes_eq}
use Rattle.std.proofs.lemmas.Bool.{cond_both}
use Rattle.std.proofs.lemmas.Bool.Decides.{nat_tests}
use Rattle.vbm_named.specs.Names.{Name, is_before, has_name, put_by, without, Rises}
use Rattle.vbm_named.proofs.Lists.{name_refl, name_sym, before_other, All-get, behind_others, without_none, has_map}
use Rattle.std.proofs.lemmas.List.{map-append, take_more}
use Rattle.std.proofs.lemmas.Option.{get_or_from_slice_get, slice_get_within}
use Rattle.vbm_named.specs.Places.{shifted, closed_up, place_for, name_at}

-- ---- shifted places

shifted_first : (i : ℕ) → shifted 0 i ≡ suc i
shifted_first i = cond_both (ltb i 0) i (i + 1) (λ n. n ≡ suc i) (λ e. absurd (grind (arith, nat_tests))) (λ e. omega arith)

shifted_start : (at : ℕ) → shifted (suc at) 0 ≡ 0
shifted_start at = cond_both (ltb 0 (suc at)) 0 (0 + 1) (λ n. n ≡ 0) (λ e. refl) (λ e. absurd (grind (arith, nat_tests)))

shifted_more : (at i : ℕ) → shifted (suc at) (suc i) ≡ suc (shifted at i)
shifted_more at i = grind (arith, nat_tests)

closed_first : (i : ℕ) → closed_up 0 (suc i) ≡ i
closed_first i = grind (arith, nat_tests)

closed_start : (at : ℕ) → closed_up (suc at) 0 ≡ 0
closed_start at = grind (arith, nat_tests)

closed_more : (at i : ℕ) → closed_up (suc at) (suc i) ≡ suc (closed_up at i)
closed_more at i = grind (arith, nat_tests)

one_more : (n : ℕ) → 1 + n ≡ suc n
one_more n = omega arith

module _ {X : Type 0} where
  -- behind one more item
  behind : (y : X) (ys zs : List X) (at : ℕ) → ((i : ℕ) → slice_get zs (shifted at i) ≡ slice_get ys i)
      → (i : ℕ) → slice_get (y ∷ zs) (shifted (suc at) i) ≡ slice_get (y ∷ ys) i
  behind y ys zs at same zero = rw shifted_start refl
  behind y ys zs at same (suc i) = rw shifted_more (same i)

  behind_gap : (y : X) (ys zs : List X) (at : ℕ) → ((i : ℕ) → i ≢ at → slice_get zs (closed_up at i) ≡ slice_get ys i)
      → (i : ℕ) → i ≢ suc at → slice_get (y ∷ zs) (closed_up (suc at) i) ≡ slice_get (y ∷ ys) i
  behind_gap y ys zs at same zero other = rw closed_start refl
  behind_gap y ys zs at same (suc i) other = rw closed_more (same i (λ e. other (ap suc e)))

module _ {X : Type 0} (nx : X → Name) where
  -- ---- an item that comes in

  -- the others are found at their new places
  pub get_put : (x : X) (xs : List X) (i : ℕ) → slice_get (put_by nx x xs) (shifted (place_for nx (nx x) xs) i) ≡ slice_get xs i
  unfolding put_by
  get_put x [] i = rw shifted_first refl
  get_put x (y ∷ ys) i = elim (is_before (nx x) (nx y)) as (λ b.
      slice_get (cond b (x ∷ y ∷ ys) (y ∷ put_by nx x ys)) (shifted (cond (not b) (1 + place_for nx (nx x) ys) 0) i) ≡ slice_get (y ∷ ys) i) [
        | true ↦ rw shifted_first refl
        | false ↦ rw one_more (behind y ys (put_by nx x ys) (place_for nx (nx x) ys) (get_put x ys) i)
      ]

  -- and the one that came in at its own
  pub get_put_at : (x : X) (xs : List X) → slice_get (put_by nx x xs) (place_for nx (nx x) xs) ≡ Some x
  unfolding put_by
  get_put_at x [] = refl
  get_put_at x (y ∷ ys) = elim (is_before (nx x) (nx y)) as (λ b.
      slice_get (cond b (x ∷ y ∷ ys) (y ∷ put_by nx x ys)) (cond (not b) (1 + place_for nx (nx x) ys) 0) ≡ Some x) [
        | true ↦ refl
        | false ↦ rw one_more (get_put_at x ys)
      ]

  pub name_put : (x : X) (xs : List X) (i : ℕ) → name_at nx (put_by nx x xs) (shifted (place_for nx (nx x) xs) i) ≡ name_at nx xs i
  name_put x xs i = ap (option_map nx) (get_put x xs i)

  pub name_put_at : (x : X) (xs : List X) → name_at nx (put_by nx x xs) (place_for nx (nx x) xs) ≡ Some (nx x)
  name_put_at x xs = ap (option_map nx) (get_put_at x xs)

  pub place_within : (name : Name) (xs : List X) → place_for nx name xs ≤ length xs
  place_within name [] = omega arith
  place_within name (y ∷ ys) =
      cond_both (not (is_before name (nx y))) (1 + place_for nx name ys) 0 (λ n. n ≤ length (y ∷ ys))
      (λ e. omega (arith, place_within name ys)) (λ e. omega arith)

  -- ---- an item that leaves

  -- the others are found at their new places
  pub get_without : (xs : List X) (at : ℕ) (x : X) → Rises nx xs → slice_get xs at ≡ Some x
      → (i : ℕ) → i ≢ at → slice_get (without nx (nx x) xs) (closed_up at i) ≡ slice_get xs i
  get_without [] at x rises there i other = absurd cc
  get_without (y ∷ ys) zero x rises there zero other = absurd (other refl)
  get_without (y ∷ ys) zero x rises there (suc i) other =
      let same : y ≡ x = cc in
      subst (λ z. slice_get (without nx (nx z) (y ∷ ys)) (closed_up 0 (suc i)) ≡ slice_get ys i) same
      (rw (name_refl (nx y), without_none nx (nx y) ys (behind_others nx y ys rises.0), closed_first i) refl)
  get_without (y ∷ ys) (suc at) x rises there i other =
      let apart : bytes_eq (nx y) (nx x) ≡ false = before_other (nx y) (nx x) (All-get _ ys at x rises.0 there) in
      rw apart (behind_gap y ys (without nx (nx x) ys) at (λ j differs. get_without ys at x rises.1 there j differs) i other)

  pub name_without : (xs : List X) (at : ℕ) (x : X) → Rises nx xs → slice_get xs at ≡ Some x
      → (i : ℕ) → i ≢ at → name_at nx (without nx (nx x) xs) (closed_up at i) ≡ name_at nx xs i
  name_without xs at x rises there i other = ap (option_map nx) (get_without xs at x rises there i other)

  pub length-left : (xs : List X) (at : ℕ) (x : X) → Rises nx xs → slice_get xs at ≡ Some x → length (without nx (nx x) xs) + 1 ≡ length xs
  length-left [] at x rises there = absurd cc
  length-left (y ∷ ys) zero x rises there =
      let same : y ≡ x = cc in
      subst (λ z. length (without nx (nx z) (y ∷ ys)) + 1 ≡ length (y ∷ ys)) same
      (rw (name_refl (nx y), without_none nx (nx y) ys (behind_others nx y ys rises.0)) (omega arith))
  length-left (y ∷ ys) (suc at) x rises there =
      let apart : bytes_eq (nx y) (nx x) ≡ false = before_other (nx y) (nx x) (All-get _ ys at x rises.0 there) in
      rw apart (omega (arith, length-left ys at x rises.1 there))

  -- a name stands at one place
  pub one_place : (xs : List X) (i j : ℕ) (x y : X) → Rises nx xs → slice_get xs i ≡ Some x → slice_get xs j ≡ Some y
      → bytes_eq (nx x) (nx y) ≡ true → i ≡ j
  one_place [] i j x y rises at there same = absurd cc
  one_place (z ∷ zs) zero zero x y rises at there same = refl
  one_place (z ∷ zs) zero (suc j) x y rises at there same =
      let is : z ≡ x = cc in
      let apart : bytes_eq (nx z) (nx y) ≡ false = before_other (nx z) (nx y) (All-get _ zs j y rises.0 there) in
      let both : false ≡ true = sym (rw is at apart) ∙ same in absurd cc
  one_place (z ∷ zs) (suc i) zero x y rises at there same =
      let is : z ≡ y = cc in
      let apart : bytes_eq (nx z) (nx x) ≡ false = before_other (nx z) (nx x) (All-get _ zs i x rises.0 at) in
      let both : false ≡ true = sym (rw is at apart) ∙ name_sym (nx y) (nx x) ∙ same in absurd cc
  one_place (z ∷ zs) (suc i) (suc j) x y rises at there same = ap suc (one_place zs i j x y rises.1 at there same)

  -- none before the item at a place has its name
  pub earlier_lack : (xs : List X) (i : ℕ) (x : X) → Rises nx xs → slice_get xs i ≡ Some x → has_name nx (nx x) (take i xs) ≡ false
  earlier_lack [] i x rises at = absurd cc
  earlier_lack (y ∷ ys) zero x rises at = refl
  earlier_lack (y ∷ ys) (suc i) x rises at =
      let apart : bytes_eq (nx y) (nx x) ≡ false = before_other (nx y) (nx x) (All-get _ ys i x rises.0 at) in
      rw (apart, earlier_lack ys i x rises.1 at) refl

-- ---- the first items of a list, and one more

pub take_item : {X : Type 0} (xs : List X) (i : ℕ) (x : X) → slice_get xs i ≡ Some x → take (i + 1) xs ≡ take i xs ++ x ∷ []
take_item xs i x at = take_more xs i x (slice_get_within xs i x at) ∙ ap (λ y. take i xs ++ y ∷ []) (get_or_from_slice_get xs i x x at)

pub map_item : {X Y : Type 0} (f : X → Y) (xs : List X) (i : ℕ) (x : X) → slice_get xs i ≡ Some x
    → map f (take i xs) ++ f x ∷ [] ≡ map f (take (i + 1) xs)
map_item f xs i x at = sym (ap (map f) (take_item xs i x at) ∙ map-append f (take i xs) (x ∷ []))

pub earlier_lack_map : {X : Type 0} (f : X → X) (nx : X → Name) → ((x : X) → nx (f x) ≡ nx x) → (xs : List X) (i : ℕ) (x : X)
    → Rises nx xs → slice_get xs i ≡ Some x → IsFalse (has_name nx (nx x) (map f (take i xs)))
earlier_lack_map f nx keeps xs i x rises at = has_map f nx nx keeps (nx x) (take i xs) ∙ earlier_lack nx xs i x rises at

-- ---- maps that keep names

module _ {X Y : Type 0} (f : X → Y) (nx : X → Name) (ny : Y → Name) (keeps : (x : X) → ny (f x) ≡ nx x) where
  pub name_map : (xs : List X) (i : ℕ) → name_at ny (map f xs) i ≡ name_at nx xs i
  name_map [] i = refl
  name_map (x ∷ xs) zero = ap Some (keeps x)
  name_map (x ∷ xs) (suc i) = name_map xs i
