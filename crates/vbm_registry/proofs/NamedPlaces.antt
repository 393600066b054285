-- A name at a place is that of one place alone, where names rise and none is empty.
use Rattle.std.proofs.Common.{◌≡◌, ◌<◌, ℕ, zero, suc, ◌+◌, Bool, true, false, not, ◌&&◌, ◌||◌, List, [], ◌∷◌, map, length, get_or, Option, Some, None, refl, sym, ap, subst, ◌∙◌, arith, IsTrue}
use Rattle.std.specs.Prelude.{◌==◌, find, count_by}
use Rattle.std.specs.List.{AllByRecursion, list_any, list_all, slice_get}
use Rattle.std.specs.Option.{option_map}
use Rattle.std.specs.Str.{bytes_eq}
use Rattle.std.proofs.lemmas.Bool.Decides.{nat_tests}
use Rattle.vbm_named.specs.Names.{Name, is_before, find_by, Rises}
use Rattle.vbm_named.proofs.Lists.{name_refl, name_sym, before_other}
use Rattle.vbm_registry.specs.AtPlaces.{AreNamed}

module _ {X : Type 0} (nx : X → Name) where
  apart : (x : X) (xs : List X) → AllByRecursion (λ y. IsTrue (is_before (nx x) (nx y))) xs → IsTrue (is_before [] (nx x)) → (p : ℕ)
      → bytes_eq (nx x) (get_or (map nx xs) p []) ≡ false
  apart x [] all begun p = name_sym (nx x) [] ∙ before_other [] (nx x) begun
  apart x (y ∷ ys) all begun zero = before_other (nx x) (nx y) all.0
  apart x (y ∷ ys) all begun (suc p) = apart x ys all.1 begun p

  rest_named : (x : X) (xs : List X) → AreNamed nx (x ∷ xs) → AreNamed nx xs
  rest_named x xs named = record { rises = named.rises.1; begun = named.begun.1 }

  pub name_get : (xs : List X) (p : ℕ) (x : X) → slice_get xs p ≡ Some x → get_or (map nx xs) p [] ≡ nx x
  name_get [] p x at = absurd cc
  name_get (y ∷ ys) zero x at = let same : y ≡ x = cc in ap nx same
  name_get (y ∷ ys) (suc p) x at = name_get ys p x at

  -- what has the name at a place is what stands there
  pub found_at : (xs : List X) (p : ℕ) → AreNamed nx xs → find_by nx (get_or (map nx xs) p []) xs ≡ slice_get xs p
  found_at [] p named = refl
  found_at (x ∷ xs) zero named = rw (name_refl (nx x)) refl
  found_at (x ∷ xs) (suc p) named =
      rw (apart x xs named.rises.0 named.begun.0 p) (found_at xs p (rest_named x xs named))

  -- names are the same at the same places, if one is in the list
  pub same_place : (xs : List X) (p q : ℕ) → AreNamed nx xs → p < length xs
      → bytes_eq (get_or (map nx xs) p []) (get_or (map nx xs) q []) ≡ (p == q)
  same_place [] p q named within = absurd (omega arith)
  same_place (x ∷ xs) zero zero named within = name_refl (nx x)
  same_place (x ∷ xs) zero (suc q) named within =
      let no : (0 == suc q) ≡ false = grind (arith, nat_tests) in apart x xs named.rises.0 named.begun.0 q ∙ sym no
  same_place (x ∷ xs) (suc p) zero named within =
      let no : (suc p == 0) ≡ false = grind (arith, nat_tests) in
      name_sym (get_or (map nx xs) p []) (nx x) ∙ apart x xs named.rises.0 named.begun.0 p ∙ sym no
  same_place (x ∷ xs) (suc p) (suc q) named within =
      let less : p < length xs = omega arith in
      let same : (suc p == suc q) ≡ (p == q) = grind (arith, nat_tests) in
      same_place xs p q (rest_named x xs named) less ∙ sym same

-- ---- lists in another form

module _ {X Y : Type 0} (f : X → Y) (p : Y → Bool) (q : X → Bool) (same : (x : X) → p (f x) ≡ q x) where
  pub any_same : (xs : List X) → list_any p (map f xs) ≡ list_any q xs
  any_same [] = refl
  any_same (x ∷ xs) = λ i. same x i || any_same xs i

  pub all_same : (xs : List X) → list_all p (map f xs) ≡ list_all q xs
  all_same [] = refl
  all_same (x ∷ xs) = λ i. same x i && all_same xs i

module _ {X Y : Type 0} (f : X → Y) (p : Y → Bool) (q : X → Bool) where
  -- the same of the items of the list alone
  pub all_same_in : (xs : List X) → AllByRecursion (λ x. p (f x) ≡ q x) xs → list_all p (map f xs) ≡ list_all q xs
  all_same_in [] same = refl
  all_same_in (x ∷ xs) same = λ i. same.0 i && all_same_in xs same.1 i
