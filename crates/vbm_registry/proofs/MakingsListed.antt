-- Which makings and mergings fit the file.
use Rattle.std.proofs.Common.{◌≡◌, ℕ, ◌^◌, ◌<◌, ◌≤◌, Bool, true, not, ◌&&◌, List, [], ◌∷◌, ◌++◌, length, IsTrue, IsFalse, Option, Some, None, IfSome, leb, refl, arith}
use Rattle.std.specs.Int.{w8, w16, w64}
use Rattle.std.specs.List.{AllByRecursion}
use Rattle.std.proofs.lemmas.Bool.{lt-ltb}
use Rattle.vbm_ports.specs.Names.{is_medium_name}
use Rattle.vbm_named.specs.Names.{Name, has_name}
use Rattle.vbm_world.specs.declared.limits.TheConstants.{PORT_LIMIT}
use Rattle.vbm_registry.specs.declared.media.Medium.{Medium}
use Rattle.vbm_registry.specs.declared.library.ImageRef.{ImageRef}
use Rattle.vbm_registry.specs.declared.library.ImageRef.TheVariants as refs
use Rattle.vbm_registry.specs.declared.library.Merging.{Merging}
use Rattle.vbm_registry.specs.declared.features.Features.{Features}
use Rattle.vbm_registry.specs.Library.{medium_entry_name}
use Rattle.vbm_registry.specs.Built.{limit_if, EmptyUnless}
use Rattle.vbm_registry.specs.Parts.{items_fit, number, counted_list}
use Rattle.vbm_registry.specs.Grammar.{text_field, new_name, making_field, ref_numbers, ref_field, merging_entry, merging_list}
use Rattle.vbm_registry.proofs.PartLaws.{and_both, both_and}
use Rattle.vbm_registry.proofs.GrammarLaws.{not_true}
use Rattle.vbm_registry.proofs.CountedLists.{it_not, limit_is, is_limit, counted_fits, fits_counted, text_fits, medium_name_fits}

-- ---- what is being made

abbrev pub IsFreshName : List Medium → Name → Type 0
IsFreshName media name = IsTrue (is_medium_name name) × IsFalse (has_name medium_entry_name name media)

new_fits : (media : List Medium) (name : Name) → IsTrue ((new_name media).fits name) → IsFreshName media name
unfolding new_name
new_fits media name fits =
    let there = has_name medium_entry_name name media in
    let b = and_both (is_medium_name name) (not there) (and_both (text_field.fits name) (is_medium_name name && not there) fits).1 in
    (b.0, not_true there b.1)

fits_new : (media : List Medium) (name : Name) → IsFreshName media name → IsTrue ((new_name media).fits name)
unfolding new_name
fits_new media name is =
    let there = has_name medium_entry_name name media in
    both_and (text_field.fits name) (is_medium_name name && not there) (text_fits name (medium_name_fits name is.0).1)
    (both_and (is_medium_name name) (not there) is.0 (it_not there is.1))

not_empty : {P : Type 0} (name : Name) → name ∷ [] ≡ [] → P
not_empty name e = absurd cc

module _ (built : Features) where
  abbrev makings : ℕ → Bool
  makings n = leb n (limit_if built.makings 1)

  pub making_fits : (media : List Medium) (o : Option Name) → IsTrue ((making_field built media).fits o)
      → IfSome o (IsFreshName media) × (IsFalse built.makings → o ≡ None)
  unfolding making_field
  making_fits media None fits = (tt, λ off. refl)
  making_fits media (Some name) fits =
      let list = (counted_list w8 makings (λ _ _. new_name media)).fits (name ∷ []) in
      let is = counted_fits w8 makings (λ _ _. new_name media) (name ∷ []) (and_both list true fits).0 in (
        new_fits media name (and_both ((new_name media).fits name) true is.each).0,
        λ off. not_empty name ((limit_is built.makings 1 (name ∷ []) is.count).1 off),
      )

  pub fits_making : (media : List Medium) (o : Option Name) → IfSome o (IsFreshName media) → (IsFalse built.makings → o ≡ None)
      → IsTrue ((making_field built media).fits o)
  unfolding making_field
  fits_making media None is off =
      both_and ((counted_list w8 makings (λ _ _. new_name media)).fits []) true
      (fits_counted w8 makings (λ _ _. new_name media) []
      (record { width = omega arith; count = is_limit {X = Name} built.makings 1 [] (omega arith) (λ h. refl); each = refl })) refl
  fits_making media (Some name) is off =
      both_and ((counted_list w8 makings (λ _ _. new_name media)).fits (name ∷ [])) true
      (fits_counted w8 makings (λ _ _. new_name media) (name ∷ []) (record {
        width = omega arith;
        count = is_limit built.makings 1 (name ∷ []) (omega arith) (λ h. let none = off h in absurd cc);
        each = both_and ((new_name media).fits name) true (fits_new media name is) refl;
      })) refl

-- ---- mergings

-- a number that its field can hold
abbrev pub IsFieldRef : ImageRef → Type 0
IsFieldRef (refs.Medium place) = place < 2 ^ 16
IsFieldRef (refs.Inner n) = n < 2 ^ 64

pub record IsFieldMerging (j : Merging) : Type 0 where
  pub parent : IsFieldRef j.parent
  pub child : j.child < 2 ^ 64
  pub number : j.number < 2 ^ 64

pub fits_ref : (r : ImageRef) → IsFieldRef r → IsTrue (ref_field.fits r)
unfolding ref_field ref_numbers
fits_ref (refs.Medium place) lt = both_and ((number w16).fits place) true (lt-ltb _ _ lt) refl
fits_ref (refs.Inner n) lt = both_and ((number w64).fits n) true (lt-ltb _ _ lt) refl

fits_merging : (j : Merging) → IsFieldMerging j → IsTrue (merging_entry.fits j)
unfolding merging_entry
fits_merging j is =
    let parent = ref_field.fits j.parent in
    let child = (number w64).fits j.child in
    let own = (number w64).fits j.number in
    both_and (parent && (child && own)) true (both_and parent (child && own) (fits_ref j.parent is.parent)
    (both_and child own (lt-ltb _ _ is.child) (lt-ltb _ _ is.number))) refl

fits_mergings : (before xs : List Merging) → AllByRecursion IsFieldMerging xs → IsTrue (items_fit (λ _. merging_entry) before xs)
fits_mergings before [] each = refl
fits_mergings before (j ∷ xs) each =
    both_and (merging_entry.fits j) (items_fit (λ _. merging_entry) (before ++ j ∷ []) xs) (fits_merging j each.0)
    (fits_mergings (before ++ j ∷ []) xs each.1)

module _ (built : Features) where
  abbrev mergings : ℕ → Bool
  mergings n = leb n (limit_if built.mergings PORT_LIMIT)

  pub merging_list_fits : (xs : List Merging) → IsTrue ((merging_list built).fits xs) → (length xs ≤ PORT_LIMIT) × EmptyUnless built.mergings xs
  unfolding merging_list
  merging_list_fits xs fits = limit_is built.mergings PORT_LIMIT xs (counted_fits w8 mergings (λ _ _. merging_entry) xs fits).count

  pub fits_merging_list : (xs : List Merging) → length xs ≤ PORT_LIMIT → EmptyUnless built.mergings xs → AllByRecursion IsFieldMerging xs
      → IsTrue ((merging_list built).fits xs)
  unfolding merging_list
  fits_merging_list xs few empty each =
      let small : length xs < 256 = omega (arith, few) in
      fits_counted w8 mergings (λ _ _. merging_entry) xs
      (record { width = small; count = is_limit built.mergings PORT_LIMIT xs few empty; each = fits_mergings [] xs each })
