-- Inner images fit the file exactly where they keep their rules, said of places.
use Rattle.std.proofs.Common.{◌≡◌, ℕ, ◌+◌, ◌^◌, ◌<◌, ◌≤◌, Bool, true, ◌&&◌, List, [], ◌∷◌, ◌++◌, length, reverse, IsTrue, Option, Some, leb, ltb, refl, sym, ap, subst, ◌∙◌, append_assoc, arith, inl, inr}
use Rattle.std.specs.Prelude.{◌==◌}
use Rattle.std.specs.Int.{w16, w64}
use Rattle.std.specs.List.{list_any}
use Rattle.std.proofs.lemmas.Bool.{ltb-true, lt-ltb, leb-true, le-leb}
use Rattle.std.proofs.lemmas.Bool.Decides.{eqb_tells}
use Rattle.std.proofs.lemmas.List.{append-nil, reverse-append}
use Rattle.vbm_ids.specs.declared.TheConstants.{NUMBER_LIMIT}
use Rattle.vbm_world.specs.declared.limits.TheConstants.{MEDIA_LIMIT}
use Rattle.vbm_world.specs.World.{is_layered}
use Rattle.vbm_registry.specs.declared.media.Medium.{Medium}
use Rattle.vbm_registry.specs.declared.library.Inner.{Inner}
use Rattle.vbm_registry.specs.declared.library.ImageRef.{ImageRef}
use Rattle.vbm_registry.specs.declared.library.ImageRef.TheVariants as refs
use Rattle.vbm_registry.specs.declared.features.Features.{Features}
use Rattle.vbm_registry.specs.Built.{limit_if, EmptyUnless}
use Rattle.vbm_registry.specs.Parts.{items_fit, number}
use Rattle.vbm_registry.specs.Grammar.{mode_at, ref_field, base_down, base_of, may_stand, next_number, inner_number, inner_entry, inner_list}
use Rattle.vbm_registry.proofs.PartLaws.{and_both, both_and}
use Rattle.vbm_registry.proofs.CountedLists.{limit_is, is_limit, counted_fits, fits_counted, last_push}
use Rattle.vbm_registry.proofs.MakingsListed.{IsFieldRef, fits_ref}

abbrev pub is_numbered : ℕ → List Inner → Bool
is_numbered n inners = list_any (λ (x : Inner). x.number == n) inners

-- An inner image stands on a medium that may have some, or on one that is listed earlier.
abbrev pub IsPlacedParent : List Medium → List Inner → ImageRef → Type 0
IsPlacedParent media earlier (refs.Medium place) = (place < length media) × IsTrue (is_layered (mode_at media place))
IsPlacedParent media earlier (refs.Inner n) = IsTrue (is_numbered n earlier)

-- inner images, the last one first: their numbers fall strictly, all below a bound
abbrev pub ArePlacedInners : List Medium → (bound : ℕ) → List Inner → Type 0
ArePlacedInners media bound [] = Unit {0}
ArePlacedInners media bound (x ∷ earlier) = (x.number < bound) × IsPlacedParent media earlier x.parent × ArePlacedInners media x.number earlier

module _ (media : List Medium) where
  down_medium : (xs : List Inner) (place : ℕ) → base_down xs (refs.Medium place) ≡ Some place
  down_medium [] place = refl
  down_medium (x ∷ xs) place = refl

  stands_on : (place : ℕ) → place < length media → IsTrue (is_layered (mode_at media place)) → IsTrue (may_stand media (Some place))
  stands_on place lt layered = both_and (ltb place (length media)) (is_layered (mode_at media place)) (lt-ltb _ _ lt) layered

  -- the medium at the end of the parents may have inner images
  parent_stands : (bound : ℕ) (xs : List Inner) (r : ImageRef) → ArePlacedInners media bound xs → IsPlacedParent media xs r
      → IsTrue (may_stand media (base_down xs r))
  parent_stands bound [] (refs.Medium place) are parent = stands_on place parent.0 parent.1
  parent_stands bound [] (refs.Inner n) are parent = absurd cc
  parent_stands bound (x ∷ xs) (refs.Medium place) are parent = stands_on place parent.0 parent.1
  parent_stands bound (x ∷ xs) (refs.Inner n) are parent =
      elim (eqb_tells x.number n) [
        | inl e ↦ rw e.0 (parent_stands x.number xs x.parent are.2 are.1)
        | inr e ↦ rw e.0 (parent_stands x.number xs (refs.Inner n) are.2 (rw e.0 at parent))
      ]

  on_medium : (xs : List Inner) (place : ℕ) → IsTrue (may_stand media (base_down xs (refs.Medium place)))
      → IsPlacedParent media xs (refs.Medium place)
  on_medium xs place h =
      let is : IsTrue (may_stand media (Some place)) = subst (λ (o : Option ℕ). IsTrue (may_stand media o)) (down_medium xs place) h in
      let b = and_both (ltb place (length media)) (is_layered (mode_at media place)) is in
      (ltb-true _ _ b.0, b.1)

  stands_parent : (xs : List Inner) (r : ImageRef) → IsTrue (may_stand media (base_down xs r)) → IsPlacedParent media xs r
  stands_parent xs (refs.Medium place) h = on_medium xs place h
  stands_parent [] (refs.Inner n) h = absurd cc
  stands_parent (x ∷ xs) (refs.Inner n) h =
      elim (eqb_tells x.number n) [
        | inl e ↦ rw e.0 refl
        | inr e ↦ rw e.0 (stands_parent xs (refs.Inner n) (rw e.0 at h))
      ]

  widen : (a b : ℕ) (xs : List Inner) → a ≤ b → ArePlacedInners media a xs → ArePlacedInners media b xs
  widen a b [] le are = tt
  widen a b (x ∷ xs) le are = (omega (arith, are.0), are.1, are.2)

  -- one more than the first number
  abbrev after_first : List Inner → ℕ
  after_first [] = 0
  after_first (x ∷ xs) = x.number + 1

  narrow : (a b : ℕ) (xs : List Inner) → after_first xs ≤ b → ArePlacedInners media a xs → ArePlacedInners media b xs
  narrow a b [] le are = tt
  narrow a b (x ∷ xs) le are = (omega (arith, le), are.1, are.2)

  first_below : (bound : ℕ) (xs : List Inner) → ArePlacedInners media bound xs → after_first xs ≤ bound
  first_below bound [] are = omega arith
  first_below bound (x ∷ xs) are = omega (arith, are.0)

  pub number_below : (n bound : ℕ) (xs : List Inner) → ArePlacedInners media bound xs → IsTrue (is_numbered n xs) → n < bound
  number_below n bound [] are h = absurd cc
  number_below n bound (x ∷ xs) are h =
      elim (eqb_tells x.number n) [
        | inl e ↦ omega (arith, are.0, e.1)
        | inr e ↦ omega (arith, are.0, number_below n x.number xs are.2 (rw e.0 at h))
      ]

  behind : (bound : ℕ) (ys zs : List Inner) → ArePlacedInners media bound (ys ++ zs) → ArePlacedInners media bound zs
  behind bound [] zs are = are
  behind bound (y ∷ ys) zs are = widen y.number bound zs (omega (arith, are.0)) (behind y.number ys zs are.2)

  pub field_ref : (bound : ℕ) (xs : List Inner) (r : ImageRef) → length media ≤ MEDIA_LIMIT → bound ≤ NUMBER_LIMIT → ArePlacedInners media bound xs
      → IsPlacedParent media xs r → IsFieldRef r
  field_ref bound xs (refs.Medium place) few low are parent = omega (arith, parent.0, few)
  field_ref bound xs (refs.Inner n) few low are parent = omega (arith, number_below n bound xs are parent, low)

  -- ---- one inner image

  record InnerFits (inner : ℕ) (before : List Inner) (x : Inner) : Type 0 where
    next : next_number before ≤ x.number
    below : x.number < inner
    parent : IsTrue (may_stand media (base_of before x.parent))

  inner_fits : (inner : ℕ) (before : List Inner) (x : Inner) → IsTrue ((inner_entry media inner before).fits x) → InnerFits inner before x
  unfolding inner_entry inner_number
  inner_fits inner before x fits =
      let n0 = (number w64).fits x.number in
      let n1 = leb (next_number before) x.number in
      let n2 = ltb x.number inner in
      let r0 = ref_field.fits x.parent in
      let r1 = may_stand media (base_of before x.parent) in
      let a = and_both ((n0 && (n1 && n2)) && (r0 && r1)) true fits in
      let b = and_both (n0 && (n1 && n2)) (r0 && r1) a.0 in
      let n = and_both n1 n2 (and_both n0 (n1 && n2) b.0).1 in
      record { next = leb-true _ _ n.0; below = ltb-true _ _ n.1; parent = (and_both r0 r1 b.1).1 }

  fits_inner : (inner : ℕ) (before : List Inner) (x : Inner) → inner ≤ NUMBER_LIMIT → IsTrue (ref_field.fits x.parent) → InnerFits inner before x
      → IsTrue ((inner_entry media inner before).fits x)
  unfolding inner_entry inner_number
  fits_inner inner before x low ref is =
      let n0 = (number w64).fits x.number in
      let n1 = leb (next_number before) x.number in
      let n2 = ltb x.number inner in
      let r0 = ref_field.fits x.parent in
      let r1 = may_stand media (base_of before x.parent) in
      let lt : x.number < 2 ^ 64 = omega (arith, is.below, low) in
      both_and ((n0 && (n1 && n2)) && (r0 && r1)) true (both_and (n0 && (n1 && n2)) (r0 && r1)
      (both_and n0 (n1 && n2) (lt-ltb _ _ lt) (both_and n1 n2 (le-leb _ _ is.next) (lt-ltb _ _ is.below))) (both_and r0 r1 ref is.parent)) refl

  -- ---- all of them

  turned : (before : List Inner) (x : Inner) → reverse (before ++ x ∷ []) ≡ x ∷ reverse before
  turned before x = reverse-append before (x ∷ [])

  next_push : (before : List Inner) (x : Inner) → next_number (before ++ x ∷ []) ≡ after_first (reverse (before ++ x ∷ []))
  next_push before x = last_push 0 (λ (y : Inner). y.number + 1) before x ∙ ap after_first (sym (turned before x))

  inners_fit : (inner : ℕ) (before xs : List Inner) → next_number before ≡ after_first (reverse before) → ArePlacedInners media inner (reverse before)
      → IsTrue (items_fit (inner_entry media inner) before xs) → ArePlacedInners media inner (reverse (before ++ xs))
  inners_fit inner before [] next are fits = rw append-nil are
  inners_fit inner before (x ∷ xs) next are fits =
      let both = and_both ((inner_entry media inner before).fits x) (items_fit (inner_entry media inner) (before ++ x ∷ []) xs) fits in
      let here = inner_fits inner before x both.0 in
      let le : after_first (reverse before) ≤ x.number = omega (arith, here.next, next) in
      let more : ArePlacedInners media inner (x ∷ reverse before) =
      (here.below, stands_parent (reverse before) x.parent here.parent, narrow inner x.number (reverse before) le are) in
      let one = subst (ArePlacedInners media inner) (sym (turned before x)) more in
      let all = inners_fit inner (before ++ x ∷ []) xs (next_push before x) one both.1 in
      subst (λ (ys : List Inner). ArePlacedInners media inner (reverse ys)) (append_assoc before (x ∷ []) xs) all

  fit_inners : (inner : ℕ) (before xs : List Inner) → length media ≤ MEDIA_LIMIT → inner ≤ NUMBER_LIMIT
      → next_number before ≡ after_first (reverse before)
      → ArePlacedInners media inner (reverse (before ++ xs)) → IsTrue (items_fit (inner_entry media inner) before xs)
  fit_inners inner before [] few low next are = refl
  fit_inners inner before (x ∷ xs) few low next are =
      let again : ArePlacedInners media inner (reverse ((before ++ x ∷ []) ++ xs)) =
      subst (λ (ys : List Inner). ArePlacedInners media inner (reverse ys)) (sym (append_assoc before (x ∷ []) xs)) are in
      let split : ArePlacedInners media inner (reverse xs ++ (x ∷ reverse before)) =
      subst (ArePlacedInners media inner)
      (reverse-append (before ++ x ∷ []) xs ∙ ap (λ (ys : List Inner). reverse xs ++ ys) (turned before x)) again in
      let here : ArePlacedInners media inner (x ∷ reverse before) = behind inner (reverse xs) (x ∷ reverse before) split in
      let parent = fits_ref x.parent (field_ref x.number (reverse before) x.parent few (omega (arith, here.0, low)) here.2 here.1) in
      both_and ((inner_entry media inner before).fits x) (items_fit (inner_entry media inner) (before ++ x ∷ []) xs)
      (fits_inner inner before x low parent (record {
        next = omega (arith, next, first_below x.number (reverse before) here.2);
        below = here.0;
        parent = parent_stands x.number (reverse before) x.parent here.2 here.1;
      }))
      (fit_inners inner (before ++ x ∷ []) xs few low (next_push before x) again)

  module _ (built : Features) (inner : ℕ) where
    abbrev inner_count : ℕ → Bool
    inner_count n = leb n (limit_if built.inner_images 65535)

    pub inner_list_fits : (xs : List Inner) → IsTrue ((inner_list built media inner).fits xs)
        → ArePlacedInners media inner (reverse xs) × EmptyUnless built.inner_images xs
    unfolding inner_list
    inner_list_fits xs fits =
        let is = counted_fits w16 inner_count (λ _. inner_entry media inner) xs fits in
        (inners_fit inner [] xs refl tt is.each, (limit_is built.inner_images 65535 xs is.count).1)

    pub fits_inner_list : (xs : List Inner) → length media ≤ MEDIA_LIMIT → inner ≤ NUMBER_LIMIT → length xs ≤ 65535
        → ArePlacedInners media inner (reverse xs) → EmptyUnless built.inner_images xs → IsTrue ((inner_list built media inner).fits xs)
    unfolding inner_list
    fits_inner_list xs few low short are empty =
        let small : length xs < 65536 = omega (arith, short) in
        fits_counted w16 inner_count (λ _. inner_entry media inner) xs
        (record { width = small; count = is_limit built.inner_images 65535 xs short empty; each = fit_inners inner [] xs few low refl are })
