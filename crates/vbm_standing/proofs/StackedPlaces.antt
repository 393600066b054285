-- An own image of a normal medium stands on what the upper snapshot has of the medium, or it is merged into the medium's own.
use Rattle.std.proofs.Common.{◌≡◌, ℕ, Bool, true, false, ◌||◌, ◌&&◌, List, [], ◌∷◌, reverse, Option, Some, None, refl, sym, ap, subst, ◌∙◌, arith, inl, inr, eqb-true}
use Rattle.std.specs.Prelude.{◌⊎◌, ◌==◌}
use Rattle.std.specs.List.{AllByRecursion, list_any}
use Rattle.std.specs.Str.{bytes_eq}
use Rattle.std.proofs.lemmas.Bool.{cases_Bool, and_parts, ne_eqb}
use Rattle.std.proofs.lemmas.Slice.Eq.{bytes_eq-Decides}
use Rattle.vbm_modes.specs.declared.Mode.{Mode}
use Rattle.vbm_modes.specs.declared.Mode.TheVariants.{Normal, Immutable, Writethrough, MultiAttach, Readonly}
use Rattle.vbm_modes.specs.Modes.{is_own}
use Rattle.vbm_machines.specs.declared.Held.{Held}
use Rattle.vbm_machines.specs.declared.Held.TheVariants.{Direct, Own, Base}
use Rattle.vbm_named.specs.Names.{Name, find_by}
use Rattle.vbm_named.proofs.Lists.{name_refl, All-map}
use Rattle.vbm_world.specs.World.{is_normal}
use Rattle.vbm_registry.specs.declared.media.Medium.{Medium}
use Rattle.vbm_registry.specs.Library.{medium_entry_name}
use Rattle.vbm_registry.specs.Named.{ImageName, OfMedium, OfInner, NamedInner, NamedSlot, NamedMerging, NamedLibrary, images_of}
use Rattle.vbm_registry.specs.Chains.{parent_down, inner_down, images_down, chain_of, medium_below, parent_in, parent_of, merging_into}
use Rattle.vbm_registry.specs.Rules.{has_mode, is_medium_of, AreInners, IsOwnOf, IsNamedSlot, is_held, holds, is_common, is_above, is_some_above, is_parent_above, is_stacked_on, has_slot_at, IsLibrary}
use Rattle.vbm_standing.specs.EditedFiles.{IsImageIn}
use Rattle.vbm_standing.proofs.ChainLaws.{IsUnder}
use Rattle.vbm_standing.proofs.ChainFrames.{parent-in, in-more, in-under}

or_one : (b c : Bool) → c ≡ true → (b || c) ≡ true
or_one true c e = refl
or_one false c e = e

pub any-more : {X : Type 0} (p q : X → Bool) (xs : List X) → AllByRecursion (λ x. p x ≡ true → q x ≡ true) xs → list_any p xs ≡ true
    → list_any q xs ≡ true
any-more p q [] all any = any
any-more p q (x ∷ xs) all any = elim (cases_Bool (p x)) [
  | inl here ↦ let also = all.0 here in rw also refl
  | inr other ↦ or_one (q x) _ (any-more p q xs all.1 (rw other at any))
]

-- ---- the medium below a parent

module _ (media : List Medium) where
  skip : (y : NamedInner) (xs : List NamedInner) (image : ImageName) → IsUnder y.number image → images_down (y ∷ xs) image ≡ images_down xs image
  unfolding inner_down
  skip y xs (OfMedium name) under = refl
  skip y xs (OfInner n) under = let other : (y.number == n) ≡ false = ne_eqb y.number n (λ same. omega (arith, same)) in rw other refl

  -- a parent of a listed image is listed
  pub parent-listed : (bound : ℕ) (xs : List NamedInner) (n : ℕ) (parent : ImageName) → AreInners media bound xs → parent_in xs n ≡ Some parent
      → IsImageIn media xs parent
  parent-listed bound [] n parent are e = absurd cc
  parent-listed bound (x ∷ xs) n parent are e = elim (cases_Bool (x.number == n)) [
    | inl here ↦
        let found : Some x.parent ≡ Some parent = rw here at e in
        let same : x.parent ≡ parent = cc in
        subst (IsImageIn media (x ∷ xs)) same (in-more media x xs x.parent (parent-in media xs x.parent are.1))
    | inr other ↦ in-more media x xs parent (parent-listed x.number xs n parent are.2 (rw other at e))
  ]

  -- an image that has a parent has the medium of its parent
  below-parent : (bound : ℕ) (xs : List NamedInner) (n : ℕ) (parent : ImageName) → AreInners media bound xs → parent_in xs n ≡ Some parent
      → medium_below (inner_down xs n) ≡ medium_below (images_down xs parent)
  unfolding inner_down
  below-parent bound [] n parent are e = absurd cc
  below-parent bound (x ∷ xs) n parent are e = elim (cases_Bool (x.number == n)) [
    | inl here ↦
        let found : Some x.parent ≡ Some parent = rw here at e in
        let same : x.parent ≡ parent = cc in
        let under : IsUnder x.number x.parent = in-under media x.number xs x.parent are.2 (parent-in media xs x.parent are.1) in
        rw here (ap (λ i. medium_below (parent_down (inner_down xs) i)) same
        ∙ ap medium_below (sym (skip x xs parent (subst (IsUnder x.number) same under))))
    | inr other ↦
        let found = rw other at e in
        let listed = parent-listed x.number xs n parent are.2 found in
        rw other (below-parent x.number xs n parent are.2 found
        ∙ ap medium_below (sym (skip x xs parent (in-under media x.number xs parent are.2 listed))))
  ]

pub parent-below : (l : NamedLibrary) (n : ℕ) (parent : ImageName) → IsLibrary l → parent_of l.inners n ≡ Some parent
    → medium_below (chain_of l.inners (OfInner n)) ≡ medium_below (chain_of l.inners parent)
parent-below l n parent is e = below-parent l.media l.inner (reverse l.inners) n parent is.inners e

-- ---- a place on another

-- the image of a number is merged into the medium's own
pub record IsMergedDown (l : NamedLibrary) (medium : Name) (n : ℕ) : Type 0 where
  pub merging : NamedMerging
  pub into : merging_into (OfMedium medium) l.merging ≡ Some merging
  pub child : merging.child ≡ n

module _ (l : NamedLibrary) (is : IsLibrary l) where
  -- a place that holds the image is of the medium below it
  pub held-medium : (image : ImageName) (medium : Name) (h : Held) → IsOwnOf l.inners medium h → is_held image medium h ≡ true
      → medium_below (chain_of l.inners image) ≡ Some medium
  held-medium image medium Direct own held = absurd cc
  held-medium (OfInner j) medium (Own i) own held =
      let same : j ≡ i = eqb-true j i held in ap (λ k. medium_below (chain_of l.inners (OfInner k))) same ∙ own
  held-medium (OfMedium x) medium (Own i) own held = absurd cc
  held-medium (OfInner j) medium Base own held = absurd cc
  held-medium (OfMedium x) medium Base own held = ap Some ((bytes_eq-Decides x medium).0 held)

  not_own : (mode : Mode) → is_normal mode ≡ true → is_own mode ≡ false
  not_own Normal e = refl
  not_own Immutable e = absurd cc
  not_own MultiAttach e = absurd cc
  not_own Writethrough e = absurd cc
  not_own Readonly e = absurd cc

  module _ (upper : List NamedSlot) (port n : ℕ) (medium : Name) (m : Medium) (there : find_by medium_entry_name medium l.media ≡ Some m)
      (normal : is_normal m.mode ≡ true) (own : medium_below (chain_of l.inners (OfInner n)) ≡ Some medium)
      (places : AllByRecursion (IsNamedSlot (images_of l) true) upper) where
    not-common : (image : ImageName) → medium_below (chain_of l.inners image) ≡ Some medium → is_common l.media image ≡ false
    not-common (OfMedium x) below =
        let same : x ≡ medium = cc in
        ap (is_medium_of is_own l.media) same ∙ ap (has_mode is_own) there ∙ not_own m.mode normal
    not-common (OfInner j) below = refl

    or_left : (b c : Bool) → c ≡ false → (b || c) ≡ true → b ≡ true
    or_left true c none both = refl
    or_left false c none both = let clash : true ≡ false = sym both ∙ none in absurd cc

    above-has : (image : ImageName) → medium_below (chain_of l.inners image) ≡ Some medium → is_above l.media upper port image ≡ true
        → has_slot_at port medium upper ≡ true
    above-has image below above =
        any-more (λ (t : NamedSlot). t.port == port && holds image t) (λ (t : NamedSlot). t.port == port && bytes_eq t.medium medium) upper
        (All-map (IsNamedSlot (images_of l) true) _ (λ t of both.
        let parts = and_parts (t.port == port) (holds image t) both in
        let same : Some t.medium ≡ Some medium = sym (held-medium image t.medium t.held of.own parts.1) ∙ below in
        let name : t.medium ≡ medium = cc in
        let equal : bytes_eq t.medium medium ≡ true = ap (λ x. bytes_eq x medium) name ∙ name_refl medium in
        let at = parts.0 in rw (at, equal) refl) upper places)
        (or_left _ (is_common l.media image) (not-common image below) above)

    -- through an image that is being merged
    some_above-has : (k : ℕ) (o : Option ImageName) → parent_of l.inners k ≡ o → medium_below (chain_of l.inners (OfInner k)) ≡ Some medium
        → is_some_above l.media upper port o ≡ true → has_slot_at port medium upper ≡ true
    some_above-has k None e below above = absurd cc
    some_above-has k (Some image) e below above = above-has image (sym (parent-below l k image is e) ∙ below) above

    abbrev Stands : Type 0
    Stands = has_slot_at port medium upper ≡ true ⊎ IsMergedDown l medium n

    parent-stands : (parent : ImageName) (o : Option NamedMerging) → merging_into parent l.merging ≡ o
        → medium_below (chain_of l.inners parent) ≡ Some medium → is_parent_above (images_of l) upper port n parent o ≡ true → Stands
    parent-stands parent None e below above = inl (above-has parent below above)
    parent-stands (OfMedium x) (Some j) e below above =
        let same : x ≡ medium = cc in
        inr (record { merging = j; into = ap (λ y. merging_into (OfMedium y) l.merging) (sym same) ∙ e; child = eqb-true j.child n above })
    parent-stands (OfInner k) (Some j) e below above =
        let both = and_parts (j.child == n) (is_some_above l.media upper port (parent_of l.inners k)) above in
        inl (some_above-has k (parent_of l.inners k) refl below both.1)

    stacked-stands : (o : Option ImageName) → parent_of l.inners n ≡ o → is_stacked_on (images_of l) upper port n o ≡ true → Stands
    stacked-stands None e stacked = absurd cc
    stacked-stands (Some parent) e stacked =
        parent-stands parent (merging_into parent l.merging) refl (sym (parent-below l n parent is e) ∙ own) stacked

    pub upper-has : is_stacked_on (images_of l) upper port n (parent_of l.inners n) ≡ true
        → has_slot_at port medium upper ≡ true ⊎ IsMergedDown l medium n
    upper-has stacked = stacked-stands (parent_of l.inners n) refl stacked
