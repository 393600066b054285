-- The test of the rules on places tells what the rules say.
use Rattle.std.proofs.Common.{◌≡◌, ℕ, ◌+◌, ◌<◌, Bool, true, false, not, ◌&&◌, ◌||◌, List, [], ◌∷◌, Option, Some, None, refl, sym, ap, ◌∙◌, IsTrue, eqb-true}
use Rattle.std.specs.Prelude.{◌==◌, count_by, nat_lt}
use Rattle.std.specs.List.{AllByRecursion, list_all}
use Rattle.std.proofs.lemmas.Bool.{and_parts, and_from, eq-eqb, ltb-true, lt-ltb}
use Rattle.std.proofs.lemmas.Slice.Eq.{bytes_eq-Decides}
use Rattle.vbm_named.specs.Names.{Name}
use Rattle.vbm_named.proofs.Lists.{name_refl, All-map}
use Rattle.vbm_world.specs.World.{is_normal}
use Rattle.vbm_registry.specs.declared.media.Medium.{Medium}
use Rattle.vbm_registry.specs.Named.{ImageName, OfMedium, OfInner, NamedInner, NamedSlot, NamedSnapshot, NamedMachine, NamedMerging, NamedLibrary, ListedImages, images_of}
use Rattle.vbm_registry.specs.Chains.{is_image, parent_of}
use Rattle.vbm_registry.specs.Rules.{is_medium_of, upper_places, holds, has_directly, is_stacked, has_slot_at, IsInherited, count_in, mergings_into, IsHeldOnce, is_based, IsBasedOnce, IsMergedInto, IsMerging, IsDrawn}
use Rattle.vbm_registry.specs.PlaceRules.{is_held_once, is_based_once, are_under, is_snapshot_under, is_machine_under, is_some_image, is_merged_into, is_merging, is_drawn, places_are_kept}

module _ {X : Type 0} (p : X → Bool) where
  each : (xs : List X) → list_all p xs ≡ true → AllByRecursion (λ x. p x ≡ true) xs
  each [] all = tt
  each (x ∷ xs) all = let parts = and_parts (p x) (list_all p xs) all in (parts.0, each xs parts.1)

  all_of : (xs : List X) → AllByRecursion (λ x. p x ≡ true) xs → list_all p xs ≡ true
  all_of [] all = refl
  all_of (x ∷ xs) all = and_from (p x) (list_all p xs) all.0 (all_of xs all.1)

pub implies : (a b : Bool) → (not a || b) ≡ true → a ≡ true → b ≡ true
implies true b e is = e
implies false b e is = absurd cc

pub implied : (a b : Bool) → (a ≡ true → b ≡ true) → (not a || b) ≡ true
implied true b f = f refl
implied false b f = refl

-- ---- what is held once

module _ (inners : List NamedInner) (machines : List NamedMachine) (js : List NamedMerging) where
  abbrev Based : Medium → Type 0
  Based m = IsTrue (is_normal m.mode) → IsTrue (is_based inners machines m.name) → IsBasedOnce machines js m

  based_is : (m : Medium) → is_based_once inners machines js m ≡ true → Based m
  based_is m test normal based =
      let nowhere = count_in (has_directly m.name) machines == 0 in
      let once = is_held_once machines js (OfMedium m.name) in
      let is = implies (is_normal m.mode && is_based inners machines m.name) (nowhere && once) test (and_from (is_normal m.mode) (is_based inners machines m.name) normal based) in
      let parts = and_parts nowhere once is in
      record { nowhere = eqb-true _ _ parts.0; once = eqb-true _ _ parts.1 }

  based_test : (m : Medium) → Based m → is_based_once inners machines js m ≡ true
  based_test m is = implied (is_normal m.mode && is_based inners machines m.name) _ (λ both.
      let parts = and_parts (is_normal m.mode) (is_based inners machines m.name) both in
      let of = is parts.0 parts.1 in
      and_from _ _ (eq-eqb _ _ of.nowhere) (eq-eqb _ _ of.once))

-- ---- what stands on what

module _ (images : ListedImages) where
  pub record AreUnder (upper slots : List NamedSlot) : Type 0 where
    pub stacked : AllByRecursion (λ (s : NamedSlot). IsTrue (is_stacked images upper s)) slots
    pub inherits : IsInherited images.media upper slots

  abbrev inherits_test : List NamedSlot → NamedSlot → Bool
  inherits_test slots s = not (is_medium_of is_normal images.media s.medium) || has_slot_at s.port s.medium slots

  under_is : (upper slots : List NamedSlot) → are_under images upper slots ≡ true → AreUnder upper slots
  under_is upper slots test =
      let parts = and_parts (list_all (is_stacked images upper) slots) (list_all (inherits_test slots) upper) test in
      record {
        stacked = each (is_stacked images upper) slots parts.0;
        inherits = All-map _ _ (λ s e. implies (is_medium_of is_normal images.media s.medium) (has_slot_at s.port s.medium slots) e) upper (each (inherits_test slots) upper parts.1);
      }

  under_test : (upper slots : List NamedSlot) → AreUnder upper slots → are_under images upper slots ≡ true
  under_test upper slots is = and_from (list_all (is_stacked images upper) slots) (list_all (inherits_test slots) upper)
      (all_of (is_stacked images upper) slots is.stacked)
      (all_of (inherits_test slots) upper (All-map _ _ (λ s e. implied (is_medium_of is_normal images.media s.medium) (has_slot_at s.port s.medium slots) e) upper is.inherits))

  pub record IsMachineUnder (m : NamedMachine) : Type 0 where
    pub slots : AreUnder (upper_places m.current m.snapshots) m.slots
    pub snapshots : AllByRecursion (λ (s : NamedSnapshot). AreUnder (upper_places s.parent m.snapshots) s.slots) m.snapshots

  machine_is : (m : NamedMachine) → is_machine_under images m ≡ true → IsMachineUnder m
  machine_is m test =
      let parts = and_parts (are_under images (upper_places m.current m.snapshots) m.slots) (list_all (is_snapshot_under images m.snapshots) m.snapshots) test in
      record {
        slots = under_is (upper_places m.current m.snapshots) m.slots parts.0;
        snapshots = All-map _ _ (λ s e. under_is (upper_places s.parent m.snapshots) s.slots e) m.snapshots (each (is_snapshot_under images m.snapshots) m.snapshots parts.1);
      }

  machine_test : (m : NamedMachine) → IsMachineUnder m → is_machine_under images m ≡ true
  machine_test m is = and_from (are_under images (upper_places m.current m.snapshots) m.slots) (list_all (is_snapshot_under images m.snapshots) m.snapshots)
      (under_test (upper_places m.current m.snapshots) m.slots is.slots)
      (all_of (is_snapshot_under images m.snapshots) m.snapshots (All-map _ _ (λ s e. under_test (upper_places s.parent m.snapshots) s.slots e) m.snapshots is.snapshots))

-- ---- mergings

image_is : (a b : ImageName) → is_image a b ≡ true → a ≡ b
image_is (OfMedium a) (OfMedium b) e = ap OfMedium ((bytes_eq-Decides a b).0 e)
image_is (OfInner a) (OfInner b) e = ap OfInner (eqb-true a b e)
image_is (OfMedium a) (OfInner b) e = absurd cc
image_is (OfInner a) (OfMedium b) e = absurd cc

image_refl : (a : ImageName) → is_image a a ≡ true
image_refl (OfMedium a) = name_refl a
image_refl (OfInner n) = eq-eqb n n refl

some_is : (image : ImageName) (o : Option ImageName) → is_some_image image o ≡ true → o ≡ Some image
some_is image None e = absurd cc
some_is image (Some other) e = ap Some (image_is other image e)

some_test : (image : ImageName) (o : Option ImageName) → o ≡ Some image → is_some_image image o ≡ true
some_test image o e = ap (is_some_image image) e ∙ image_refl image

merged_is : (media : List Medium) (image : ImageName) → is_merged_into media image ≡ true → IsMergedInto media image
merged_is media (OfMedium name) e = e
merged_is media (OfInner n) e = tt

merged_test : (media : List Medium) (image : ImageName) → IsMergedInto media image → is_merged_into media image ≡ true
merged_test media (OfMedium name) e = e
merged_test media (OfInner n) e = refl

drawn_is : (next inner : ℕ) (image : ImageName) (number : ℕ) → is_drawn next inner image number ≡ true → IsDrawn next inner image number
drawn_is next inner (OfMedium name) number e = ltb-true number next e
drawn_is next inner (OfInner n) number e = ltb-true number inner e

drawn_test : (next inner : ℕ) (image : ImageName) (number : ℕ) → IsDrawn next inner image number → is_drawn next inner image number ≡ true
drawn_test next inner (OfMedium name) number lt = lt-ltb number next lt
drawn_test next inner (OfInner n) number lt = lt-ltb number inner lt

five_parts : (a b c d e : Bool) → (a && b && c && d && e) ≡ true → (a ≡ true) × (b ≡ true) × (c ≡ true) × (d ≡ true) × (e ≡ true)
five_parts true true true true true h = (refl, refl, refl, refl, refl)
five_parts true true true true false h = absurd cc
five_parts true true true false e h = absurd cc
five_parts true true false d e h = absurd cc
five_parts true false c d e h = absurd cc
five_parts false b c d e h = absurd cc

five_from : (a b c d e : Bool) → a ≡ true → b ≡ true → c ≡ true → d ≡ true → e ≡ true → (a && b && c && d && e) ≡ true
five_from a b c d e p q r s t = rw (p, q, r, s, t) refl

module _ (images : ListedImages) (machines : List NamedMachine) where
  merging_is : (j : NamedMerging) → is_merging images machines j ≡ true → IsMerging images machines j
  merging_is j test =
      let parts = five_parts (is_some_image j.parent (parent_of images.inners j.child)) (is_merged_into images.media j.parent) _ _ _ test in
      record {
        parent = some_is j.parent (parent_of images.inners j.child) parts.0;
        normal = merged_is images.media j.parent parts.1;
        only = eqb-true _ _ parts.2;
        held = eqb-true _ _ parts.3;
        once = eqb-true _ _ parts.4;
      }

  merging_test : (j : NamedMerging) → IsMerging images machines j → is_merging images machines j ≡ true
  merging_test j is = five_from (is_some_image j.parent (parent_of images.inners j.child)) (is_merged_into images.media j.parent) _ _ _
      (some_test j.parent (parent_of images.inners j.child) is.parent) (merged_test images.media j.parent is.normal)
      (eq-eqb _ _ is.only) (eq-eqb _ _ is.held) (eq-eqb _ _ is.once)

-- ---- a library

pub record ArePlacesKept (l : NamedLibrary) : Type 0 where
  pub held : AllByRecursion (λ (x : NamedInner). IsHeldOnce l.machines l.merging (OfInner x.number)) l.inners
  pub based : AllByRecursion (Based l.inners l.machines l.merging) l.media
  pub under : AllByRecursion (IsMachineUnder (images_of l)) l.machines
  pub merging : AllByRecursion (IsMerging (images_of l) l.machines) l.merging
  pub drawn : AllByRecursion (λ (j : NamedMerging). IsDrawn l.next l.inner j.parent j.number) l.merging

module _ (l : NamedLibrary) where
  abbrev held_test : NamedInner → Bool
  held_test x = is_held_once l.machines l.merging (OfInner x.number)

  abbrev number_test : NamedMerging → Bool
  number_test j = is_drawn l.next l.inner j.parent j.number

  pub places_kept : places_are_kept l ≡ true → ArePlacesKept l
  places_kept test =
      let parts = five_parts (list_all held_test l.inners) (list_all (is_based_once l.inners l.machines l.merging) l.media)
      (list_all (is_machine_under (images_of l)) l.machines) (list_all (is_merging (images_of l) l.machines) l.merging) (list_all number_test l.merging) test in
      record {
        held = All-map _ _ (λ x e. eqb-true _ _ e) l.inners (each held_test l.inners parts.0);
        based = All-map _ _ (based_is l.inners l.machines l.merging) l.media (each (is_based_once l.inners l.machines l.merging) l.media parts.1);
        under = All-map _ _ (machine_is (images_of l)) l.machines (each (is_machine_under (images_of l)) l.machines parts.2);
        merging = All-map _ _ (merging_is (images_of l) l.machines) l.merging (each (is_merging (images_of l) l.machines) l.merging parts.3);
        drawn = All-map _ _ (λ j e. drawn_is l.next l.inner j.parent j.number e) l.merging (each number_test l.merging parts.4);
      }

  pub kept_places : ArePlacesKept l → places_are_kept l ≡ true
  kept_places is = five_from (list_all held_test l.inners) (list_all (is_based_once l.inners l.machines l.merging) l.media)
      (list_all (is_machine_under (images_of l)) l.machines) (list_all (is_merging (images_of l) l.machines) l.merging) (list_all number_test l.merging)
      (all_of held_test l.inners (All-map _ _ (λ x e. eq-eqb _ _ e) l.inners is.held))
      (all_of (is_based_once l.inners l.machines l.merging) l.media (All-map _ _ (based_test l.inners l.machines l.merging) l.media is.based))
      (all_of (is_machine_under (images_of l)) l.machines (All-map _ _ (machine_test (images_of l)) l.machines is.under))
      (all_of (is_merging (images_of l) l.machines) l.merging (All-map _ _ (merging_test (images_of l) l.machines) l.merging is.merging))
      (all_of number_test l.merging (All-map _ _ (λ j e. drawn_test l.next l.inner j.parent j.number e) l.merging is.drawn))
