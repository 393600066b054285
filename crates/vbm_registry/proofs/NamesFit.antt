-- A library whose fields pass their tests has names that rise, and parents that are listed.
use Rattle.std.proofs.Common.{◌≡◌, ℕ, ◌+◌, ◌<◌, ◌≤◌, ◌^◌, Bool, true, ◌&&◌, List, [], ◌∷◌, ◌++◌, length, reverse, Option, Some, IsTrue, refl, sym, ap, subst, ◌∙◌}
use Rattle.std.specs.Prelude.{◌==◌, not, nat_le, nat_lt}
use Rattle.std.specs.Int.{Width, w8, w16, w64}
use Rattle.std.specs.List.{AllByRecursion, list_all}
use Rattle.std.proofs.lemmas.Bool.{ltb-true, leb-true}
use Rattle.vbm_ports.specs.Names.{is_medium_name, is_short_name}
use Rattle.vbm_machines.specs.declared.Snapshot.{Snapshot}
use Rattle.vbm_machines.specs.declared.Machine.{Machine}
use Rattle.vbm_named.specs.Names.{Name, is_before, Rises}
use Rattle.vbm_named.proofs.Lists.{before_trans, All-map}
use Rattle.vbm_world.specs.declared.limits.TheConstants.{MEDIA_LIMIT, MACHINE_LIMIT, SNAPSHOT_LIMIT}
use Rattle.vbm_world.specs.World.{is_layered}
use Rattle.vbm_registry.specs.declared.media.Medium.{Medium}
use Rattle.vbm_registry.specs.declared.features.Features.{Features}
use Rattle.vbm_registry.specs.declared.library.Inner.{Inner}
use Rattle.vbm_registry.specs.declared.library.ImageRef.{ImageRef}
use Rattle.vbm_registry.specs.declared.library.ImageRef.TheVariants as refs
use Rattle.vbm_registry.specs.declared.library.Library.{Library}
use Rattle.vbm_registry.specs.Library.{medium_entry_name}
use Rattle.vbm_registry.specs.Built.{limit_if}
use Rattle.vbm_registry.specs.Parts.{FilePart, number, items_fit, items, counted_list}
use Rattle.vbm_registry.specs.Grammar.{last_or, last_name, text_field, name_after, mode_field, medium_entry, mode_at, base_down, base_of, may_stand, inner_number, inner_entry, ref_field, snapshot_entry_name, places_listed, place_list, parent_field, snapshot_entry, snapshots_among, places_among, machine_entry_name, slot_list, snapshot_list, current_field, is_off, machine_entry, making_field, merging_list, counters, lists, medium_list, inner_list, machine_list, library_fields}
use Rattle.vbm_registry.specs.AtPlaces.{AreNamed, IsListedRef, HasNames}
use Rattle.vbm_registry.proofs.PartLaws.{and_both}

last_push : {X A : Type 0} (none : A) (f : X → A) (xs : List X) (x : X) → last_or none f (xs ++ x ∷ []) ≡ f x
last_push none f [] x = refl
last_push none f (y ∷ []) x = refl
last_push none f (y ∷ z ∷ zs) x = last_push none f (z ∷ zs) x

-- ---- lists of items

module _ {X : Type 0} (item : List X → FilePart X) where
  each_fits : (P : X → Type 0) → ((before : List X) (x : X) → IsTrue ((item before).fits x) → P x) → (before xs : List X)
      → IsTrue (items_fit item before xs) → AllByRecursion P xs
  each_fits P holds before [] fits = tt
  each_fits P holds before (x ∷ xs) fits =
      let both = and_both ((item before).fits x) (items_fit item (before ++ x ∷ []) xs) fits in
      (holds before x both.0, each_fits P holds (before ++ x ∷ []) xs both.1)

  module _ (nx : X → Name) (after : (before : List X) (x : X) → IsTrue ((item before).fits x) → IsTrue (is_before (last_name nx before) (nx x))) where
    names_rise : (before xs : List X) → IsTrue (items_fit item before xs)
        → AllByRecursion (λ x. IsTrue (is_before (last_name nx before) (nx x))) xs × Rises nx xs
    names_rise before [] fits = (tt, tt)
    names_rise before (x ∷ xs) fits =
        let both = and_both ((item before).fits x) (items_fit item (before ++ x ∷ []) xs) fits in
        let first = after before x both.0 in
        let rest = names_rise (before ++ x ∷ []) xs both.1 in
        let behind = subst (λ n. AllByRecursion (λ y. IsTrue (is_before n (nx y))) xs) (last_push [] nx before x) rest.0 in (
          (first, All-map _ _ (λ y less. before_trans (last_name nx before) (nx x) (nx y) first less) xs behind),
          (behind, rest.1),
        )

    named_fit : (xs : List X) → IsTrue (items_fit item [] xs) → AreNamed nx xs
    named_fit xs fits = let all = names_rise [] xs fits in record { rises = all.1; begun = all.0 }

module _ {X : Type 0} (w : Width) (test : ℕ → Bool) (item : ℕ → List X → FilePart X) where
  counted_fit : (xs : List X) → IsTrue ((counted_list w test item).fits xs) → IsTrue (test (length xs)) × IsTrue (items_fit (item (length xs)) [] xs)
  unfolding items
  counted_fit xs fits =
      let number_fits = (number w).fits (length xs) in
      let each = items_fit (item (length xs)) [] xs in
      let count = length xs == length xs in
      let a = and_both ((number_fits && test (length xs)) && (count && each)) true fits in
      let b = and_both (number_fits && test (length xs)) (count && each) a.0 in
      ((and_both number_fits (test (length xs)) b.0).1, (and_both count each b.1).1)

-- ---- media

after_last : (is_name : Name → Bool) (earlier name : Name) → IsTrue ((name_after is_name earlier).fits name) → IsTrue (is_before earlier name)
unfolding name_after
after_last is_name earlier name fits =
    (and_both (is_name name) (is_before earlier name) (and_both (text_field.fits name) (is_name name && is_before earlier name) fits).1).1

medium_after : (built : Features) (before : List Medium) (m : Medium) → IsTrue ((medium_entry built before).fits m)
    → IsTrue (is_before (last_name medium_entry_name before) m.name)
unfolding medium_entry
medium_after built before m fits =
    let name = (name_after is_medium_name (last_name medium_entry_name before)).fits m.name in
    let mode = (mode_field built).fits m.mode in
    after_last is_medium_name (last_name medium_entry_name before) m.name (and_both name mode (and_both (name && mode) true fits).0).0

media_fit : (built : Features) (media : List Medium) → IsTrue ((medium_list built).fits media)
    → (length media ≤ MEDIA_LIMIT) × AreNamed medium_entry_name media
unfolding medium_list
media_fit built media fits =
    let both = counted_fit w16 (λ n. nat_le n MEDIA_LIMIT) (λ _. medium_entry built) media fits in
    (leb-true (length media) MEDIA_LIMIT both.0, named_fit (medium_entry built) medium_entry_name (medium_after built) media both.1)

-- ---- inner images

base_medium : (inners : List Inner) (place : ℕ) → base_down inners (refs.Medium place) ≡ Some place
base_medium [] place = refl
base_medium (x ∷ earlier) place = refl

stands_listed : (media : List Medium) (before : List Inner) (parent : ImageRef)
    → IsTrue (may_stand media (base_of before parent)) → IsListedRef media parent
stands_listed media before (refs.Medium place) stands =
    let is = subst (λ o. IsTrue (may_stand media o)) (base_medium (reverse before) place) stands in
    ltb-true place (length media) (and_both (nat_lt place (length media)) (is_layered (mode_at media place)) is).0
stands_listed media before (refs.Inner n) stands = tt

parent_fits : (media : List Medium) (inner : ℕ) (before : List Inner) (x : Inner) → IsTrue ((inner_entry media inner before).fits x)
    → IsListedRef media x.parent
unfolding inner_entry
parent_fits media inner before x fits =
    let n = (inner_number inner before).fits x.number in
    let ref = ref_field.fits x.parent in
    let stands = may_stand media (base_of before x.parent) in
    let a = and_both (n && (ref && stands)) true fits in
    let b = and_both n (ref && stands) a.0 in
    stands_listed media before x.parent (and_both ref stands b.1).1

inners_fit : (built : Features) (media : List Medium) (inner : ℕ) (inners : List Inner) → IsTrue ((inner_list built media inner).fits inners)
    → AllByRecursion (λ (x : Inner). IsListedRef media x.parent) inners
unfolding inner_list
inners_fit built media inner inners fits =
    let both = counted_fit w16 (λ n. nat_le n (limit_if built.inner_images 65535)) (λ _. inner_entry media inner) inners fits in
    each_fits (inner_entry media inner) (λ x. IsListedRef media x.parent) (parent_fits media inner) [] inners both.1

-- ---- machines

snapshot_after : (media : List Medium) (inners : List Inner) (places count : ℕ) (before : List Snapshot) (s : Snapshot)
    → IsTrue ((snapshot_entry media inners places count before).fits s) → IsTrue (is_before (last_name snapshot_entry_name before) s.name)
unfolding snapshot_entry
snapshot_after media inners places count before s fits =
    let name = (name_after is_short_name (last_name snapshot_entry_name before)).fits s.name in
    let parent = (parent_field count before).fits s.parent in
    let slots = (place_list media inners (places + places_listed before)).fits s.slots in
    let a = and_both (name && (parent && slots)) true fits in
    after_last is_short_name (last_name snapshot_entry_name before) s.name (and_both name (parent && slots) a.0).0

snapshots_fit : (built : Features) (media : List Medium) (inners : List Inner) (snapshots places : ℕ) (xs : List Snapshot)
    → IsTrue ((snapshot_list built media inners snapshots places).fits xs) → AreNamed snapshot_entry_name xs
unfolding snapshot_list
snapshots_fit built media inners snapshots places xs fits =
    let both = counted_fit w16 (λ n. nat_le (snapshots + n) (limit_if built.snapshots SNAPSHOT_LIMIT)) (snapshot_entry media inners places) xs fits in
    named_fit (snapshot_entry media inners places (length xs)) snapshot_entry_name (snapshot_after media inners places (length xs)) xs both.1

machine_fits : (built : Features) (media : List Medium) (inners : List Inner) (before : List Machine) (m : Machine)
    → IsTrue ((machine_entry built media inners before).fits m) → AreNamed snapshot_entry_name m.snapshots
unfolding machine_entry
machine_fits built media inners before m fits =
    let name = (name_after is_short_name (last_name machine_entry_name before)).fits m.name in
    let slots = (slot_list built media inners).fits m.slots in
    let snapshots = (snapshot_list built media inners (snapshots_among before) (places_among before)).fits m.snapshots in
    let current = (current_field (length m.snapshots)).fits m.current in
    let a = and_both (name && (slots && (snapshots && current))) (is_off m) fits in
    let b = and_both name (slots && (snapshots && current)) a.0 in
    let c = and_both slots (snapshots && current) b.1 in
    snapshots_fit built media inners (snapshots_among before) (places_among before) m.snapshots (and_both snapshots current c.1).0

machines_fit : (built : Features) (media : List Medium) (inners : List Inner) (machines : List Machine)
    → IsTrue ((machine_list built media inners).fits machines) → AllByRecursion (λ (m : Machine). AreNamed snapshot_entry_name m.snapshots) machines
unfolding machine_list
machines_fit built media inners machines fits =
    let both = counted_fit w16 (λ n. nat_le n (limit_if built.machines MACHINE_LIMIT)) (λ _. machine_entry built media inners) machines fits in
    each_fits (machine_entry built media inners) (λ m. AreNamed snapshot_entry_name m.snapshots) (machine_fits built media inners) [] machines both.1

-- ---- a library

listed_fit : (built : Features) (inner : ℕ) (media : List Medium) (inners : List Inner) (machines : List Machine)
    → IsTrue ((lists built inner).fits (media, (inners, machines)))
    → IsTrue ((medium_list built).fits media) × IsTrue ((inner_list built media inner).fits inners)
    × IsTrue ((machine_list built media inners).fits machines)
unfolding lists
listed_fit built inner media inners machines fits =
    let first = (medium_list built).fits media in
    let second = (inner_list built media inner).fits inners in
    let third = (machine_list built media inners).fits machines in
    let a = and_both first (second && third) fits in
    let b = and_both second third a.1 in
    (a.0, b.0, b.1)

lists_fit : (built : Features) (l : Library) → IsTrue ((library_fields built).fits l)
    → IsTrue ((lists built l.inner).fits (l.media, (l.inners, l.machines)))
unfolding library_fields
lists_fit built l fits =
    let drawn = counters.fits (l.seed, (l.next, l.inner)) in
    let listed = (lists built l.inner).fits (l.media, (l.inners, l.machines)) in
    let others = (making_field built l.media).fits l.making && (merging_list built).fits l.merging in
    let a = and_both (drawn && (listed && others)) true fits in
    let b = and_both drawn (listed && others) a.0 in
    (and_both listed others b.1).0

-- what the test of the rules on places takes for granted
pub names_fit : (built : Features) (l : Library) → IsTrue ((library_fields built).fits l) → HasNames l
names_fit built l fits =
    let listed = listed_fit built l.inner l.media l.inners l.machines (lists_fit built l fits) in
    let media = media_fit built l.media listed.0 in
    record {
      few_media = media.0;
      media = media.1;
      snapshots = machines_fit built l.media l.inners l.machines listed.2;
      parents = inners_fit built l.media l.inner l.inners listed.1;
    }
