-- The world of a store is sound, whatever runs and has changed.
use Rattle.std.proofs.Common.{◌≡◌, ℕ, ◌+◌, ◌*◌, ◌≤◌, Bool, true, false, not, cond, ◌&&◌, ◌||◌, List, [], ◌∷◌, map, reverse, length, Option, Some, None, refl, sym, ap, subst, ◌∙◌, arith, inl, inr, IsTrue, is_some, is_none, eqb-true}
use Rattle.std.specs.Prelude.{◌==◌, find, count_by, sum_by, IfSome}
use Rattle.std.specs.List.{AllByRecursion, list_any}
use Rattle.std.specs.Option.{option_map}
use Rattle.std.specs.Str.{bytes_eq}
use Rattle.std.proofs.lemmas.Bool.{cases_Bool, and_parts, and_right, eq-eqb}
use Rattle.std.proofs.lemmas.List.{length-map}
use Rattle.std.proofs.lemmas.List.Folds.{fold-map}
use Rattle.std.proofs.lemmas.Simd.{map-map}
use Rattle.std.proofs.lemmas.Slice.Eq.{bytes_eq-Decides}
use Rattle.vbm_ports.specs.Files.{Files}
use Rattle.vbm_ports.specs.Names.{is_medium_name}
use Rattle.vbm_volume.specs.Sectors.{FlatDisk}
use Rattle.vbm_modes.specs.declared.Mode.{Mode}
use Rattle.vbm_modes.specs.declared.Mode.TheVariants.{Normal, Immutable, Writethrough, MultiAttach, Readonly}
use Rattle.vbm_machines.specs.declared.Held.{Held}
use Rattle.vbm_machines.specs.declared.Held.TheVariants.{Direct, Own, Base}
use Rattle.vbm_named.specs.Names.{Name, find_by}
use Rattle.vbm_named.proofs.Lists.{name_refl, has_found, find_named, any_map, any_none, none_of_any, find_map, rises_map, each_found, All-map, All-join, All-both, All-of_map, All-find}
use Rattle.vbm_world.specs.declared.limits.TheConstants.{SNAPSHOT_LIMIT, PLACE_LIMIT}
use Rattle.vbm_world.specs.declared.world.WorldMedium.{WorldMedium}
use Rattle.vbm_world.specs.declared.world.WorldSlot.{WorldSlot}
use Rattle.vbm_world.specs.declared.world.WorldSnapshot.{WorldSnapshot}
use Rattle.vbm_world.specs.declared.world.WorldMachine.{WorldMachine}
use Rattle.vbm_world.specs.World.{medium_name, machine_name, is_normal, has_medium, is_frozen}
use Rattle.vbm_world.specs.Places.{slots_named}
use Rattle.vbm_world.specs.Tree.{branch_of, IsTree}
use Rattle.vbm_world.specs.Sound.{HasCapacity, MayHold, IsSoundSlot, IsSoundMedium, IsPlaced, RisingPorts, HaveOwnMedia, AreSoundSlots, has_at, is_some_normal, is_of_normal, Inherits, IsSoundMachine, first_count, IsSound}
use Rattle.vbm_world.proofs.DeletingTree.{count-map}
use Rattle.vbm_registry.specs.declared.media.Medium.{Medium}
use Rattle.vbm_registry.specs.Library.{medium_entry_name}
use Rattle.vbm_registry.specs.Named.{ImageName, OfMedium, OfInner, NamedSlot, NamedSnapshot, NamedMachine, NamedMerging, NamedLibrary, images_of, named_machine_name, named_branch}
use Rattle.vbm_registry.specs.Chains.{is_image, parent_of, medium_below, chain_of, merging_into}
use Rattle.vbm_registry.specs.Held.{may_hold}
use Rattle.vbm_registry.specs.Rules.{has_mode, is_medium_of, IsOwnOf, IsNamedSlot, PortsRise, MediaDiffer, AreNamedSlots, upper_places, has_slot_at, IsInherited, is_stacked_on, is_parent_above, is_held_over, is_held, holds, IsMergedInto, IsMerging, IsSnapshotOf, IsMachine, IsLibrary}
use Rattle.vbm_standing.specs.ChainDisks.{disk_by}
use Rattle.vbm_standing.specs.Headers.{header_in}
use Rattle.vbm_standing.specs.Faults.{IsMediumFile, IsStore}
use Rattle.vbm_standing.specs.Meaning.{is_of_medium, is_ending, held_at_end, own_by, place_in, slot_in, snapshot_in, machine_in, has_slot_of, has_snapshot_of, is_frozen_in, flat_at_end, medium_in, world_of}
use Rattle.vbm_standing.specs.EditedFiles.{HasImage}
use Rattle.vbm_standing.proofs.WorldParts.{frozen-same}
use Rattle.vbm_standing.proofs.PlacesHeld.{own-listed}
use Rattle.vbm_standing.proofs.FrozenMedia.{unfrozen}
use Rattle.vbm_standing.proofs.LeafImages.{All-forall, named-all}
use Rattle.vbm_standing.proofs.StartedWorlds.{find-passes, slots_named-map}
use Rattle.vbm_standing.proofs.Shelves.{sound_shelf}
use Rattle.vbm_standing.proofs.StackedPlaces.{IsMergedDown, parent-below, upper-has}
use Rattle.vbm_standing.proofs.FirstSnapshots.{found-any, first_in, first-once, merging-rules, merging-parent, MergedMedium, merged-free}
use Rattle.vbm_standing.proofs.DiskSizes.{disk-capacity, medium-flat, medium-size}

-- ---- which slots there may be

may-own : (of_snapshot : Bool) (mode : Mode) (n : ℕ) → may_hold of_snapshot mode (Own n) ≡ true → MayHold mode true of_snapshot
may-own of_snapshot Normal n may = λ e. refl
may-own of_snapshot Immutable n may = refl
may-own of_snapshot MultiAttach n may = refl
may-own of_snapshot Writethrough n may = absurd cc
may-own of_snapshot Readonly n may = absurd cc

may-base : (of_snapshot : Bool) (mode : Mode) → may_hold of_snapshot mode Base ≡ true → MayHold mode true of_snapshot
may-base true Normal may = λ e. refl
may-base false mode may = absurd cc
may-base true Immutable may = absurd cc
may-base true MultiAttach may = absurd cc
may-base true Writethrough may = absurd cc
may-base true Readonly may = absurd cc

may-direct : (of_snapshot : Bool) (mode : Mode) → may_hold of_snapshot mode Direct ≡ true → MayHold mode false of_snapshot
may-direct true Normal may = absurd cc
may-direct false Normal may = λ e. absurd cc
may-direct of_snapshot Immutable may = absurd cc
may-direct of_snapshot MultiAttach may = absurd cc
may-direct of_snapshot Writethrough may = refl
may-direct of_snapshot Readonly may = refl

-- a machine's slot may share the disk of a normal medium
may-share : (mode : Mode) → is_normal mode ≡ true → MayHold mode false false
may-share Normal normal = λ e. absurd cc
may-share Immutable normal = absurd cc
may-share MultiAttach normal = absurd cc
may-share Writethrough normal = absurd cc
may-share Readonly normal = absurd cc

-- a snapshot does not share a normal medium
direct-other : (mode : Mode) → may_hold true mode Direct ≡ true → is_normal mode ≡ false
direct-other Normal may = absurd cc
direct-other Immutable may = absurd cc
direct-other MultiAttach may = absurd cc
direct-other Writethrough may = refl
direct-other Readonly may = refl

no-base : (mode : Mode) → may_hold false mode Base ≡ true → ⊥
no-base mode may = absurd cc

-- ---- slots at the end of mergings

end-own : (js : List NamedMerging) (h : Held) (i : ℕ) → held_at_end js h ≡ Own i → (h ≡ Own i) × (is_ending js i ≡ false)
end-own js Direct i e = absurd cc
end-own js (Own n) i e = elim (cases_Bool (is_ending js n)) [
  | inl ending ↦ let no : Direct ≡ Own i = rw ending at e in absurd cc
  | inr other ↦
      let same : Own n ≡ Own i = rw other at e in
      let number : n ≡ i = cc in
      (same, subst (λ k. is_ending js k ≡ false) number other)
]
end-own js Base i e = absurd cc

end-base : (js : List NamedMerging) (h : Held) → held_at_end js h ≡ Base → h ≡ Base
end-base js Direct e = absurd cc
end-base js (Own n) e = elim (cases_Bool (is_ending js n)) [
  | inl ending ↦ let no : Direct ≡ Base = rw ending at e in absurd cc
  | inr other ↦ let no : Own n ≡ Base = rw other at e in absurd cc
]
end-base js Base e = refl

-- a slot that shares its medium's disk at the end
data Shares (js : List NamedMerging) (h : Held) : Type 0 where
  already : h ≡ Direct → Shares js h
  merged_down : (i : ℕ) → h ≡ Own i → is_ending js i ≡ true → Shares js h

end-direct : (js : List NamedMerging) (h : Held) → held_at_end js h ≡ Direct → Shares js h
end-direct js Direct e = already refl
end-direct js (Own n) e = elim (cases_Bool (is_ending js n)) [
  | inl ending ↦ merged_down n refl ending
  | inr other ↦ let no : Own n ≡ Direct = rw other at e in absurd cc
]
end-direct js Base e = absurd cc

or_one : (b c : Bool) → c ≡ true → (b || c) ≡ true
or_one true c e = refl
or_one false c e = e

-- an item of a list that passes a test
record IsAmong {X : Type 0} (P : X → Type 0) (q : X → Bool) (xs : List X) : Type 0 where
  item : X
  has : P item
  passes : q item ≡ true
  any : (p : X → Bool) → p item ≡ true → list_any p xs ≡ true

some-among : {X : Type 0} (P : X → Type 0) (q : X → Bool) (xs : List X) → AllByRecursion P xs → list_any q xs ≡ true → IsAmong P q xs
some-among P q [] all any = absurd cc
some-among P q (x ∷ xs) all any = elim (cases_Bool (q x)) [
  | inl here ↦ record { item = x; has = all.0; passes = here; any = λ p e. rw e refl }
  | inr other ↦
      let later = some-among P q xs all.1 (rw other at any) in
      record { item = later.item; has = later.has; passes = later.passes; any = λ p e. or_one (p x) (list_any p xs) (later.any p e) }
]

any-found : {X : Type 0} (p : X → Bool) (xs : List X) → list_any p xs ≡ true → (x : X) × (find p xs ≡ Some x)
any-found p [] any = absurd cc
any-found p (x ∷ xs) any = elim (cases_Bool (p x)) [
  | inl here ↦ (x, rw here refl)
  | inr other ↦ let later = any-found p xs (rw other at any) in (later.0, rw other later.1)
]

-- an image that a merging ends: it stands on a normal medium's own, and is merged into that
record EndsDown (l : NamedLibrary) (i : ℕ) : Type 0 where
  name : Name
  parent : parent_of l.inners i ≡ Some (OfMedium name)
  down : IsMergedDown l name i
  normal : is_medium_of is_normal l.media name ≡ true

module _ (l : NamedLibrary) (is : IsLibrary l) (upper : List NamedSlot) (port i : ℕ)
    (stacked : is_stacked_on (images_of l) upper port i (parent_of l.inners i) ≡ true) where
  child-stacked : (name : Name) → parent_of l.inners i ≡ Some (OfMedium name) → (j : NamedMerging) → merging_into (OfMedium name) l.merging ≡ Some j
      → j.child ≡ i
  child-stacked name parent j into = eqb-true j.child i
      (sym (ap (is_stacked_on (images_of l) upper port i) parent ∙ ap (is_parent_above (images_of l) upper port i (OfMedium name)) into) ∙ stacked)

  ends-by : (among : IsAmong (IsMerging (images_of l) l.machines) (λ (j : NamedMerging). is_of_medium j.parent && j.child == i) l.merging)
      → (image : ImageName) → among.item.parent ≡ image → is_of_medium image ≡ true → EndsDown l i
  ends-by among (OfMedium name) e of =
      let child : among.item.child ≡ i =
      eqb-true among.item.child i (and_parts (is_of_medium among.item.parent) (among.item.child == i) among.passes).1 in
      let parent : parent_of l.inners i ≡ Some (OfMedium name) = ap (parent_of l.inners) (sym child) ∙ among.has.parent ∙ ap Some e in
      let found = any-found (λ (j : NamedMerging). is_image j.parent (OfMedium name)) l.merging
      (among.any (λ (j : NamedMerging). is_image j.parent (OfMedium name))
      (ap (λ image. is_image image (OfMedium name)) e ∙ name_refl name)) in
      record {
        name = name;
        parent = parent;
        down = record { merging = found.0; into = found.1; child = child-stacked name parent found.0 found.1 };
        normal = subst (IsMergedInto l.media) e among.has.normal;
      }
  ends-by among (OfInner n) e of = absurd cc

  ends-down : is_ending l.merging i ≡ true → EndsDown l i
  ends-down ending =
      let among = some-among (IsMerging (images_of l) l.machines) (λ (j : NamedMerging). is_of_medium j.parent && j.child == i) l.merging is.merging
      ending in
      ends-by among among.item.parent refl (and_parts (is_of_medium among.item.parent) (among.item.child == i) among.passes).0

-- an image that is merged into a medium's own is one that a merging ends
pub down-ending : (l : NamedLibrary) (name : Name) (i : ℕ) → IsMergedDown l name i → is_ending l.merging i ≡ true
down-ending l name i down =
    let parent = found-parent down.merging.parent
    (find-passes (λ (j : NamedMerging). is_image j.parent (OfMedium name)) down.merging l.merging down.into) in
    let child : (down.merging.child == i) ≡ true = eq-eqb down.merging.child i down.child in
    found-any (λ (j : NamedMerging). is_image j.parent (OfMedium name)) (λ (j : NamedMerging). is_of_medium j.parent && j.child == i) down.merging
    l.merging down.into
    (rw (parent, child) refl)
  where
    found-parent : (image : ImageName) → is_image image (OfMedium name) ≡ true → is_of_medium image ≡ true
    found-parent (OfMedium other) e = refl
    found-parent (OfInner n) e = absurd cc

module _ (changed running : Name → Bool) (l : NamedLibrary) (files : Files) (is : IsLibrary l) (store : IsStore l files) where
  abbrev media : List WorldMedium
  media = map (medium_in changed l files) l.media

  medium-name : (m : Medium) → medium_name (medium_in changed l files m) ≡ medium_entry_name m
  unfolding medium_in
  medium-name m = refl

  found-in : (name : Name) (m : Medium) → find_by medium_entry_name name l.media ≡ Some m
      → find_by medium_name name media ≡ Some (medium_in changed l files m)
  found-in name m there = find_map (medium_in changed l files) medium_entry_name medium_name medium-name name l.media
      ∙ ap (option_map (medium_in changed l files)) there

  -- a slot of this medium, with any disk, is one of a normal medium where the medium is normal
  normal-in : (s : WorldSlot) → is_of_normal media s ≡ is_medium_of is_normal l.media s.medium
  unfolding medium_in
  normal-in s = ap is_some_normal (find_map (medium_in changed l files) medium_entry_name medium_name medium-name s.medium l.media)
      ∙ of_option (find_by medium_entry_name s.medium l.media)
    where
      of_option : (o : Option Medium) → is_some_normal (option_map (medium_in changed l files) o) ≡ has_mode is_normal o
      of_option None = refl
      of_option (Some m) = refl

  file-of : (name : Name) (m : Medium) → find_by medium_entry_name name l.media ≡ Some m → IsMediumFile l files m
  file-of name m there = All-find medium_entry_name (IsMediumFile l files) name m l.media store.media there

  -- ---- a slot by itself

  module _ (of_snapshot : Bool) (s : NamedSlot) (of : IsNamedSlot (images_of l) of_snapshot s) where
    abbrev m : Medium
    m = of.medium

    named_so : m.name ≡ s.medium
    named_so = (bytes_eq-Decides m.name s.medium).0 (find_named medium_entry_name s.medium m l.media of.there)

    abbrev slot_with : Option FlatDisk → WorldSlot
    slot_with own = record { port = s.port; medium = s.medium; autoreset = s.autoreset; own = own }

    direct-sound : MayHold m.mode false of_snapshot → is_frozen_in l.machines m ≡ false
        → IsSoundSlot of_snapshot (slot_with None) (medium_in changed l files m)
    unfolding medium_in
    direct-sound may free = record { held = may; disk = tt; shared = λ direct. rw free refl; autoreset = of.autoreset }

    image-sound : MayHold m.mode true of_snapshot → (image : ImageName) → HasImage l image → medium_below (chain_of l.inners image) ≡ Some s.medium
        → IsSoundSlot of_snapshot (slot_with (Some (disk_by l files image))) (medium_in changed l files m)
    unfolding medium_in
    image-sound may image listed below = record {
      held = may;
      disk = disk-capacity l files store m (file-of s.medium m of.there) image listed (below ∙ ap Some (sym named_so));
      shared = λ direct. absurd cc;
      autoreset = of.autoreset;
    }

    placed-as : (own : Option FlatDisk) → IsSoundSlot of_snapshot (slot_with own) (medium_in changed l files m)
        → IsPlaced media of_snapshot (slot_with own)
    placed-as own sound = (medium_in changed l files m, found-in s.medium m of.there, sound)

    own-may : (i : ℕ) → s.held ≡ Own i → may_hold of_snapshot m.mode (Own i) ≡ true
    own-may i e = sym (ap (may_hold of_snapshot m.mode) e) ∙ of.held

    own-of : (i : ℕ) → s.held ≡ Own i → medium_below (chain_of l.inners (OfInner i)) ≡ Some s.medium
    own-of i e = subst (IsOwnOf l.inners s.medium) e of.own

    own-sound : (i : ℕ) → s.held ≡ Own i → IsPlaced media of_snapshot (slot_with (Some (disk_by l files (OfInner i))))
    own-sound i e = placed-as (Some (disk_by l files (OfInner i))) (image-sound (may-own of_snapshot m.mode i (own-may i e)) (OfInner i)
        (own-listed (reverse l.inners) i s.medium (own-of i e)) (own-of i e))

  -- a place of a snapshot
  place-sound : (s : NamedSlot) → IsNamedSlot (images_of l) true s → IsPlaced media true (place_in l files s)
  place-sound s of = by s.held refl
    where
      by : (h : Held) → s.held ≡ h
          → IsPlaced media true (record { port = s.port; medium = s.medium; autoreset = s.autoreset; own = own_by l files s.medium h })
      by Direct e =
          let may : may_hold true of.medium.mode Direct ≡ true = sym (ap (may_hold true of.medium.mode) e) ∙ of.held in
          let other = direct-other of.medium.mode may in
          placed-as true s of None (direct-sound true s of (may-direct true of.medium.mode may) (rw other refl))
      by (Own i) e = own-sound true s of i e
      by Base e =
          let may : may_hold true of.medium.mode Base ≡ true = sym (ap (may_hold true of.medium.mode) e) ∙ of.held in
          placed-as true s of (Some (disk_by l files (OfMedium s.medium)))
          (image-sound true s of (may-base true of.medium.mode may) (OfMedium s.medium)
          (has_found medium_entry_name s.medium l.media ∙ ap is_some of.there) refl)

  -- what is asked of a machine's slot that shares its medium's disk at the end
  IsShared : NamedSlot → Type 0
  IsShared s = (n : Medium) → find_by medium_entry_name s.medium l.media ≡ Some n → held_at_end l.merging s.held ≡ Direct
      → (is_frozen_in l.machines n ≡ false) × MayHold n.mode false false

  slot-sound : (s : NamedSlot) → IsNamedSlot (images_of l) false s → IsShared s → IsPlaced media false (slot_in l files s)
  unfolding IsShared
  slot-sound s of shared = by (held_at_end l.merging s.held) refl
    where
      by : (h : Held) → held_at_end l.merging s.held ≡ h
          → IsPlaced media false (record { port = s.port; medium = s.medium; autoreset = s.autoreset; own = own_by l files s.medium h })
      by Direct e = let free = shared of.medium of.there e in placed-as false s of None (direct-sound false s of free.1 free.0)
      by (Own i) e = own-sound false s of i (end-own l.merging s.held i e).0
      by Base e = absurd (no-base of.medium.mode (sym (ap (may_hold false of.medium.mode) (end-base l.merging s.held e)) ∙ of.held))

  -- ---- slots

  module _ (slot : NamedSlot → WorldSlot) (own_of : NamedSlot → Option FlatDisk)
      (is_slot : (s : NamedSlot) → slot s ≡ (record { port = s.port; medium = s.medium; autoreset = s.autoreset; own = own_of s })) where
    ports-in : (slots : List NamedSlot) (low : ℕ) → PortsRise low slots → RisingPorts low (map slot slots)
    ports-in [] low rising = rising
    ports-in (s ∷ slots) low rising =
        let port : (slot s).port ≡ s.port = ap (λ (x : WorldSlot). x.port) (is_slot s) in
        (omega (arith, port, rising.0), subst (λ p. RisingPorts (p + 1) (map slot slots)) (sym port) (ports-in slots (s.port + 1) rising.1))

    medium-of-slot : (s : NamedSlot) → (slot s).medium ≡ s.medium
    medium-of-slot s = ap (λ (x : WorldSlot). x.medium) (is_slot s)

    has-in : (name : Name) (slots : List NamedSlot) → has_medium name (map slot slots) ≡ has_slot_of name slots
    has-in name slots = any_map slot (λ (t : WorldSlot). bytes_eq t.medium name) slots
        ∙ ap (λ p. list_any p slots) (λ i s. bytes_eq (medium-of-slot s i) name)

    distinct-in : (slots : List NamedSlot) → MediaDiffer slots → HaveOwnMedia (map slot slots)
    distinct-in [] different = tt
    distinct-in (s ∷ slots) different = (
      ap (λ name. has_medium name (map slot slots)) (medium-of-slot s) ∙ has-in s.medium slots ∙ any_none _ slots different.0,
      distinct-in slots different.1,
    )

    slots-in : (of_snapshot : Bool) (slots : List NamedSlot) → AreNamedSlots (images_of l) of_snapshot slots
        → AllByRecursion (λ (s : NamedSlot). IsPlaced media of_snapshot (slot s)) slots → AreSoundSlots media of_snapshot (map slot slots)
    slots-in of_snapshot slots of placed = record {
      ports = ports-in slots 0 of.ports;
      distinct = distinct-in slots of.different;
      placed = All-of_map slot (IsPlaced media of_snapshot) slots placed;
    }

    at-in : (port : ℕ) (name : Name) (slots : List NamedSlot) → has_at port name (map slot slots) ≡ has_slot_at port name slots
    at-in port name slots = any_map slot (λ (t : WorldSlot). (t.port == port) && bytes_eq t.medium name) slots
        ∙ ap (λ p. list_any p slots) (λ i s. (ap (λ (x : WorldSlot). x.port) (is_slot s) i == port) && bytes_eq (medium-of-slot s i) name)

    inherits-in : (upper lower : List NamedSlot) → IsInherited l.media upper lower → Inherits media (map (place_in l files) upper) (map slot lower)
    inherits-in upper lower inherits = All-of_map (place_in l files) _ upper (All-map _ _
        (λ s x normal. at-in s.port s.medium lower ∙ x (sym (normal-in (place_in l files s)) ∙ normal)) upper inherits)

  place-is : (s : NamedSlot)
      → place_in l files s ≡ (record { port = s.port; medium = s.medium; autoreset = s.autoreset; own = own_by l files s.medium s.held })
  place-is s = refl

  slot-is : (s : NamedSlot)
      → slot_in l files s ≡
      (record { port = s.port; medium = s.medium; autoreset = s.autoreset; own = own_by l files s.medium (held_at_end l.merging s.held) })
  slot-is s = refl

  abbrev own_place : NamedSlot → Option FlatDisk
  own_place s = own_by l files s.medium s.held

  abbrev own_slot : NamedSlot → Option FlatDisk
  own_slot s = own_by l files s.medium (held_at_end l.merging s.held)

  -- ---- snapshots are a tree

  if_some : (P Q : Name → Type 0) → ((name : Name) → P name → Q name) → (o : Option Name) → IfSome o P → IfSome o Q
  if_some P Q f None p = p
  if_some P Q f (Some name) p = f name p

  tree-in : (snapshots : List NamedSnapshot) (current : Option Name) → IsTree (map named_branch snapshots) current
      → IsTree (map branch_of (map (snapshot_in l files) snapshots)) current
  tree-in snapshots current tree = subst (λ branches. IsTree branches current) (sym (map-map branch_of (snapshot_in l files) snapshots)) tree

  -- ---- a machine

  module _ (m : NamedMachine) (there : find_by named_machine_name m.name l.machines ≡ Some m) (of : IsMachine (images_of l) m) where
    abbrev upper : List NamedSlot
    upper = upper_places m.current m.snapshots

    upper-slots : AllByRecursion (IsNamedSlot (images_of l) true) upper
    upper-slots = named-all (IsNamedSlot (images_of l) true) m.current m.snapshots
        (All-map _ _ (λ s rules. rules.places.valid.each) m.snapshots of.snapshots)

    -- a slot that shares its medium's disk at the end shares one that is not frozen
    merged-slots : AllByRecursion
        (λ (s : NamedSlot). (r : MergedMedium l) → holds (OfInner r.merging.child) s ≡ true → is_frozen_in l.machines r.medium ≡ false) m.slots
    merged-slots = All-forall
        (λ (r : MergedMedium l) (s : NamedSlot). holds (OfInner r.merging.child) s ≡ true → is_frozen_in l.machines r.medium ≡ false) m.slots
        (λ r. All-find named_machine_name
        (λ (x : NamedMachine). AllByRecursion
        (λ (s : NamedSlot). holds (OfInner r.merging.child) s ≡ true → is_frozen_in l.machines r.medium ≡ false) x.slots)
        m.name m l.machines (merged-free l is r) there)

    module _ (s : NamedSlot) (rules : IsNamedSlot (images_of l) false s) (stands : is_held_over (images_of l) upper s.port s.held ≡ true)
        (free : (n : Medium) → find_by medium_entry_name s.medium l.media ≡ Some n → s.held ≡ Direct → is_frozen_in l.machines n ≡ false)
        (merged : (r : MergedMedium l) → holds (OfInner r.merging.child) s ≡ true → is_frozen_in l.machines r.medium ≡ false) where
      ending-shared : (i : ℕ) → s.held ≡ Own i → is_ending l.merging i ≡ true → (n : Medium) → find_by medium_entry_name s.medium l.media ≡ Some n
          → (is_frozen_in l.machines n ≡ false) × MayHold n.mode false false
      ending-shared i e ending n found =
          let ends = ends-down l is upper s.port i (subst (λ h. is_held_over (images_of l) upper s.port h ≡ true) e stands) ending in
          let below : Some ends.name ≡ Some s.medium = sym (parent-below l i (OfMedium ends.name) is ends.parent) ∙ own-of false s rules i e in
          let same : ends.name ≡ s.medium = cc in
          let name : n.name ≡ s.medium = (bytes_eq-Decides n.name s.medium).0 (find_named medium_entry_name s.medium n l.media found) in
          let normal : is_normal n.mode ≡ true = sym (ap (has_mode is_normal) found) ∙ ap (is_medium_of is_normal l.media) (sym same) ∙ ends.normal in
          let r : MergedMedium l = record {
            medium = n;
            on = ap (λ x. find_by medium_entry_name x l.media) name ∙ found;
            normal = normal;
            merging = ends.down.merging;
            into = ap (λ x. merging_into (OfMedium x) l.merging) (name ∙ sym same) ∙ ends.down.into;
          } in (
            merged r (ap (is_held (OfInner ends.down.merging.child) s.medium) e ∙ eq-eqb ends.down.merging.child i ends.down.child),
            may-share n.mode
                normal,
          )

      shared-by : Shares l.merging s.held → (n : Medium) → find_by medium_entry_name s.medium l.media ≡ Some n
          → (is_frozen_in l.machines n ≡ false) × MayHold n.mode false false
      shared-by (already e) n found =
          let both : Some rules.medium ≡ Some n = sym rules.there ∙ found in
          let same : rules.medium ≡ n = cc in
          let may : may_hold false n.mode Direct ≡ true = (λ i. may_hold false (sym same i).mode (sym e i)) ∙ rules.held in
          (free n found e, may-direct false n.mode may)
      shared-by (merged_down i e ending) n found = ending-shared i e ending n found

      shared : IsShared s
      unfolding IsShared
      shared = λ n found e. shared-by (end-direct l.merging s.held e) n found

      -- a normal medium that is not frozen is not in the current snapshot
      not-at : (port : ℕ) (n : Medium) → is_normal n.mode ≡ true → is_frozen_in l.machines n ≡ false → has_slot_at port n.name upper ≡ false
      not-at port n normal free =
          let none : list_any (has_snapshot_of n.name) l.machines ≡ false = sym (ap (λ b. b && list_any (has_snapshot_of n.name) l.machines) normal)
          ∙ free in
          let mine : has_snapshot_of n.name m ≡ false =
          All-find named_machine_name (λ y. has_snapshot_of n.name y ≡ false) m.name m l.machines
          (none_of_any (has_snapshot_of n.name) l.machines none) there in
          let each = named-all (λ (t : NamedSlot). bytes_eq t.medium n.name ≡ false) m.current m.snapshots
          (All-map _ _ (λ s e. none_of_any (λ (t : NamedSlot). bytes_eq t.medium n.name) s.slots e) m.snapshots
          (none_of_any (λ (s : NamedSnapshot). has_slot_of n.name s.slots) m.snapshots mine)) in
          any_none (λ (t : NamedSlot). t.port == port && bytes_eq t.medium n.name) upper
          (All-map _ _ (λ t e. rw e (and_right (t.port == port) false refl)) upper each)

      -- the machine has its own disk of a normal medium where the current snapshot has that medium
      own-at : is_normal rules.medium.mode ≡ true → is_some (own_slot s) ≡ has_slot_at s.port s.medium upper
      unfolding IsShared
      own-at normal = by (held_at_end l.merging s.held) refl
        where
          name : rules.medium.name ≡ s.medium
          name = (bytes_eq-Decides rules.medium.name s.medium).0 (find_named medium_entry_name s.medium rules.medium l.media rules.there)

          by : (h : Held) → held_at_end l.merging s.held ≡ h → is_some (own_by l files s.medium h) ≡ has_slot_at s.port s.medium upper
          by Direct e = sym (ap (λ x. has_slot_at s.port x upper) (sym name)
              ∙ not-at s.port rules.medium normal (shared rules.medium rules.there e).0)
          by (Own i) e =
              let own = end-own l.merging s.held i e in
              elim (upper-has l is upper s.port i s.medium rules.medium rules.there normal (own-of false s rules i own.0) upper-slots
              (subst (λ h. is_held_over (images_of l) upper s.port h ≡ true) own.0 stands)) [
                | inl at ↦ sym at
                | inr down ↦ let clash : true ≡ false = sym (down-ending l s.medium i down) ∙ own.1 in absurd cc
              ]
          by Base e = absurd (no-base rules.medium.mode (sym (ap (may_hold false rules.medium.mode) (end-base l.merging s.held e)) ∙ rules.held))

    upper-in : map (place_in l files) upper ≡ slots_named m.current (map (snapshot_in l files) m.snapshots)
    upper-in = sym (slots_named-map l files m.current m.snapshots)

    -- what each slot has
    record HasSlotFacts (s : NamedSlot) : Type 0 where
      rules : IsNamedSlot (images_of l) false s
      stands : is_held_over (images_of l) upper s.port s.held ≡ true
      free : (n : Medium) → find_by medium_entry_name s.medium l.media ≡ Some n → s.held ≡ Direct → is_frozen_in l.machines n ≡ false
      merged : (r : MergedMedium l) → holds (OfInner r.merging.child) s ≡ true → is_frozen_in l.machines r.medium ≡ false

    slot-facts : AllByRecursion HasSlotFacts m.slots
    slot-facts = All-join _ _ HasSlotFacts (λ s a b. record { rules = a.0; stands = a.1; free = b.0; merged = b.1 }) m.slots
        (All-both (IsNamedSlot (images_of l) false) (λ (s : NamedSlot). is_held_over (images_of l) upper s.port s.held ≡ true) m.slots
        of.slots.valid.each of.slots.stacked)
        (All-both (λ (s : NamedSlot). (n : Medium) → find_by medium_entry_name s.medium l.media ≡ Some n → s.held ≡ Direct
        → is_frozen_in l.machines n ≡ false)
        (λ (s : NamedSlot). (r : MergedMedium l) → holds (OfInner r.merging.child) s ≡ true → is_frozen_in l.machines r.medium ≡ false) m.slots
        (unfrozen l m is there) merged-slots)

    own-in : AllByRecursion
        (λ (s : WorldSlot). IsTrue (is_of_normal media s) → is_some s.own ≡ has_at s.port s.medium (map (place_in l files) upper))
        (map (slot_in l files) m.slots)
    own-in = All-of_map (slot_in l files) _ m.slots (All-map HasSlotFacts _ (λ s f normal.
        let mode : is_normal f.rules.medium.mode ≡ true = sym (ap (has_mode is_normal) f.rules.there) ∙ sym (normal-in (slot_in l files s))
        ∙ normal in
        own-at s f.rules f.stands f.free f.merged mode ∙ sym (at-in (place_in l files) own_place place-is s.port s.medium upper)) m.slots slot-facts)

    machine-in : IsSoundMachine media (machine_in running l files m)
    machine-in = record {
      tree = tree-in m.snapshots m.current of.tree;
      slots = slots-in (slot_in l files) own_slot slot-is false m.slots of.slots.valid
          (All-map HasSlotFacts _ (λ s f. slot-sound s f.rules (shared s f.rules f.stands f.free f.merged)) m.slots slot-facts);
      places = All-of_map (snapshot_in l files) _ m.snapshots (All-map (IsSnapshotOf (images_of l) m) _ (λ s rules.
          slots-in (place_in l files) own_place place-is true s.slots rules.places.valid (All-map _ _ place-sound s.slots rules.places.valid.each))
          m.snapshots of.snapshots);
      children = All-of_map (snapshot_in l files) _ m.snapshots (All-map (IsSnapshotOf (images_of l) m) _ (λ s rules.
          subst (λ u. Inherits media u (map (place_in l files) s.slots)) (sym (slots_named-map l files s.parent m.snapshots))
          (inherits-in (place_in l files) own_place place-is (upper_places s.parent m.snapshots) s.slots rules.places.inherits)) m.snapshots
          of.snapshots);
      current = subst (λ u. Inherits media u (map (slot_in l files) m.slots)) upper-in
          (inherits-in (slot_in l files) own_slot slot-is upper m.slots of.slots.inherits);
      own = subst (λ u. AllByRecursion (λ (s : WorldSlot). IsTrue (is_of_normal media s) → is_some s.own ≡ has_at s.port s.medium u)
          (map (slot_in l files) m.slots)) upper-in own-in;
    }

  -- ---- media

  abbrev machines : List WorldMachine
  machines = map (machine_in running l files) l.machines

  -- what is merged into a medium has the medium's capacity
  end-capacity : (m : Medium) → IsMediumFile l files m → (o : Option NamedMerging) → merging_into (OfMedium m.name) l.merging ≡ o
      → (header_in files m.name).capacity ≡ 512 * length (flat_at_end l files m.name o)
  end-capacity m of None e = medium-flat l files store m of
  end-capacity m of (Some j) e =
      let below = parent-below l j.child j.parent is (merging-rules l is (OfMedium m.name) j e).parent
      ∙ parent-is j.parent (merging-parent l is (OfMedium m.name) j e) in
      disk-capacity l files store m of (OfInner j.child) (own-listed (reverse l.inners) j.child m.name below) below
    where
      parent-is : (image : ImageName) → is_image image (OfMedium m.name) ≡ true → medium_below (chain_of l.inners image) ≡ Some m.name
      parent-is (OfMedium name) same = ap Some ((bytes_eq-Decides name m.name).0 same)
      parent-is (OfInner n) same = absurd cc

  medium-sound : (m : Medium) → IsMediumFile l files m → IsSoundMedium machines (medium_in changed l files m)
  unfolding medium_in
  medium-sound m of = record {
    frozen = by (is_frozen_in l.machines m) ∙ sym (frozen-same running l files l.machines m (medium_in changed l files m) refl refl);
    disk = size (is_frozen_in l.machines m);
    capacity = medium-size l files store m of;
  }
    where
      flat : FlatDisk
      flat = flat_at_end l files m.name (merging_into (OfMedium m.name) l.merging)

      by : (c : Bool) → is_none (cond c None (Some flat)) ≡ c
      by true = refl
      by false = refl

      size : (c : Bool) → HasCapacity (cond c None (Some flat)) (header_in files m.name).capacity
      size true = tt
      size false = end-capacity m of (merging_into (OfMedium m.name) l.merging) refl

  -- ---- a frozen medium

  first-same : (name : Name) (m : NamedMachine) → first_count name (machine_in running l files m) ≡ first_in name m
  first-same name m =
      count-map (λ (s : WorldSnapshot). has_medium name s.slots && not
      (has_medium name (slots_named s.parent (map (snapshot_in l files) m.snapshots)))) (snapshot_in l files) m.snapshots
      ∙ ap (λ p. count_by p m.snapshots) (λ i s. has s.slots i && not (upper-has-same s i))
    where
      has : (slots : List NamedSlot) → has_medium name (map (place_in l files) slots) ≡ has_slot_of name slots
      has slots = has-in (place_in l files) own_place place-is name slots

      upper-has-same : (s : NamedSnapshot)
          → has_medium name (slots_named s.parent (map (snapshot_in l files) m.snapshots)) ≡ has_slot_of name (upper_places s.parent m.snapshots)
      upper-has-same s = ap (has_medium name) (slots_named-map l files s.parent m.snapshots) ∙ has (upper_places s.parent m.snapshots)

  medium-mode : (m : Medium) → (medium_in changed l files m).mode ≡ m.mode
  unfolding medium_in
  medium-mode m = refl

  first-count : (m : Medium) → find_by medium_entry_name m.name l.media ≡ Some m → IsTrue (is_frozen machines (medium_in changed l files m))
      → sum_by (first_count m.name) machines ≡ 1
  first-count m on frozen =
      let here : is_frozen_in l.machines m ≡ true =
      sym (frozen-same running l files l.machines m (medium_in changed l files m) (medium-name m) (medium-mode m)) ∙ frozen in
      let normal = (and_parts (is_normal m.mode) (list_any (has_snapshot_of m.name) l.machines) here).0 in
      fold-map (λ n y. n + first_count m.name y) (machine_in running l files) 0 l.machines
      ∙ ap (λ f. sum_by f l.machines) (λ i y. first-same m.name y i) ∙ first-once l is m on normal here

  -- The world of a store is sound.
  pub world-sound : IsSound (world_of changed running l files)
  unfolding world_of medium_in
  world-sound = record {
    seed = is.seed.long;
    next = is.next;
    inner = is.inner;
    media_order = rises_map (medium_in changed l files) medium_entry_name medium_name medium-name l.media is.media_rise;
    media_names = All-of_map (medium_in changed l files) (λ m. IsTrue (is_medium_name (medium_name m))) l.media is.media;
    media = All-of_map (medium_in changed l files) (IsSoundMedium machines) l.media (All-map _ _ medium-sound l.media store.media);
    machine_order = rises_map (machine_in running l files) named_machine_name machine_name (λ m. refl) l.machines is.machines_rise;
    machines = All-of_map (machine_in running l files) (IsSoundMachine media) l.machines
        (All-join _ (IsMachine (images_of l)) _ machine-in l.machines (each_found named_machine_name l.machines is.machines_rise) is.machines);
    first = All-of_map (medium_in changed l files) _ l.media
        (All-map _ _ (λ m on frozen. first-count m on frozen) l.media (each_found medium_entry_name l.media is.media_rise));
    shelf = sound_shelf changed l files;
    few_media = omega (arith, is.few_media, length-map l.media (medium_in changed l files));
    few_machines = omega (arith, is.few_machines, length-map l.machines (machine_in running l files));
    few_snapshots = subst (λ n. n ≤ SNAPSHOT_LIMIT)
        (sym (fold-map (λ n (y : WorldMachine). n + length y.snapshots) (machine_in running l files) 0 l.machines
        ∙ ap (λ f. sum_by f l.machines) (λ i y. length-map y.snapshots (snapshot_in l files) i))) is.few_snapshots;
    few_places = subst (λ n. n ≤ PLACE_LIMIT)
        (sym (fold-map (λ n (y : WorldMachine). n + sum_by (λ (s : WorldSnapshot). length s.slots) y.snapshots) (machine_in running l files) 0
        l.machines
        ∙ ap (λ f. sum_by f l.machines) (λ i y. (fold-map (λ n (s : WorldSnapshot). n + length s.slots) (snapshot_in l files) 0 y.snapshots
        ∙ ap (λ f. sum_by f y.snapshots) (λ j s. length-map s.slots (place_in l files) j)) i))) is.few_places;
  }
