-- A snapshot is taken: the world of the library and the files after it is the world that the step gives.
use Rattle.std.proofs.Common.{◌≡◌, Bool, true, false, not, cond, List, [], map, Some, None, refl, sym, ap, ◌∙◌, IsTrue, is_some}
use Rattle.std.specs.Prelude.{count_by, option_and_then}
use Rattle.std.specs.List.{AllByRecursion}
use Rattle.std.specs.Option.{option_map}
use Rattle.std.proofs.lemmas.Bool.{or_parts}
use Rattle.std.proofs.lemmas.Simd.{map-map}
use Rattle.std.proofs.lemmas.Slice.Eq.{bytes_eq-Decides}
use Rattle.vbm_ports.specs.Files.{Files}
use Rattle.vbm_machines.specs.declared.Held.{Held}
use Rattle.vbm_machines.specs.declared.Held.TheVariants.{Direct, Own, Base}
use Rattle.vbm_modes.specs.declared.Mode.{Mode}
use Rattle.vbm_modes.specs.declared.Mode.TheVariants.{Normal, Immutable, Writethrough, MultiAttach, Readonly}
use Rattle.vbm_world.specs.declared.world.WorldMedium.{WorldMedium}
use Rattle.vbm_world.specs.declared.world.WorldSlot.{WorldSlot}
use Rattle.vbm_world.specs.declared.world.WorldMachine.{WorldMachine}
use Rattle.vbm_named.specs.Names.{Name, find_by, has_name, put_by}
use Rattle.vbm_world.specs.World.{World, snapshot_name, medium_of, has_own, is_normal, is_layered, is_of_mode}
use Rattle.vbm_world.specs.Places.{own_or_medium}
use Rattle.vbm_named.proofs.Lists.{has_found, All-map, All-join, All-every, All-of_map, All-find, find_named, put_map}
use Rattle.vbm_registry.specs.declared.media.Medium.{Medium}
use Rattle.vbm_registry.specs.Library.{medium_entry_name}
use Rattle.vbm_registry.specs.Named.{ImageName, OfMedium, OfInner, NamedSlot, NamedSnapshot, NamedMachine, NamedLibrary, images_of, named_snapshot_name, named_machine_name}
use Rattle.vbm_registry.specs.Chains.{merging_into}
use Rattle.vbm_standing.specs.ChainDisks.{disk_by}
use Rattle.vbm_standing.specs.Meaning.{own_by, place_in, slot_in, snapshot_in, machine_in, has_slot_of, has_snapshot_of, is_frozen_in, flat_at_end, medium_in, world_of}
use Rattle.vbm_registry.specs.Held.{may_hold}
use Rattle.vbm_registry.specs.Rules.{has_mode, is_medium_of, IsNamedSlot, IsMachine, IsLibrary}
use Rattle.vbm_standing.specs.Edits.{renewed_slots, none_gone, held_in_snapshot, place_of_slot, renewal_of, places_taken, machine_taken, library_taken}
use Rattle.vbm_world.specs.Snapshots.{kept_slot, taken}
use Rattle.vbm_registry.proofs.ListLaws.{map-same, any_put}
use Rattle.vbm_standing.proofs.ChainFrames.{disk-medium, IsRenewed, Remains, disk-stays, disk-new}
use Rattle.vbm_standing.proofs.WorldParts.{slot-plain, OfHeld, OfPlace, SameDisk, places-stay, snapshots-stay, slots-renewed, over-places, drawn-places, medium_of-world}
use Rattle.vbm_standing.proofs.PlacesHeld.{place-listed, machine-listed, places-map, machine-map, parents-over, kepts-over}
use Rattle.vbm_standing.proofs.WorldEdits.{IsOfMachine, world-renewed, frozen-more, named-is}
use Rattle.vbm_standing.proofs.FrozenMedia.{unfrozen}
use Rattle.vbm_standing.specs.EditedFiles.{AreEdited, IsStaying, HasImage}

-- ---- what a snapshot keeps of a slot

-- by the medium's mode
kept-by : (l : NamedLibrary) (files : Files) (w : World) (name : Name) (mode : Mode) (h : Held)
    → IsTrue (may_hold false mode h)
    → (is_normal mode ≡ true → h ≡ Direct → own_or_medium w name None ≡ Some (disk_by l files (OfMedium name)))
    → own_by l files name (held_in_snapshot (is_normal mode) h) ≡ cond (is_layered mode) (own_or_medium w name (own_by l files name h)) None
kept-by l files w name Normal Direct may flat = sym (flat refl refl)
kept-by l files w name Normal (Own n) may flat = refl
kept-by l files w name Normal Base may flat = absurd cc
kept-by l files w name Immutable Direct may flat = absurd cc
kept-by l files w name Immutable (Own n) may flat = refl
kept-by l files w name Immutable Base may flat = absurd cc
kept-by l files w name MultiAttach Direct may flat = absurd cc
kept-by l files w name MultiAttach (Own n) may flat = refl
kept-by l files w name MultiAttach Base may flat = absurd cc
kept-by l files w name Writethrough Direct may flat = refl
kept-by l files w name Writethrough (Own n) may flat = absurd cc
kept-by l files w name Writethrough Base may flat = absurd cc
kept-by l files w name Readonly Direct may flat = refl
kept-by l files w name Readonly (Own n) may flat = absurd cc
kept-by l files w name Readonly Base may flat = absurd cc

-- a normal medium that the slot shares is not frozen
abbrev pub IsUnfrozen : NamedLibrary → NamedSlot → Type 0
IsUnfrozen l s = (m : Medium) → find_by medium_entry_name s.medium l.media ≡ Some m → s.held ≡ Direct → is_frozen_in l.machines m ≡ false

module _ (changed running : Name → Bool) (l : NamedLibrary) (files : Files) (plain : l.merging ≡ []) where
  abbrev w : World
  w = world_of changed running l files

  flat-of : (m : Medium) → is_frozen_in l.machines m ≡ false → (medium_in changed l files m).flat ≡ Some (disk_by l files (OfMedium m.name))
  unfolding medium_in
  flat-of m unfrozen =
      rw unfrozen (ap (λ js. Some (flat_at_end l files m.name (merging_into (OfMedium m.name) js))) plain ∙ ap Some (sym (disk-medium l files m.name)))

  pub kept-same : (s : NamedSlot) → IsNamedSlot (images_of l) false s → IsUnfrozen l s → place_in l files (place_of_slot l.media s) ≡ kept_slot w (slot_in l files s)
  unfolding medium_in
  kept-same s is unfrozen =
      let m = is.medium in
      let same_name : m.name ≡ s.medium = (bytes_eq-Decides m.name s.medium).0 (find_named medium_entry_name s.medium m l.media is.there) in
      let found : medium_of w s.medium ≡ Some (medium_in changed l files m) = medium_of-world changed running l files s.medium ∙ ap (option_map (medium_in changed l files)) is.there in
      let own : own_by l files s.medium (held_in_snapshot (is_medium_of is_normal l.media s.medium) s.held)
      ≡ cond (is_of_mode is_layered (medium_of w s.medium)) (own_or_medium w s.medium (own_by l files s.medium s.held)) None =
      ap (λ o. own_by l files s.medium (held_in_snapshot (has_mode is_normal o) s.held)) is.there
      ∙ kept-by l files w s.medium m.mode s.held is.held (λ normal direct.
      ap (option_and_then (λ (n : WorldMedium). n.flat)) found ∙ flat-of m (unfrozen m is.there direct) ∙ ap (λ n. Some (disk_by l files (OfMedium n))) same_name)
      ∙ ap (λ o. cond (is_of_mode is_layered o) (own_or_medium w s.medium (own_by l files s.medium s.held)) None) (sym found) in
      let kept_is : place_in l files (place_of_slot l.media s) ≡ kept_slot w (place_in l files s) =
      λ i. record { port = s.port; medium = s.medium; autoreset = s.autoreset; own = own i } in
      kept_is ∙ ap (kept_slot w) (sym (slot-plain l files plain s))

-- what a snapshot keeps holds listed images
kept-held : (l : NamedLibrary) (normal : Bool) (medium : Name) (h : Held) → has_name medium_entry_name medium l.media ≡ true
    → OfHeld (HasImage l) medium h → OfHeld (HasImage l) medium (held_in_snapshot normal h)
kept-held l true medium Direct there of = there
kept-held l false medium Direct there of = tt
kept-held l normal medium (Own n) there of = of
kept-held l normal medium Base there of = of

kept-listed : (l : NamedLibrary) (s : NamedSlot) → IsNamedSlot (images_of l) false s → OfPlace (HasImage l) (place_of_slot l.media s)
kept-listed l s is = kept-held l (is_medium_of is_normal l.media s.medium) s.medium s.held
    (has_found medium_entry_name s.medium l.media ∙ ap is_some is.there) (place-listed l false s is)

-- ---- the world after it

pub stays-all : (l : NamedLibrary) (image : ImageName) → HasImage l image → Remains l none_gone image
stays-all l (OfMedium name) listed = (listed, tt)
stays-all l (OfInner n) listed = (listed, refl)

pub closed-all : (image : ImageName) → IsStaying none_gone image
closed-all (OfMedium name) = tt
closed-all (OfInner n) = refl

module _ (changed running : Name → Bool) (l : NamedLibrary) (a b : Files) (m : NamedMachine) (name : Name)
    (is : IsLibrary l) (plain : l.merging ≡ []) (there : find_by named_machine_name m.name l.machines ≡ Some m) (files : AreEdited l none_gone (map renewal_of (places_taken l m)) a b) where
  abbrev k : NamedLibrary
  k = library_taken l m name

  abbrev before : World
  before = world_of changed running l a

  abbrev slots : List NamedSlot
  slots = places_taken l m

  ruled : IsMachine (images_of l) m
  ruled = All-find named_machine_name (IsMachine (images_of l)) m.name m l.machines is.machines there

  slots-listed : AllByRecursion (OfPlace (HasImage l)) slots
  slots-listed = All-of_map (place_of_slot l.media) (OfPlace (HasImage l)) m.slots (All-map _ _ (kept-listed l) m.slots ruled.slots.valid.each)

  slots-staying : AllByRecursion (OfPlace (Remains l none_gone)) slots
  slots-staying = places-map (HasImage l) (Remains l none_gone) (stays-all l) slots slots-listed

  renewed : IsRenewed l none_gone (map renewal_of slots) a b
  renewed = record {
    renewal = record {
      inners = is.inners;
      closed = All-every _ (λ x stays. closed-all x.parent) l.inners;
      over = parents-over (Remains l none_gone) slots l.inner slots-staying;
    };
    same = files.same;
    made = files.made;
  }

  same-disk : (image : ImageName) → Remains l none_gone image → SameDisk l k a b image
  same-disk image stays = disk-stays l none_gone (map renewal_of slots) (machine_taken l m name) a b renewed image stays

  abbrev after : List WorldSlot
  after = map (kept_slot before) (map (slot_in l a) m.slots)

  kept-after : map (place_in l a) slots ≡ after
  kept-after =
      map-map (place_in l a) (place_of_slot l.media) m.slots
      ∙ map-same _ (λ s. kept_slot before (slot_in l a s)) m.slots
      (All-join _ _ _ (kept-same changed running l a plain) m.slots ruled.slots.valid.each (unfrozen l m is there))
      ∙ sym (map-map (kept_slot before) (slot_in l a) m.slots)

  slots-after : map (slot_in k b) (renewed_slots l.inner (map renewal_of slots)) ≡ after
  slots-after =
      slots-renewed l k a b plain (map renewal_of slots) l.inner
      (kepts-over (SameDisk l k a b) slots (places-map (Remains l none_gone) (SameDisk l k a b) same-disk slots slots-staying))
      (disk-new l none_gone (map renewal_of slots) (machine_taken l m name) a b renewed)
      ∙ over-places l a slots ∙ kept-after

  snapshots-before : map (snapshot_in k b) m.snapshots ≡ map (snapshot_in l a) m.snapshots
  snapshots-before = snapshots-stay l k a b m.snapshots (machine-map (HasImage l) (SameDisk l k a b) (λ image listed. same-disk image (stays-all l image listed)) m (machine-listed l m ruled)).1

  abbrev snapshot : NamedSnapshot
  snapshot = record { name = name; parent = m.current; slots = slots }

  snapshots-after : map (snapshot_in k b) (put_by named_snapshot_name snapshot m.snapshots)
      ≡ put_by snapshot_name (record { name = name; parent = m.current; slots = after }) (map (snapshot_in l a) m.snapshots)
  snapshots-after =
      let places : map (place_in k b) slots ≡ after =
      places-stay l k a b slots (places-map (Remains l none_gone) (SameDisk l k a b) same-disk slots slots-staying) ∙ kept-after in
      put_map (snapshot_in k b) named_snapshot_name snapshot_name (λ s. refl) snapshot m.snapshots
      ∙ (λ i. put_by snapshot_name (record { name = name; parent = m.current; slots = places i }) (snapshots-before i))

  abbrev machine_after : WorldMachine
  machine_after = record (machine_in running l a m) {
    slots = after;
    snapshots = put_by snapshot_name (record { name = name; parent = m.current; slots = after }) (map (snapshot_in l a) m.snapshots);
    current = Some name;
  }

  machine-after : machine_in running k b (machine_taken l m name) ≡ machine_after
  machine-after = λ i. record { name = m.name; running = running m.name; slots = slots-after i; snapshots = snapshots-after i; current = Some name }

  -- the new snapshot is one more
  snapped-more : (n : Medium) → has_snapshot_of n.name (machine_taken l m name) ≡ false → has_snapshot_of n.name m ≡ false
  snapped-more n e =
      (or_parts (has_slot_of n.name slots) (has_snapshot_of n.name m)
      (sym (any_put named_snapshot_name (λ (s : NamedSnapshot). has_slot_of n.name s.slots) snapshot m.snapshots) ∙ e)).1

  frozen : AllByRecursion (λ (n : Medium). is_frozen_in k.machines n ≡ false → is_frozen_in l.machines n ≡ false) l.media
  frozen = All-every _ (λ n. frozen-more l.machines (machine_taken l m name) n (All-map _ _
      (λ x same of_name less. ap (has_snapshot_of n.name) (same of_name) ∙ snapped-more n less) l.machines (named-is l.machines m is.machines_rise there))) l.media

  of_machine : IsOfMachine running running l none_gone (map renewal_of slots) (machine_taken l m name) a b
  of_machine = record {
    plain = plain;
    renewed = renewed;
    others = All-map (IsMachine (images_of l)) _ (λ n of other. machine-map (HasImage l) (Remains l none_gone) (stays-all l) n (machine-listed l n of)) l.machines is.machines;
    runs = All-every _ (λ n other. refl) l.machines;
    names = is.media;
    files = files.media;
    frozen = frozen;
  }

  -- The library and the files after a snapshot is taken stand for the world that the step gives.
  pub take-world : world_of changed running k b ≡ taken before (machine_in running l a m) name
  take-world = world-renewed changed running running l none_gone (map renewal_of slots) (machine_taken l m name) a b of_machine
      machine_after (count_by has_own after) machine-after refl (drawn-places l a slots ∙ ap (count_by has_own) kept-after)
