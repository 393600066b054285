-- The rules of a library by names. Each is local, so that an edit keeps it by a short proof.
use Rattle.std.specs.Prelude.{◌≡◌, ℕ, ◌+◌, ◌<◌, ◌≤◌, ◌&&◌, ◌||◌, ◌==◌, nat_le, Bool, true, false, List, [], ◌∷◌, length, map, reverse, sum_by, count_by, Option, Some, None, IfSome, IsTrue, IsFalse}
use Rattle.std.specs.List.{AllByRecursion, list_any}
use Rattle.std.specs.Str.{bytes_eq}
use Rattle.vbm_ports.specs.Names.{is_medium_name, is_short_name}
use Rattle.vbm_modes.specs.declared.Mode.{Mode}
use Rattle.vbm_modes.specs.Modes.{is_own}
use Rattle.vbm_ids.specs.declared.TheConstants.{NUMBER_LIMIT}
use Rattle.vbm_ids.specs.Identifier.{IsSeed}
use Rattle.vbm_machines.specs.declared.Held.{Held}
use Rattle.vbm_machines.specs.declared.Held.TheVariants.{Direct, Own, Base}
use Rattle.vbm_named.specs.Names.{Name, find_by, has_name, Rises}
use Rattle.vbm_world.specs.declared.limits.TheConstants.{MEDIA_LIMIT, MACHINE_LIMIT, SNAPSHOT_LIMIT, PLACE_LIMIT, PORT_LIMIT}
use Rattle.vbm_world.specs.World.{is_normal, is_immutable, is_layered}
use Rattle.vbm_world.specs.Tree.{IsTree}
use Rattle.vbm_registry.specs.declared.media.Medium.{Medium}
use Rattle.vbm_registry.specs.Library.{medium_entry_name}
use Rattle.vbm_registry.specs.Held.{may_hold}
use Rattle.vbm_registry.specs.Named.{ImageName, OfMedium, OfInner, NamedInner, NamedSlot, NamedSnapshot, NamedMachine, NamedMerging, NamedLibrary, ListedImages, images_of, named_snapshot_name, named_machine_name, named_branch}
use Rattle.vbm_registry.specs.Chains.{is_image, chain_of, medium_below, parent_of, merging_into}

-- ---- media

abbrev pub has_mode : (Mode → Bool) → Option Medium → Bool
has_mode test None = false
has_mode test (Some m) = test m.mode

-- the medium of a name has a mode that passes a test; false where there is no such medium
abbrev pub is_medium_of : (Mode → Bool) → List Medium → Name → Bool
is_medium_of test media name = has_mode test (find_by medium_entry_name name media)

-- ---- inner images

abbrev pub has_number : ℕ → List NamedInner → Bool
has_number n inners = list_any (λ (x : NamedInner). x.number == n) inners

-- An inner image stands on one that is listed earlier, or on a medium that may have inner images.
abbrev pub IsParent : List Medium → List NamedInner → ImageName → Type 0
IsParent media earlier (OfMedium name) = IsTrue (is_medium_of is_layered media name)
IsParent media earlier (OfInner n) = IsTrue (has_number n earlier)

-- inner images, the last one first: their numbers fall strictly, all below a bound
abbrev pub AreInners : List Medium → (bound : ℕ) → List NamedInner → Type 0
AreInners media bound [] = Unit {0}
AreInners media bound (x ∷ earlier) = (x.number < bound) × IsParent media earlier x.parent × AreInners media x.number earlier

-- ---- slots and places of snapshots

-- an own image is one of the slot's medium
abbrev pub IsOwnOf : List NamedInner → Name → Held → Type 0
IsOwnOf inners medium Direct = Unit {0}
IsOwnOf inners medium (Own n) = medium_below (chain_of inners (OfInner n)) ≡ Some medium
IsOwnOf inners medium Base = Unit {0}

pub record IsNamedSlot (images : ListedImages) (of_snapshot : Bool) (s : NamedSlot) : Type 0 where
  pub medium : Medium
  pub there : find_by medium_entry_name s.medium images.media ≡ Some medium
  pub held : IsTrue (may_hold of_snapshot medium.mode s.held)
  pub own : IsOwnOf images.inners s.medium s.held
  pub autoreset : IsTrue s.autoreset → IsTrue (is_immutable medium.mode)

-- ports rise strictly, from this one on, and are below the limit
abbrev pub PortsRise : ℕ → List NamedSlot → Type 0
PortsRise low [] = low ≤ PORT_LIMIT
PortsRise low (s ∷ slots) = (low ≤ s.port) × PortsRise (s.port + 1) slots

-- no medium stands twice
abbrev pub MediaDiffer : List NamedSlot → Type 0
MediaDiffer [] = Unit {0}
MediaDiffer (s ∷ slots) = AllByRecursion (λ (t : NamedSlot). IsFalse (bytes_eq t.medium s.medium)) slots × MediaDiffer slots

-- the slots of a machine, or the places of a snapshot
pub record AreNamedSlots (images : ListedImages) (of_snapshot : Bool) (slots : List NamedSlot) : Type 0 where
  pub ports : PortsRise 0 slots
  pub different : MediaDiffer slots
  pub each : AllByRecursion (IsNamedSlot images of_snapshot) slots

-- ---- what stands on what

-- the places of the upper snapshot, none where there is none: a snapshot's is its parent, a machine's the current one
abbrev pub places_of_some : Option NamedSnapshot → List NamedSlot
places_of_some None = []
places_of_some (Some s) = s.slots

abbrev pub upper_places : Option Name → List NamedSnapshot → List NamedSlot
upper_places None snapshots = []
upper_places (Some name) snapshots = places_of_some (find_by named_snapshot_name name snapshots)

-- a slot holds an image: its own inner one, or, as a base place, its medium's
abbrev pub is_held : ImageName → Name → Held → Bool
is_held image medium Direct = false
is_held image medium (Own n) = is_image image (OfInner n)
is_held image medium Base = is_image image (OfMedium medium)

abbrev pub holds : ImageName → NamedSlot → Bool
holds image s = is_held image s.medium s.held

-- the image of an immutable or multi-attach medium, on which machines' own ones stand from the start
abbrev pub is_common : List Medium → ImageName → Bool
is_common media (OfMedium name) = is_medium_of is_own media name
is_common media (OfInner n) = false

-- the upper snapshot holds the image at the port, or it is common
abbrev pub is_above : List Medium → (upper : List NamedSlot) → (port : ℕ) → ImageName → Bool
is_above media upper port image = list_any (λ (s : NamedSlot). s.port == port && holds image s) upper || is_common media image

abbrev pub is_some_above : List Medium → List NamedSlot → ℕ → Option ImageName → Bool
is_some_above media upper port None = false
is_some_above media upper port (Some image) = is_above media upper port image

-- What is asked of the parent of an image that a slot holds. Where the parent is being merged, it is asked of the image that the parent
-- stands on, and the merging is that of the held image.
abbrev pub is_parent_above : ListedImages → (upper : List NamedSlot) → (port child : ℕ) → ImageName → Option NamedMerging → Bool
is_parent_above images upper port child parent None = is_above images.media upper port parent
is_parent_above images upper port child (OfMedium name) (Some j) = j.child == child
is_parent_above images upper port child (OfInner n) (Some j) = j.child == child && is_some_above images.media upper port (parent_of images.inners n)

abbrev pub is_stacked_on : ListedImages → List NamedSlot → (port child : ℕ) → Option ImageName → Bool
is_stacked_on images upper port child None = false
is_stacked_on images upper port child (Some parent) = is_parent_above images upper port child parent (merging_into parent images.merging)

-- an own image stands on what the upper snapshot holds
abbrev pub is_held_over : ListedImages → (upper : List NamedSlot) → ℕ → Held → Bool
is_held_over images upper port Direct = true
is_held_over images upper port (Own n) = is_stacked_on images upper port n (parent_of images.inners n)
is_held_over images upper port Base = true

abbrev pub is_stacked : ListedImages → (upper : List NamedSlot) → NamedSlot → Bool
is_stacked images upper s = is_held_over images upper s.port s.held

abbrev pub has_slot_at : ℕ → Name → List NamedSlot → Bool
has_slot_at port name slots = list_any (λ (s : NamedSlot). s.port == port && bytes_eq s.medium name) slots

-- each normal medium that the upper snapshot has, the slots have at the same port
abbrev pub IsInherited : List Medium → (upper lower : List NamedSlot) → Type 0
IsInherited media upper lower =
    AllByRecursion (λ (s : NamedSlot). IsTrue (is_medium_of is_normal media s.medium) → IsTrue (has_slot_at s.port s.medium lower)) upper

-- ---- machines

-- slots below an upper snapshot
pub record AreSlotsUnder (images : ListedImages) (of_snapshot : Bool) (upper slots : List NamedSlot) : Type 0 where
  pub valid : AreNamedSlots images of_snapshot slots
  pub stacked : AllByRecursion (λ (s : NamedSlot). IsTrue (is_stacked images upper s)) slots
  pub inherits : IsInherited images.media upper slots

pub record IsSnapshotOf (images : ListedImages) (m : NamedMachine) (s : NamedSnapshot) : Type 0 where
  pub name : IsTrue (is_short_name s.name)
  pub places : AreSlotsUnder images true (upper_places s.parent m.snapshots) s.slots

pub record IsMachine (images : ListedImages) (m : NamedMachine) : Type 0 where
  pub name : IsTrue (is_short_name m.name)
  pub tree : IsTree (map named_branch m.snapshots) m.current
  pub slots : AreSlotsUnder images false (upper_places m.current m.snapshots) m.slots
  pub snapshots : AllByRecursion (IsSnapshotOf images m) m.snapshots

-- ---- counts

-- how many slots and places of snapshots there are that pass a test
abbrev pub count_in_machine : (NamedSlot → Bool) → NamedMachine → ℕ
count_in_machine test m = count_by test m.slots + sum_by (λ (s : NamedSnapshot). count_by test s.slots) m.snapshots

abbrev pub count_in : (NamedSlot → Bool) → List NamedMachine → ℕ
count_in test machines = sum_by (count_in_machine test) machines

-- how many snapshots there are, and places of snapshots
abbrev pub named_snapshot_count : List NamedMachine → ℕ
named_snapshot_count machines = sum_by (λ (m : NamedMachine). length m.snapshots) machines

abbrev pub named_place_count : List NamedMachine → ℕ
named_place_count machines = sum_by (λ (m : NamedMachine). sum_by (λ (s : NamedSnapshot). length s.slots) m.snapshots) machines

abbrev pub mergings_into : ImageName → List NamedMerging → ℕ
mergings_into image js = count_by (λ (j : NamedMerging). is_image j.parent image) js

-- One slot holds the image, or it is the parent of one merging.
abbrev pub IsHeldOnce : List NamedMachine → List NamedMerging → ImageName → Type 0
IsHeldOnce machines js image = count_in (holds image) machines + mergings_into image js ≡ 1

abbrev pub is_held_directly : Held → Bool
is_held_directly Direct = true
is_held_directly (Own n) = false
is_held_directly Base = false

abbrev pub has_directly : Name → NamedSlot → Bool
has_directly name s = bytes_eq s.medium name && is_held_directly s.held

-- inner images stand on a medium, or a snapshot holds it
abbrev pub is_based : List NamedInner → List NamedMachine → Name → Bool
is_based inners machines name =
    list_any (λ (x : NamedInner). is_image x.parent (OfMedium name)) inners || nat_le 1 (count_in (holds (OfMedium name)) machines)

-- A normal medium on which something stands is shared by no slot, and is held once.
pub record IsBasedOnce (machines : List NamedMachine) (js : List NamedMerging) (m : Medium) : Type 0 where
  pub nowhere : count_in (has_directly m.name) machines ≡ 0
  pub once : IsHeldOnce machines js (OfMedium m.name)

-- ---- mergings

-- a medium that is merged into is normal
abbrev pub IsMergedInto : List Medium → ImageName → Type 0
IsMergedInto media (OfMedium name) = IsTrue (is_medium_of is_normal media name)
IsMergedInto media (OfInner n) = Unit {0}

pub record IsMerging (images : ListedImages) (machines : List NamedMachine) (j : NamedMerging) : Type 0 where
  pub parent : parent_of images.inners j.child ≡ Some j.parent
  pub normal : IsMergedInto images.media j.parent
  -- the child is the only one of its parent
  pub only : count_by (λ (x : NamedInner). is_image x.parent j.parent) images.inners ≡ 1
  pub held : count_in (holds (OfInner j.child)) machines ≡ 1
  -- no child stands twice
  pub once : count_by (λ (k : NamedMerging). k.child == j.child) images.merging ≡ 1

-- a number that was drawn for an image
abbrev pub IsDrawn : (next inner : ℕ) → ImageName → ℕ → Type 0
IsDrawn next inner (OfMedium name) number = number < next
IsDrawn next inner (OfInner n) number = number < inner

-- ---- a library

pub record IsLibrary (l : NamedLibrary) : Type 0 where
  pub seed : IsSeed l.seed
  pub next : l.next ≤ NUMBER_LIMIT
  pub inner : l.inner ≤ NUMBER_LIMIT
  pub few_media : length l.media ≤ MEDIA_LIMIT
  pub few_machines : length l.machines ≤ MACHINE_LIMIT
  pub few_snapshots : named_snapshot_count l.machines ≤ SNAPSHOT_LIMIT
  pub few_places : named_place_count l.machines ≤ PLACE_LIMIT
  pub few_mergings : length l.merging ≤ PORT_LIMIT
  pub media_rise : Rises medium_entry_name l.media
  pub media : AllByRecursion (λ (m : Medium). IsTrue (is_medium_name m.name)) l.media
  pub inners : AreInners l.media l.inner (reverse l.inners)
  pub machines_rise : Rises named_machine_name l.machines
  pub machines : AllByRecursion (IsMachine (images_of l)) l.machines
  -- the medium that is being made is not listed yet
  pub making : IfSome l.making (λ name. IsTrue (is_medium_name name) × IsFalse (has_name medium_entry_name name l.media))
  pub held : AllByRecursion (λ (x : NamedInner). IsHeldOnce l.machines l.merging (OfInner x.number)) l.inners
  pub based : AllByRecursion (λ (m : Medium). IsTrue (is_normal m.mode) → IsTrue (is_based l.inners l.machines m.name)
      → IsBasedOnce l.machines l.merging m) l.media
  pub merging : AllByRecursion (IsMerging (images_of l) l.machines) l.merging
  pub drawn : AllByRecursion (λ (j : NamedMerging). IsDrawn l.next l.inner j.parent j.number) l.merging
