-- The rules on places with places in place of names, as the code tests them: where names rise, they say what the rules by names say.
use Rattle.std.specs.Prelude.{◌≡◌, ℕ, ◌+◌, ◌-◌, ◌^◌, ◌<◌, ◌≤◌, ◌&&◌, ◌||◌, ◌==◌, not, min, if◌then◌else◌, nat_le, nat_lt, Bool, true, false, List, [], ◌∷◌, ◌++◌, length, reverse, find, count_by, flat_map, slice_get, Option, Some, None, IfSome, IsTrue}
use Rattle.std.specs.List.{AllByRecursion, list_any, list_all}
use Rattle.std.specs.Option.{option_map}
use Rattle.vbm_modes.specs.declared.Mode.{Mode}
use Rattle.vbm_modes.specs.Modes.{is_own}
use Rattle.vbm_machines.specs.declared.Held.{Held}
use Rattle.vbm_machines.specs.declared.Held.TheVariants.{Direct, Own, Base}
use Rattle.vbm_machines.specs.declared.Slot.{Slot}
use Rattle.vbm_machines.specs.declared.Snapshot.{Snapshot}
use Rattle.vbm_machines.specs.declared.Machine.{Machine}
use Rattle.vbm_named.specs.Names.{Name, is_before, Rises}
use Rattle.vbm_world.specs.declared.limits.TheConstants.{MEDIA_LIMIT}
use Rattle.vbm_world.specs.World.{is_normal}
use Rattle.vbm_registry.specs.declared.media.Medium.{Medium}
use Rattle.vbm_registry.specs.declared.library.Inner.{Inner}
use Rattle.vbm_registry.specs.declared.library.ImageRef.{ImageRef}
use Rattle.vbm_registry.specs.declared.library.ImageRef.TheVariants as refs
use Rattle.vbm_registry.specs.declared.library.Merging.{Merging}
use Rattle.vbm_registry.specs.declared.library.Library.{Library}
use Rattle.vbm_registry.specs.Library.{medium_entry_name}
use Rattle.vbm_registry.specs.Grammar.{snapshot_entry_name}
use Rattle.vbm_registry.specs.Rules.{has_mode}

-- ---- what makes places and names the same

-- names that rise, and none of which is empty
pub record AreNamed {X : Type 0} (name_of : X → Name) (xs : List X) : Type 0 where
  pub rises : Rises name_of xs
  pub begun : AllByRecursion (λ x. IsTrue (is_before [] (name_of x))) xs

-- a medium's place is in the list
abbrev pub IsListedRef : List Medium → ImageRef → Type 0
IsListedRef media (refs.Medium place) = place < length media
IsListedRef media (refs.Inner n) = Unit {0}

pub record HasNames (l : Library) : Type 0 where
  pub few_media : length l.media ≤ MEDIA_LIMIT
  pub media : AreNamed medium_entry_name l.media
  pub snapshots : AllByRecursion (λ (m : Machine). AreNamed snapshot_entry_name m.snapshots) l.machines
  pub parents : AllByRecursion (λ (x : Inner). IsListedRef l.media x.parent) l.inners

-- ---- images

abbrev pub is_same_image : ImageRef → ImageRef → Bool
is_same_image (refs.Medium a) (refs.Medium b) = a == b
is_same_image (refs.Inner a) (refs.Inner b) = a == b
is_same_image (refs.Medium a) (refs.Inner b) = false
is_same_image (refs.Inner a) (refs.Medium b) = false

-- what slots are judged by: the media, the parent of the inner image of each number, and the mergings
pub record ImagesAt : Type 0 where
  pub media : List Medium
  pub parent : ℕ → Option ImageRef
  pub merging : List Merging

abbrev pub parent_at : List Inner → ℕ → Option ImageRef
parent_at inners n = option_map (λ (x : Inner). x.parent) (find (λ (x : Inner). x.number == n) (reverse inners))

abbrev pub images_at : Library → ImagesAt
images_at l = record { media = l.media; parent = parent_at l.inners; merging = l.merging }

abbrev pub has_mode_at : (Mode → Bool) → List Medium → ℕ → Bool
has_mode_at test media place = has_mode test (slice_get media place)

abbrev pub merging_at : ImageRef → List Merging → Option Merging
merging_at image js = find (λ (j : Merging). is_same_image j.parent image) js

abbrev pub mergings_at : ImageRef → List Merging → ℕ
mergings_at image js = count_by (λ (j : Merging). is_same_image j.parent image) js

-- ---- slots

abbrev pub is_held_at : ImageRef → (medium : ℕ) → Held → Bool
is_held_at image medium Direct = false
is_held_at image medium (Own n) = is_same_image image (refs.Inner n)
is_held_at image medium Base = is_same_image image (refs.Medium medium)

abbrev pub slot_holds : ImageRef → Slot → Bool
slot_holds image s = is_held_at image s.medium s.held

abbrev pub is_used_at : ImageRef → (medium : ℕ) → Held → Bool
is_used_at image medium Direct = is_same_image image (refs.Medium medium)
is_used_at image medium (Own n) = false
is_used_at image medium Base = false

-- the slot uses the image itself, which is its medium's
abbrev pub slot_uses : ImageRef → Slot → Bool
slot_uses image s = is_used_at image s.medium s.held

abbrev pub is_common_at : List Medium → ImageRef → Bool
is_common_at media (refs.Medium place) = has_mode_at is_own media place
is_common_at media (refs.Inner n) = false

-- a slot at the port holds the image
abbrev pub has_holder : (port : ℕ) → ImageRef → List Slot → Bool
has_holder port image slots = list_any (λ (s : Slot). s.port == port && slot_holds image s) slots

abbrev pub is_above_at : List Medium → (upper : List Slot) → (port : ℕ) → ImageRef → Bool
is_above_at media upper port image = has_holder port image upper || is_common_at media image

abbrev pub is_some_above_at : List Medium → List Slot → ℕ → Option ImageRef → Bool
is_some_above_at media upper port None = false
is_some_above_at media upper port (Some image) = is_above_at media upper port image

abbrev pub is_parent_above_at : ImagesAt → (upper : List Slot) → (port child : ℕ) → ImageRef → Option Merging → Bool
is_parent_above_at images upper port child parent None = is_above_at images.media upper port parent
is_parent_above_at images upper port child (refs.Medium place) (Some j) = j.child == child
is_parent_above_at images upper port child (refs.Inner n) (Some j) =
    j.child == child && is_some_above_at images.media upper port (images.parent n)

abbrev pub is_child_stacked : ImagesAt → List Slot → (port child : ℕ) → Option ImageRef → Bool
is_child_stacked images upper port child None = false
is_child_stacked images upper port child (Some parent) = is_parent_above_at images upper port child parent (merging_at parent images.merging)

abbrev pub is_held_stacked : ImagesAt → (upper : List Slot) → ℕ → Held → Bool
is_held_stacked images upper port Direct = true
is_held_stacked images upper port (Own n) = is_child_stacked images upper port n (images.parent n)
is_held_stacked images upper port Base = true

abbrev pub is_slot_stacked : ImagesAt → (upper : List Slot) → Slot → Bool
is_slot_stacked images upper s = is_held_stacked images upper s.port s.held

abbrev pub has_slot_with : (port medium : ℕ) → List Slot → Bool
has_slot_with port medium slots = list_any (λ (s : Slot). s.port == port && s.medium == medium) slots

-- the slots have a slot's medium, if it is normal
abbrev pub is_passed_on : List Medium → (lower : List Slot) → Slot → Bool
is_passed_on media lower s = not (has_mode_at is_normal media s.medium) || has_slot_with s.port s.medium lower

abbrev pub are_slots_under : ImagesAt → (upper slots : List Slot) → Bool
are_slots_under images upper slots = list_all (is_slot_stacked images upper) slots && list_all (is_passed_on images.media slots) upper

-- ---- machines

abbrev pub slots_of_some : Option Snapshot → List Slot
slots_of_some None = []
slots_of_some (Some s) = s.slots

abbrev pub upper_slots : Option ℕ → List Snapshot → List Slot
upper_slots None snapshots = []
upper_slots (Some place) snapshots = slots_of_some (slice_get snapshots place)

abbrev pub is_snapshot_stacked : ImagesAt → List Snapshot → Snapshot → Bool
is_snapshot_stacked images snapshots s = are_slots_under images (upper_slots s.parent snapshots) s.slots

abbrev pub is_machine_stacked : ImagesAt → Machine → Bool
is_machine_stacked images m =
    are_slots_under images (upper_slots m.current m.snapshots) m.slots && list_all (is_snapshot_stacked images m.snapshots) m.snapshots

-- all slots and places of snapshots
abbrev pub slots_in_snapshots : List Snapshot → List Slot
slots_in_snapshots snapshots = flat_map (λ (s : Snapshot). s.slots) snapshots

abbrev pub slots_in_machine : Machine → List Slot
slots_in_machine m = m.slots ++ slots_in_snapshots m.snapshots

abbrev pub slots_in_machines : List Machine → List Slot
slots_in_machines machines = flat_map slots_in_machine machines

-- ---- counts

-- counts go up to 255
abbrev pub capped : ℕ → ℕ
capped n = min n (2 ^ 8 - 1)

-- one more, where a test passes
abbrev pub one_more_if : Bool → ℕ → ℕ
one_more_if test n = if test then capped (n + 1) else n

abbrev pub or_zero : Option ℕ → ℕ
or_zero None = 0
or_zero (Some n) = n

-- what two tables tell of an image
abbrev pub tally_of : (media inners : ℕ → Option ℕ) → ImageRef → ℕ
tally_of media inners (refs.Medium place) = or_zero (media place)
tally_of media inners (refs.Inner n) = or_zero (inners n)

-- how many slots hold an image, and how many use it themselves
pub record SlotCounts : Type 0 where
  pub held : ImageRef → ℕ
  pub used : ImageRef → ℕ

pub record CountsSlots (counts : SlotCounts) (slots : List Slot) : Type 0 where
  pub held : (image : ImageRef) → counts.held image ≡ capped (count_by (slot_holds image) slots)
  pub used : (image : ImageRef) → counts.used image ≡ capped (count_by (slot_uses image) slots)

-- how many inner images stand on an image
abbrev pub children_at : ImageRef → List Inner → ℕ
children_at image inners = count_by (λ (x : Inner). is_same_image image x.parent) inners

-- the same by a table of media's images alone
abbrev pub CountsChildren : (children : ImageRef → ℕ) → List Inner → Type 0
CountsChildren children inners = (place : ℕ) → children (refs.Medium place) ≡ capped (children_at (refs.Medium place) inners)

-- ---- what is held once

abbrev pub is_held_once_at : (held : ImageRef → ℕ) → List Merging → ImageRef → Bool
is_held_once_at held js image = held image + mergings_at image js == 1

abbrev pub is_inner_held_once : (held : ImageRef → ℕ) → List Merging → Inner → Bool
is_inner_held_once held js x = is_held_once_at held js (refs.Inner x.number)

abbrev pub is_medium_held_once : SlotCounts → (children : ImageRef → ℕ) → List Merging → (place : ℕ) → Medium → Bool
is_medium_held_once counts children js place m =
    not (is_normal m.mode && (nat_le 1 (children (refs.Medium place)) || nat_le 1 (counts.held (refs.Medium place))))
    || (counts.used (refs.Medium place) == 0 && is_held_once_at counts.held js (refs.Medium place))

-- each item passes a test by its place, from a place on
abbrev pub all_from : {X : Type 0} → (ℕ → X → Bool) → ℕ → List X → Bool
all_from test place [] = true
all_from test place (x ∷ xs) = test place x && all_from test (place + 1) xs

-- ---- mergings

abbrev pub is_some_same : ImageRef → Option ImageRef → Bool
is_some_same image None = false
is_some_same image (Some other) = is_same_image other image

abbrev pub is_merged_at : List Medium → ImageRef → Bool
is_merged_at media (refs.Medium place) = has_mode_at is_normal media place
is_merged_at media (refs.Inner n) = true

abbrev pub is_merging_at : ImagesAt → List Inner → (held : ImageRef → ℕ) → Merging → Bool
is_merging_at images inners held j =
    is_some_same j.parent (images.parent j.child)
    && is_merged_at images.media j.parent
    && children_at j.parent inners == 1
    && held (refs.Inner j.child) == 1
    && count_by (λ (k : Merging). k.child == j.child) images.merging == 1

abbrev pub is_drawn_at : (next inner : ℕ) → ImageRef → ℕ → Bool
is_drawn_at next inner (refs.Medium place) number = nat_lt number next
is_drawn_at next inner (refs.Inner n) number = nat_lt number inner

abbrev pub is_merging_drawn : (next inner : ℕ) → Merging → Bool
is_merging_drawn next inner j = is_drawn_at next inner j.parent j.number

-- ---- a library

abbrev pub places_are_kept_at : SlotCounts → (children : ImageRef → ℕ) → Library → Bool
places_are_kept_at counts children l =
    list_all (is_inner_held_once counts.held l.merging) l.inners
    && all_from (is_medium_held_once counts children l.merging) 0 l.media
    && list_all (is_machine_stacked (images_at l)) l.machines
    && list_all (is_merging_at (images_at l) l.inners counts.held) l.merging
    && list_all (is_merging_drawn l.next l.inner) l.merging
