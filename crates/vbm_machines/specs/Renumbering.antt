-- Places in a list that got one more item, or has one less.
use Rattle.std.specs.Prelude.{◌≡◌, ◌<◌, ◌==◌, ◌^◌, ◌-◌, ℕ, Bool, false, if◌then◌else◌, List, map, slice_get, Option, Some, None, IsFalse}
use Rattle.std.specs.List.{AllByRecursion}
use Rattle.vbm_named.specs.Names.{Name, put_by, without, Rises}
use Rattle.vbm_named.specs.Places.{shifted, closed_up, place_for}
use Rattle.vbm_world.specs.declared.world.WorldSlot.{WorldSlot}
use Rattle.vbm_machines.specs.declared.Held.{Held}
use Rattle.vbm_machines.specs.declared.Slot.{Slot}
use Rattle.vbm_machines.specs.declared.Snapshot.{Snapshot}
use Rattle.vbm_machines.specs.declared.Machine.{Machine}
use Rattle.vbm_machines.specs.declared.renumbering.Renumbering.{Renumbering}
use Rattle.vbm_machines.specs.declared.renumbering.Renumbering.TheVariants.{Entered, Left}

-- the new place of an item that stays
abbrev pub place_after : Renumbering → ℕ → ℕ
place_after (Entered at) place = shifted at place
place_after (Left at) place = closed_up at place

-- the place of the item that left
abbrev pub has_left : Renumbering → ℕ → Bool
has_left (Entered at) place = false
has_left (Left at) place = place == at

-- an optional place; the item that left has an heir
abbrev pub place_or_heir : Renumbering → (heir place : Option ℕ) → Option ℕ
place_or_heir renumbering heir None = None
place_or_heir renumbering heir (Some place) = if has_left renumbering place then heir else Some (place_after renumbering place)

abbrev pub itself : Name → Name
itself name = name

-- what a list of names became
abbrev pub Becomes : Renumbering → (old new : List Name) → Type 0
Becomes (Entered at) old new = (name : Name) × (at ≡ place_for itself name old) × (new ≡ put_by itself name old)
Becomes (Left at) old new = (name : Name) × (slice_get old at ≡ Some name) × Rises itself old × (new ≡ without itself name old)

-- ---- slots, by a list of media

-- a slot seen with the name of its medium in the place's stead
abbrev pub SlotSight : Type 0
SlotSight = (medium : Option Name) → (port : ℕ) → (autoreset : Bool) → Held → WorldSlot

abbrev pub slot_by : SlotSight → (media : List Name) → Slot → WorldSlot
slot_by sight media s = sight (slice_get media s.medium) s.port s.autoreset s.held

-- the slot's medium is not the one that left
abbrev pub HasStayed : Renumbering → Slot → Type 0
HasStayed renumbering s = IsFalse (has_left renumbering s.medium)

abbrev pub slot_renumbered : Renumbering → Slot → Slot
slot_renumbered renumbering s = record s { medium = place_after renumbering s.medium }

abbrev pub snapshot_renumbered : Renumbering → Snapshot → Snapshot
snapshot_renumbered renumbering s = record s { slots = map (slot_renumbered renumbering) s.slots }

abbrev pub machine_renumbered : Renumbering → Machine → Machine
machine_renumbered renumbering m = record m {
  slots = map (slot_renumbered renumbering) m.slots;
  snapshots = map (snapshot_renumbered renumbering) m.snapshots;
}

abbrev pub name_of_machine : Machine → Name
name_of_machine m = m.name

-- a fact for each slot of a machine and of its snapshots
pub record EachSlot (P : Slot → Type 0) (m : Machine) : Type 0 where
  pub slots : AllByRecursion P m.slots
  pub places : AllByRecursion (λ (s : Snapshot). AllByRecursion P s.slots) m.snapshots

-- its place can be raised by one
abbrev pub IsLow : Slot → Type 0
IsLow s = s.medium < 2 ^ 32 - 1
