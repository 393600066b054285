-- Edits of a library's lists. Where a medium enters or leaves, every place behind it is renumbered, wherever one is named.
use Rattle.std.specs.Prelude.{ℕ, ◌<◌, ◌-◌, ◌^◌, ◌==◌, ◌||◌, not, Bool, List, [], ◌∷◌, ◌++◌, map, filter}
use Rattle.std.specs.List.{AllByRecursion, list_any, position_or_len}
use Rattle.vbm_machines.specs.declared.Slot.{Slot}
use Rattle.vbm_machines.specs.declared.Snapshot.{Snapshot}
use Rattle.vbm_machines.specs.declared.Machine.{Machine}
use Rattle.vbm_modes.specs.declared.Mode.{Mode}
use Rattle.vbm_machines.specs.Renumbering.{name_of_machine, EachSlot, IsLow}
use Rattle.vbm_machines.specs.Snapshots.{name_of_snapshot}
use Rattle.vbm_named.specs.Names.{Name, Rises, is_named, put_by, without, change_by}
use Rattle.vbm_named.specs.Places.{shifted, closed_up, place_for}
use Rattle.vbm_registry.specs.declared.media.Medium.{Medium}
use Rattle.vbm_registry.specs.declared.library.Inner.{Inner}
use Rattle.vbm_registry.specs.declared.library.ImageRef.{ImageRef}
use Rattle.vbm_registry.specs.declared.library.ImageRef.TheVariants as refs
use Rattle.vbm_registry.specs.declared.library.Merging.{Merging}
use Rattle.vbm_registry.specs.declared.library.Library.{Library}
use Rattle.vbm_registry.specs.Library.{medium_entry_name}
use Rattle.vbm_registry.specs.Grammar.{machine_entry_name}

-- ---- the places of media after a change of their list, by what becomes of each

abbrev pub ref_moved : (to : ℕ → ℕ) → ImageRef → ImageRef
ref_moved to (refs.Medium place) = refs.Medium (to place)
ref_moved to (refs.Inner n) = refs.Inner n

abbrev pub inner_moved : (to : ℕ → ℕ) → Inner → Inner
inner_moved to x = record x { parent = ref_moved to x.parent }

abbrev pub slot_moved : (to : ℕ → ℕ) → Slot → Slot
slot_moved to s = record s { medium = to s.medium }

abbrev pub snapshot_moved : (to : ℕ → ℕ) → Snapshot → Snapshot
snapshot_moved to s = record s { slots = map (slot_moved to) s.slots }

abbrev pub machine_moved : (to : ℕ → ℕ) → Machine → Machine
machine_moved to m = record m { slots = map (slot_moved to) m.slots; snapshots = map (snapshot_moved to) m.snapshots }

abbrev pub merging_moved : (to : ℕ → ℕ) → Merging → Merging
merging_moved to j = record j { parent = ref_moved to j.parent }

abbrev pub library_moved : (to : ℕ → ℕ) → Library → Library
library_moved to l = record l {
  inners = map (inner_moved to) l.inners;
  machines = map (machine_moved to) l.machines;
  merging = map (merging_moved to) l.merging;
}

-- a place of a medium can be raised by one
abbrev pub IsLowRef : ImageRef → Type 0
IsLowRef (refs.Medium place) = place < 2 ^ 32 - 1
IsLowRef (refs.Inner n) = Unit {0}

-- The places of media can be raised by one, and machines and their snapshots are in the order of their names.
pub record HasLowPlaces (l : Library) : Type 0 where
  pub machines : Rises name_of_machine l.machines
  pub snapshots : AllByRecursion (λ (m : Machine). Rises name_of_snapshot m.snapshots) l.machines
  pub slots : AllByRecursion (EachSlot IsLow) l.machines
  pub inners : AllByRecursion (λ (x : Inner). IsLowRef x.parent) l.inners
  pub mergings : AllByRecursion (λ (j : Merging). IsLowRef j.parent) l.merging

-- ---- media

-- with one more medium, in its place
abbrev pub with_medium_entry : Library → Medium → Library
with_medium_entry l m =
    record (library_moved (shifted (place_for medium_entry_name m.name l.media)) l) { media = put_by medium_entry_name m l.media }

-- the place of the medium of a name
abbrev pub medium_place : Library → Name → ℕ
medium_place l name = position_or_len (is_named medium_entry_name name) l.media

-- without the medium of a name, which nothing names
abbrev pub without_medium_entry : Library → Name → Library
without_medium_entry l name =
    record (library_moved (closed_up (medium_place l name)) l) { media = without medium_entry_name name l.media }

-- with another mode of the medium of a name
abbrev pub with_mode_entry : Library → Name → Mode → Library
with_mode_entry l name mode = record l { media = change_by medium_entry_name name (λ (m : Medium). record m { mode = mode }) l.media }

-- ---- inner images and machines, which nothing names by a place

abbrev pub with_inner_entry : Library → Inner → Library
with_inner_entry l x = record l { inners = l.inners ++ x ∷ [] }

abbrev pub without_inner_entry : Library → ℕ → Library
without_inner_entry l n = record l { inners = filter (λ (x : Inner). not (x.number == n)) l.inners }

abbrev pub with_machine_entry : Library → Machine → Library
with_machine_entry l m = record l { machines = put_by machine_entry_name m l.machines }

-- with a machine in the place of the one of its name
abbrev pub with_machine_renewed : Library → Machine → Library
with_machine_renewed l m = record l { machines = change_by machine_entry_name m.name (λ _. m) l.machines }

abbrev pub without_machine_entry : Library → Name → Library
without_machine_entry l name = record l { machines = without machine_entry_name name l.machines }

-- ---- look-ups

-- slots that have the medium at a place
abbrev pub has_medium_at : ℕ → List Slot → Bool
has_medium_at place slots = list_any (λ (s : Slot). s.medium == place) slots

-- a slot of a machine, or a snapshot, has the medium at a place
abbrev pub uses_medium : ℕ → Machine → Bool
uses_medium place m = has_medium_at place m.slots || list_any (λ (s : Snapshot). has_medium_at place s.slots) m.snapshots
