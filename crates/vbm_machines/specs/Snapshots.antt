-- Edits of a machine's snapshots: told by the snapshots' places, as a library lists them, and by their names, as the machine has them.
use Rattle.std.specs.Prelude.{ℕ, ◌+◌, ◌<◌, ◌≤◌, ◌==◌, Bool, false, if◌then◌else◌, List, map, length, count_by, Option, Some, None, IfSome}
use Rattle.std.specs.List.{AllByRecursion}
use Rattle.vbm_named.specs.Names.{Name, put_by, without, Rises}
use Rattle.vbm_named.specs.Places.{place_for, name_there}
use Rattle.vbm_world.specs.declared.limits.TheConstants.{SNAPSHOT_LIMIT}
use Rattle.vbm_world.specs.declared.world.WorldSlot.{WorldSlot}
use Rattle.vbm_world.specs.declared.world.WorldSnapshot.{WorldSnapshot}
use Rattle.vbm_world.specs.declared.world.WorldMachine.{WorldMachine}
use Rattle.vbm_world.specs.Snapshots.{new_snapshot, with_snapshot, snapshots_after, parent_after}
use Rattle.vbm_world.specs.Tree.{Branch, IsTree}
use Rattle.vbm_machines.specs.declared.Slot.{Slot}
use Rattle.vbm_machines.specs.declared.Snapshot.{Snapshot}
use Rattle.vbm_machines.specs.declared.Machine.{Machine}
use Rattle.vbm_machines.specs.declared.renumbering.Renumbering.{Renumbering}
use Rattle.vbm_machines.specs.declared.renumbering.Renumbering.TheVariants.{Entered, Left}
use Rattle.vbm_machines.specs.Renumbering.{place_or_heir}

abbrev pub name_of_snapshot : Snapshot → Name
name_of_snapshot s = s.name

-- ---- a machine with names in the places' stead, and with its slots as a function sees them

abbrev pub snapshot_in : (seen : Slot → WorldSlot) → List Snapshot → Snapshot → WorldSnapshot
snapshot_in seen snapshots s = record { name = s.name; parent = name_there name_of_snapshot snapshots s.parent; slots = map seen s.slots }

abbrev pub machine_in : (seen : Slot → WorldSlot) → Machine → WorldMachine
machine_in seen m = record {
  name = m.name;
  running = m.running;
  slots = map seen m.slots;
  snapshots = map (snapshot_in seen m.snapshots) m.snapshots;
  current = name_there name_of_snapshot m.snapshots m.current;
}

abbrev pub branches_in : List Snapshot → List Branch
branches_in snapshots = map (λ (s : Snapshot). (s.name, name_there name_of_snapshot snapshots s.parent)) snapshots

-- the snapshots are one tree
abbrev pub HasTree : Machine → Type 0
HasTree m = IsTree (branches_in m.snapshots) (name_there name_of_snapshot m.snapshots m.current)

-- The names of the snapshots rise, and the parents and the current one are places in their list.
pub record HasPlaces (m : Machine) : Type 0 where
  pub names : Rises name_of_snapshot m.snapshots
  pub parents : AllByRecursion (λ (s : Snapshot). IfSome s.parent (λ place. place < length m.snapshots)) m.snapshots
  pub current : IfSome m.current (λ place. place < length m.snapshots)
  pub few : length m.snapshots ≤ SNAPSHOT_LIMIT

-- ---- what depends on a snapshot

abbrev pub is_at : Option ℕ → ℕ → Bool
is_at None place = false
is_at (Some other) place = other == place

-- its children, and the machine where it is current
abbrev pub dependents_at : ℕ → Machine → ℕ
dependents_at snapshot m =
    count_by (λ (s : Snapshot). is_at s.parent snapshot) m.snapshots + (if is_at m.current snapshot then 1 else 0)

-- ---- edits by place

abbrev pub parents_renumbered : Renumbering → (heir : Option ℕ) → List Snapshot → List Snapshot
parents_renumbered renumbering heir snapshots =
    map (λ (s : Snapshot). record s { parent = place_or_heir renumbering heir s.parent }) snapshots

-- with a snapshot more, below the current one and current itself
abbrev pub machine_taken : Name → (places slots : List Slot) → Machine → Machine
machine_taken name places slots m =
    let at = place_for name_of_snapshot name m.snapshots in
    record m {
      slots = slots;
      snapshots = put_by name_of_snapshot (record { name = name; parent = place_or_heir (Entered at) None m.current; slots = places })
          (parents_renumbered (Entered at) None m.snapshots);
      current = Some at;
    }

-- with the slots of the snapshot at a place, which is current
abbrev pub machine_restored : ℕ → (slots : List Slot) → Machine → Machine
machine_restored at slots m = record m { slots = slots; current = Some at }

-- without the snapshot at a place, with its parent in its stead
abbrev pub machine_without : ℕ → Snapshot → Machine → Machine
machine_without at gone m =
    let heir = place_or_heir (Left at) None gone.parent in
    record m {
      snapshots = without name_of_snapshot gone.name (parents_renumbered (Left at) heir m.snapshots);
      current = place_or_heir (Left at) heir m.current;
    }

-- ---- the same by name: the machine's own edits, with the slots that they give

abbrev pub taken_as : Name → (places slots : List WorldSlot) → WorldMachine → WorldMachine
taken_as name places slots m = record (with_snapshot m (new_snapshot m name places)) { slots = slots }

abbrev pub restored_as : Name → (slots : List WorldSlot) → WorldMachine → WorldMachine
restored_as name slots m = record m { slots = slots; current = Some name }

abbrev pub removed_as : WorldSnapshot → WorldMachine → WorldMachine
removed_as gone m = record m { snapshots = snapshots_after m gone; current = parent_after gone m.current }
