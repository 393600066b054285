-- What the code's readers know of the items before.
use Rattle.std.specs.Prelude.{◌≡◌, ◌+◌, ◌<◌, ◌≤◌, ℕ, List, length, Option, nat_eq, slice_index}
use Rattle.indexmap.specs.IndexMap.{get}
use Rattle.vbm_machines.specs.declared.Snapshot.{Snapshot}
use Rattle.vbm_machines.specs.declared.Machine.{Machine}
use Rattle.vbm_named.specs.Names.{Rises}
use Rattle.vbm_world.specs.declared.limits.TheConstants.{SNAPSHOT_LIMIT, PLACE_LIMIT}
use Rattle.vbm_registry.specs.declared.library.Inner.{Inner}
use Rattle.vbm_registry.specs.declared.library.ImageRef.TheVariants as refs
use Rattle.vbm_registry.specs.declared.parents.Parents.{Parents}
use Rattle.vbm_registry.specs.declared.snapshot_entries.SnapshotReader.{SnapshotReader}
use Rattle.vbm_registry.specs.declared.machine_entries.MachineReader.{MachineReader}
use Rattle.vbm_registry.specs.Grammar.{base_of, ends_of, has_root, snapshot_entry_name, places_listed, machine_entry_name, snapshots_among, places_among}

-- a table tells the place of the medium below each inner image, by its number
abbrev pub TellsBases : (ℕ → Option ℕ) → List Inner → Type 0
TellsBases table inners = (n : ℕ) → table n ≡ base_of inners (refs.Inner n)

-- numbers say where places lead, of those below their count
abbrev pub HasEnds : (ends : ℕ → ℕ) → List ℕ → Type 0
HasEnds ends numbers = (place : ℕ) → place < length numbers → slice_index numbers place ≡ ends place

pub record AreParentsOf (parents : Parents) (before : List Snapshot) : Type 0 where
  pub ends : HasEnds (ends_of before) parents.ends.items
  pub rooted : parents.rooted ≡ has_root before

pub record HasReadSnapshots (r : SnapshotReader) (before : List Snapshot) : Type 0 where
  pub tells : TellsBases (get nat_eq r.bases.now) r.inners.now
  pub rises : Rises snapshot_entry_name before
  pub used : r.used ≡ r.places + places_listed before
  pub few : r.used ≤ PLACE_LIMIT
  pub parents : AreParentsOf r.parents before

pub record HasReadMachines (r : MachineReader) (before : List Machine) : Type 0 where
  pub tells : TellsBases (get nat_eq r.bases.now) r.inners.now
  pub rises : Rises machine_entry_name before
  pub snapshots : r.snapshots ≡ snapshots_among before
  pub places : r.places ≡ places_among before
  pub few_snapshots : r.snapshots ≤ SNAPSHOT_LIMIT
  pub few_places : r.places ≤ PLACE_LIMIT
