-- The machine that a store equals: flat disks and whole snapshot copies. It has no maps, positions or chains.
use Rattle.std.specs.Prelude.{ℕ, ◌&&◌, ◌||◌, ◌/◌, not, Bool, true, false, if◌then◌else◌, List, map, replicate, Option, Some, None, is_none}
use Rattle.std.specs.List.{list_any}
use Rattle.std.specs.Str.{bytes_eq}
use Rattle.vbm_modes.specs.declared.Mode.{Mode}
use Rattle.vbm_modes.specs.declared.Mode.TheVariants.{Normal, Immutable, Writethrough, MultiAttach, Readonly}
use Rattle.vbm_volume.specs.Sectors.{FlatDisk}
use Rattle.vbm_world.specs.declared.world.WorldMedium.{WorldMedium}
use Rattle.vbm_world.specs.declared.world.WorldSlot.{WorldSlot}
use Rattle.vbm_world.specs.declared.world.WorldSnapshot.{WorldSnapshot}
use Rattle.vbm_world.specs.declared.world.WorldMachine.{WorldMachine}
use Rattle.vbm_world.specs.declared.world.Shelved.{Shelved}
use Rattle.vbm_named.specs.Names.{Name, find_by}

pub record World : Type 0 where
  -- the seed of the identifiers, 16 bytes
  pub seed : List ℕ
  -- how many identifiers of media were drawn, and of inner images
  pub next : ℕ
  pub inner : ℕ
  -- media and machines, in the order of their names
  pub media : List WorldMedium
  pub machines : List WorldMachine
  -- every file with a medium's name that is no medium
  pub shelf : Name → Option Shelved

abbrev pub medium_name : WorldMedium → Name
medium_name m = m.name

abbrev pub medium_id : WorldMedium → List ℕ
medium_id m = m.id

abbrev pub machine_name : WorldMachine → Name
machine_name m = m.name

abbrev pub snapshot_name : WorldSnapshot → Name
snapshot_name s = s.name

abbrev pub medium_of : World → Name → Option WorldMedium
medium_of w name = find_by medium_name name w.media

-- a slot without its own disk shares its medium's
abbrev pub is_direct : WorldSlot → Bool
is_direct s = is_none s.own

abbrev pub has_own : WorldSlot → Bool
has_own s = not (is_direct s)

-- a slot that shares the disk of the medium of this name
abbrev pub is_direct_of : Name → WorldSlot → Bool
is_direct_of name s = is_direct s && bytes_eq s.medium name

-- slots that have a medium
abbrev pub has_medium : Name → List WorldSlot → Bool
has_medium name slots = list_any (λ (s : WorldSlot). bytes_eq s.medium name) slots

-- some snapshot of a machine has the medium
abbrev pub is_in_snapshot : Name → WorldMachine → Bool
is_in_snapshot name m = list_any (λ (s : WorldSnapshot). has_medium name s.slots) m.snapshots

-- A medium is in use where a slot or a snapshot has it.
abbrev pub is_in_use : List WorldMachine → Name → Bool
is_in_use machines name = list_any (λ (m : WorldMachine). has_medium name m.slots || is_in_snapshot name m) machines

abbrev pub is_normal : Mode → Bool
is_normal Normal = true
is_normal Immutable = false
is_normal Writethrough = false
is_normal MultiAttach = false
is_normal Readonly = false

abbrev pub is_immutable : Mode → Bool
is_immutable Normal = false
is_immutable Immutable = true
is_immutable Writethrough = false
is_immutable MultiAttach = false
is_immutable Readonly = false

-- Snapshots have copies of the disks of media of these modes. Of the others they note that they are there.
abbrev pub is_layered : Mode → Bool
is_layered Normal = true
is_layered Immutable = true
is_layered Writethrough = false
is_layered MultiAttach = true
is_layered Readonly = false

abbrev pub is_of_mode : (Mode → Bool) → Option WorldMedium → Bool
is_of_mode test None = false
is_of_mode test (Some m) = test m.mode

-- a slot whose medium has a mode that passes a test
abbrev pub is_slot_of : (Mode → Bool) → World → WorldSlot → Bool
is_slot_of test w s = is_of_mode test (medium_of w s.medium)

-- A normal medium is frozen where some snapshot has it: its disk is read through slots and snapshots alone (User Manual,
-- Snapshots: the images of a snapshot are write-protected).
abbrev pub is_frozen : List WorldMachine → WorldMedium → Bool
is_frozen machines m = is_normal m.mode && list_any (is_in_snapshot m.name) machines

-- a running machine has a slot of the medium
abbrev pub is_in_run : World → Name → Bool
is_in_run w name = list_any (λ (m : WorldMachine). m.running && has_medium name m.slots) w.machines

-- the disk of zeros of this capacity in bytes
unfoldable pub zero_disk : ℕ → FlatDisk
zero_disk capacity = replicate (capacity / 512) (replicate 512 0)

abbrev pub with_shelved : (Name → Option Shelved) → Name → Option Shelved → Name → Option Shelved
with_shelved shelf name to = λ other. if bytes_eq other name then to else shelf other

abbrev pub medium_off : WorldMedium → WorldMedium
medium_off m = record m { changed = false }

abbrev pub machine_off : WorldMachine → WorldMachine
machine_off m = record m { running = false }

-- The powered-off world: every machine off, and no medium changed since a start.
abbrev pub off : World → World
off w = record w { media = map medium_off w.media; machines = map machine_off w.machines }
