-- The world that a library and its files hold. A merging is read as its end, and what is being made stands for nothing.
use Rattle.std.specs.Prelude.{ℕ, ◌&&◌, ◌==◌, not, Bool, true, false, if◌then◌else◌, List, map, Option, Some, None}
use Rattle.std.specs.List.{list_any}
use Rattle.std.specs.Option.{option_map}
use Rattle.std.specs.Str.{bytes_eq}
use Rattle.vbm_ports.specs.Files.{Files, bytes_of}
use Rattle.vbm_ports.specs.Names.{is_medium_name}
use Rattle.vbm_ids.specs.declared.Kind.TheVariants.{Modify}
use Rattle.vbm_ids.specs.Identifier.{identifier_of}
use Rattle.vbm_header.specs.declared.Header.{Header}
use Rattle.vbm_volume.specs.Sectors.{FlatDisk, flat_of_base}
use Rattle.vbm_machines.specs.declared.Held.{Held}
use Rattle.vbm_machines.specs.declared.Held.TheVariants.{Direct, Own, Base}
use Rattle.vbm_named.specs.Names.{Name, has_name}
use Rattle.vbm_world.specs.declared.world.WorldMedium.{WorldMedium}
use Rattle.vbm_world.specs.declared.world.WorldSlot.{WorldSlot}
use Rattle.vbm_world.specs.declared.world.WorldSnapshot.{WorldSnapshot}
use Rattle.vbm_world.specs.declared.world.WorldMachine.{WorldMachine}
use Rattle.vbm_world.specs.declared.world.Shelved.{Shelved}
use Rattle.vbm_world.specs.World.{World, is_normal}
use Rattle.vbm_registry.specs.declared.media.Medium.{Medium}
use Rattle.vbm_registry.specs.declared.library.Library.{Library}
use Rattle.vbm_registry.specs.Library.{medium_entry_name}
use Rattle.vbm_standing.specs.Headers.{header_in, variant_of, shelved_file}
use Rattle.vbm_registry.specs.Named.{ImageName, OfMedium, OfInner, NamedSlot, NamedSnapshot, NamedMachine, NamedMerging, NamedLibrary, named}
use Rattle.vbm_registry.specs.Chains.{merging_into}
use Rattle.vbm_standing.specs.ChainDisks.{disk_by}

-- ---- mergings

abbrev pub is_of_medium : ImageName → Bool
is_of_medium (OfMedium name) = true
is_of_medium (OfInner n) = false

-- an inner image that is merged into a medium's own
abbrev pub is_ending : List NamedMerging → ℕ → Bool
is_ending js n = list_any (λ (j : NamedMerging). is_of_medium j.parent && j.child == n) js

-- A machine's slot with such an image will share the medium's disk. Every other place has its disk through its chain, as it would after
-- the merging.
abbrev pub held_at_end : List NamedMerging → Held → Held
held_at_end js Direct = Direct
held_at_end js (Own n) = if is_ending js n then Direct else Own n
held_at_end js Base = Base

-- ---- machines

-- the own disk of a slot: that of its inner image, or, in a snapshot, of its medium's as it was
abbrev pub own_by : NamedLibrary → Files → Name → Held → Option FlatDisk
own_by l files medium Direct = None
own_by l files medium (Own n) = Some (disk_by l files (OfInner n))
own_by l files medium Base = Some (disk_by l files (OfMedium medium))

-- a place of a snapshot
abbrev pub place_in : NamedLibrary → Files → NamedSlot → WorldSlot
place_in l files s = record { port = s.port; medium = s.medium; autoreset = s.autoreset; own = own_by l files s.medium s.held }

-- a slot of a machine
abbrev pub slot_in : NamedLibrary → Files → NamedSlot → WorldSlot
slot_in l files s = place_in l files (record s { held = held_at_end l.merging s.held })

abbrev pub snapshot_in : NamedLibrary → Files → NamedSnapshot → WorldSnapshot
snapshot_in l files s = record { name = s.name; parent = s.parent; slots = map (place_in l files) s.slots }

abbrev pub machine_in : (running : Name → Bool) → NamedLibrary → Files → NamedMachine → WorldMachine
machine_in running l files m = record {
  name = m.name;
  running = running m.name;
  slots = map (slot_in l files) m.slots;
  snapshots = map (snapshot_in l files) m.snapshots;
  current = m.current;
}

-- ---- media

abbrev pub has_slot_of : Name → List NamedSlot → Bool
has_slot_of name slots = list_any (λ (s : NamedSlot). bytes_eq s.medium name) slots

-- some snapshot of a machine has the medium
abbrev pub has_snapshot_of : Name → NamedMachine → Bool
has_snapshot_of name m = list_any (λ (s : NamedSnapshot). has_slot_of name s.slots) m.snapshots

-- a normal medium that some snapshot has
abbrev pub is_frozen_in : List NamedMachine → Medium → Bool
is_frozen_in machines m = is_normal m.mode && list_any (has_snapshot_of m.name) machines

-- At its end a merging draws a new modification identifier for the medium, of the merging's number.
abbrev pub modify_at_end : (seed : List ℕ) → Header → Option NamedMerging → List ℕ
modify_at_end seed h None = h.modify
modify_at_end seed h (Some j) = identifier_of seed Modify j.number

-- the medium then has the disk of the child
abbrev pub flat_at_end : NamedLibrary → Files → Name → Option NamedMerging → FlatDisk
flat_at_end l files name None = flat_of_base (bytes_of (files name)) (header_in files name)
flat_at_end l files name (Some j) = disk_by l files (OfInner j.child)

-- the medium of an entry: what its file does not tell is its name, its mode and whether it has changed since a start
unfoldable pub medium_in : (changed : Name → Bool) → NamedLibrary → Files → Medium → WorldMedium
medium_in changed l files m = record {
  name = m.name;
  id = (header_in files m.name).id;
  modify = modify_at_end l.seed (header_in files m.name) (merging_into (OfMedium m.name) l.merging);
  changed = changed m.name;
  mode = m.mode;
  variant = variant_of (header_in files m.name).image_type;
  capacity = (header_in files m.name).capacity;
  flat = if is_frozen_in l.machines m then None else Some (flat_at_end l files m.name (merging_into (OfMedium m.name) l.merging));
}

-- ---- the shelf

abbrev pub is_made : (making : Option Name) → Name → Bool
is_made None name = false
is_made (Some making) name = bytes_eq making name

-- every file with a medium's name that is no medium and is not being made
abbrev pub shelf_in : NamedLibrary → Files → Name → Option Shelved
shelf_in l files name =
    if is_medium_name name && not (has_name medium_entry_name name l.media) && not (is_made l.making name)
    then option_map shelved_file (files name) else None

-- ---- the world

-- The world of a library by names, with these media changed since a start, and these machines running.
unfoldable pub world_of : (changed running : Name → Bool) → NamedLibrary → Files → World
world_of changed running l files = record {
  seed = l.seed;
  next = l.next;
  inner = l.inner;
  media = map (medium_in changed l files) l.media;
  machines = map (machine_in running l files) l.machines;
  shelf = shelf_in l files;
}

abbrev pub world_with : (changed running : Name → Bool) → Library → Files → World
world_with changed running l files = world_of changed running (named l) files

abbrev pub none_runs : Name → Bool
none_runs name = false

abbrev pub none_changed : Name → Bool
none_changed name = false
