-- The disk of a place, and how places are looked up.
use Rattle.std.specs.Prelude.{ℕ, ◌+◌, ◌==◌, ◌&&◌, ◌||◌, not, Bool, true, if◌then◌else◌, List, [], map, find, Option, Some, None, Result, Ok, Err}
use Rattle.std.specs.Option.{option_and_then}
use Rattle.vbm_volume.specs.Sectors.{FlatDisk}
use Rattle.vbm_world.specs.declared.command.PlaceName.{PlaceName}
use Rattle.vbm_world.specs.declared.command.PlaceName.TheVariants.{Medium, Slot, Snap}
use Rattle.vbm_world.specs.declared.command.Refusal.{Refusal}
use Rattle.vbm_world.specs.declared.command.Refusal.TheVariants.{NoSuchMedium, NoSuchMachine, NoSuchSnapshot, NoSuchSlot}
use Rattle.vbm_world.specs.declared.world.WorldMedium.{WorldMedium}
use Rattle.vbm_world.specs.declared.world.WorldSlot.{WorldSlot}
use Rattle.vbm_world.specs.declared.world.WorldSnapshot.{WorldSnapshot}
use Rattle.vbm_world.specs.declared.world.WorldMachine.{WorldMachine}
use Rattle.vbm_named.specs.Names.{Name, find_by, change_by}
use Rattle.vbm_world.specs.World.{World, medium_name, machine_name, snapshot_name, medium_of, is_direct, is_slot_of, has_medium, is_normal}

abbrev pub machine_of : World → Name → Option WorldMachine
machine_of w name = find_by machine_name name w.machines

abbrev pub snapshot_of : WorldMachine → Name → Option WorldSnapshot
snapshot_of m name = find_by snapshot_name name m.snapshots

-- the current snapshot
abbrev pub current_of : WorldMachine → Option WorldSnapshot
current_of m = option_and_then (snapshot_of m) m.current

abbrev pub slot_at : ℕ → List WorldSlot → Option WorldSlot
slot_at port slots = find (λ (s : WorldSlot). s.port == port) slots

-- the slots of a snapshot, none where there is no snapshot
abbrev pub slots_of : Option WorldSnapshot → List WorldSlot
slots_of None = []
slots_of (Some s) = s.slots

abbrev pub slots_named : Option Name → List WorldSnapshot → List WorldSlot
slots_named None snapshots = []
slots_named (Some name) snapshots = slots_of (find_by snapshot_name name snapshots)

-- a slot's own disk, or else its medium's
abbrev pub own_or_medium : World → Name → Option FlatDisk → Option FlatDisk
own_or_medium w medium (Some own) = Some own
own_or_medium w medium None = option_and_then (λ (m : WorldMedium). m.flat) (medium_of w medium)

abbrev pub slot_disk : World → WorldSlot → Option FlatDisk
slot_disk w s = own_or_medium w s.medium s.own

abbrev pub disk_at : World → ℕ → List WorldSlot → Option FlatDisk
disk_at w port slots = option_and_then (slot_disk w) (slot_at port slots)

-- the disk that a place has, none where there is no such place, or where it is a frozen medium
abbrev pub disk_of : World → PlaceName → Option FlatDisk
disk_of w (Medium name) = option_and_then (λ (m : WorldMedium). m.flat) (medium_of w name)
disk_of w (Slot vm port) = option_and_then (λ (m : WorldMachine). disk_at w port m.slots) (machine_of w vm)
disk_of w (Snap vm snapshot port) =
    option_and_then (λ (m : WorldMachine). option_and_then (λ (s : WorldSnapshot). disk_at w port s.slots) (snapshot_of m snapshot)) (machine_of w vm)

-- ---- looking places up

-- A place that was found: its medium, its disk, and whether its image is the medium's own file.
pub record Place : Type 0 where
  pub medium : WorldMedium
  pub disk : Option FlatDisk
  pub is_base : Bool

-- A snapshot's place stands on the medium's own file where it shares the medium's disk, and where the medium is normal and the parent
-- snapshot does not have it: there the medium came into the snapshots.
abbrev pub is_base_of : World → (parent : List WorldSlot) → WorldSlot → Bool
is_base_of w parent s = is_direct s || (is_slot_of is_normal w s && not (has_medium s.medium parent))

-- what was looked up, or why there is none
abbrev pub sought : {X Y : Type 0} → Refusal → Option X → (X → Result Y Refusal) → Result Y Refusal
sought refusal None next = Err refusal
sought refusal (Some x) next = next x

abbrev pub found_slot : World → Bool → WorldSlot → Result Place Refusal
found_slot w is_base s = sought NoSuchMedium (medium_of w s.medium) (λ m. Ok (record { medium = m; disk = slot_disk w s; is_base = is_base }))

abbrev pub found_in_snapshot : World → WorldMachine → ℕ → WorldSnapshot → Result Place Refusal
found_in_snapshot w m port taken =
    sought NoSuchSlot (slot_at port taken.slots) (λ s. found_slot w (is_base_of w (slots_named taken.parent m.snapshots) s) s)

-- The place of a name. Its parts are looked up from left to right.
abbrev pub find_place : World → PlaceName → Result Place Refusal
find_place w (Medium name) =
    sought NoSuchMedium (medium_of w name) (λ (m : WorldMedium). Ok (record { medium = m; disk = m.flat; is_base = true }))
find_place w (Slot vm port) =
    sought NoSuchMachine (machine_of w vm) (λ m. sought NoSuchSlot (slot_at port m.slots) (λ s. found_slot w (is_direct s) s))
find_place w (Snap vm snapshot port) =
    sought NoSuchMachine (machine_of w vm) (λ m. sought NoSuchSnapshot (snapshot_of m snapshot) (found_in_snapshot w m port))

-- ---- worlds with one thing changed

abbrev pub with_medium : World → Name → (WorldMedium → WorldMedium) → World
with_medium w name change = record w { media = change_by medium_name name change w.media }

-- The world with a machine in the place of the one of its name, for which so many numbers of inner images were drawn.
abbrev pub with_machine : World → WorldMachine → (drawn : ℕ) → World
with_machine w m drawn = record w { inner = w.inner + drawn; machines = change_by machine_name m.name (λ _. m) w.machines }

-- slots with one changed
abbrev pub with_slot : ℕ → (WorldSlot → WorldSlot) → List WorldSlot → List WorldSlot
with_slot port change slots = map (λ (s : WorldSlot). if s.port == port then change s else s) slots
