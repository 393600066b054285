-- What guests do: sectors of a running machine's slots are read and written.
use Rattle.std.specs.Prelude.{ℕ, ◌+◌, ◌*◌, ◌/◌, not, nat_lt, Bool, true, false, ◌&&◌, if◌then◌else◌, List, [], ◌∷◌, ◌++◌, length, take, drop, replicate, Option, Some, None}
use Rattle.std.specs.List.{concat}
use Rattle.std.specs.Option.{unwrap_or}
use Rattle.vbm_ids.specs.declared.Kind.TheVariants.{Modify}
use Rattle.vbm_ids.specs.Identifier.{identifier_of}
use Rattle.vbm_modes.specs.declared.Mode.{Mode}
use Rattle.vbm_modes.specs.Modes.{is_writable}
use Rattle.vbm_volume.specs.Sectors.{FlatDisk, first_sectors}
use Rattle.vbm_world.specs.declared.command.Answer.TheVariants.{Done, Sectors}
use Rattle.vbm_world.specs.declared.command.Refusal.TheVariants.{NoSuchMedium, NoSuchMachine, NoSuchSlot, NotRunning, OutOfRange, WriteProtected, IdsSpent}
use Rattle.vbm_world.specs.declared.world.WorldMedium.{WorldMedium}
use Rattle.vbm_world.specs.declared.world.WorldSlot.{WorldSlot}
use Rattle.vbm_world.specs.declared.world.WorldMachine.{WorldMachine}
use Rattle.vbm_named.specs.Names.{Name}
use Rattle.vbm_world.specs.World.{World, medium_of, is_direct}
use Rattle.vbm_world.specs.Places.{machine_of, slot_at, slot_disk, with_medium, with_machine, with_slot}
use Rattle.vbm_world.specs.Refusals.{Check, is_spent}
use Rattle.vbm_world.specs.Outcomes.{Outcome, unless_refused, found_or}

-- the disk of a slot; in a sound world each slot has one
abbrev pub disk_in : World → WorldSlot → FlatDisk
disk_in w s = unwrap_or (slot_disk w s) []

-- sectors of a disk reach past its end
abbrev pub is_past : FlatDisk → (lba count : ℕ) → Bool
is_past disk lba count = nat_lt (length disk) (lba + count)

-- ---- read

abbrev pub read_checks : World → WorldMachine → WorldSlot → (lba count : ℕ) → List Check
read_checks w m s lba count = (not m.running, NotRunning) ∷ (is_past (disk_in w s) lba count, OutOfRange) ∷ []

-- the bytes of sectors of a disk
abbrev pub bytes_at : FlatDisk → (lba count : ℕ) → List ℕ
bytes_at disk lba count = concat (take count (drop lba disk))

abbrev pub read_sectors : World → (vm : Name) → ℕ → (lba count : ℕ) → Outcome
read_sectors w vm port lba count =
    found_or w NoSuchMachine (machine_of w vm) (λ m.
    found_or w NoSuchSlot (slot_at port m.slots) (λ s.
    unless_refused w (read_checks w m s lba count) (Sectors (bytes_at (disk_in w s) lba count), w)))

-- ---- write, fill

-- a disk with sectors from one on replaced
abbrev pub with_sectors : FlatDisk → (lba : ℕ) → List (List ℕ) → FlatDisk
with_sectors disk lba sectors = take lba disk ++ sectors ++ drop (lba + length sectors) disk

-- bytes as sectors
abbrev pub sectors_in : List ℕ → List (List ℕ)
sectors_in bytes = first_sectors (λ i. take 512 (drop (i * 512) bytes)) (length bytes / 512)

-- sectors filled with a byte
abbrev pub filled : (count byte : ℕ) → List (List ℕ)
filled count byte = replicate count (replicate 512 byte)

-- The write is the first to the medium's disk since a start, and draws a new modification identifier.
abbrev pub is_first_write : WorldMedium → WorldSlot → Bool
is_first_write medium s = is_direct s && not medium.changed

-- a medium whose disk is written for the first time since a start, or again
abbrev pub marked : World → WorldMedium → WorldMedium
marked w m = record m { changed = true; modify = if m.changed then m.modify else identifier_of w.seed Modify w.next }

-- what is written to the disk that a medium has
abbrev pub written_medium : World → FlatDisk → WorldMedium → WorldMedium
written_medium w disk m = record (marked w m) { flat = Some disk }

-- the world after the disk of a slot was replaced
abbrev pub written : World → WorldMachine → WorldSlot → WorldMedium → FlatDisk → World
written w m s medium disk =
    if is_direct s
    then record (with_medium w medium.name (written_medium w disk)) { next = if medium.changed then w.next else w.next + 1 }
    else with_machine w (record m { slots = with_slot s.port (λ (t : WorldSlot). record t { own = Some disk }) m.slots }) 0

abbrev pub write_checks : World → WorldMachine → WorldSlot → WorldMedium → (lba count : ℕ) → List Check
write_checks w m s medium lba count =
    (not m.running, NotRunning)
    ∷ (is_past (disk_in w s) lba count, OutOfRange)
    ∷ (not (is_writable medium.mode), WriteProtected)
    ∷ (is_first_write medium s && is_spent w, IdsSpent)
    ∷ []

abbrev pub write_sectors : World → (vm : Name) → ℕ → (lba : ℕ) → List (List ℕ) → Outcome
write_sectors w vm port lba sectors =
    found_or w NoSuchMachine (machine_of w vm) (λ m.
    found_or w NoSuchSlot (slot_at port m.slots) (λ s.
    found_or w NoSuchMedium (medium_of w s.medium) (λ medium.
    unless_refused w (write_checks w m s medium lba (length sectors)) (
      Done,
      written w m s medium (with_sectors (disk_in w s) lba sectors),
    ))))

-- ---- flush

-- What the machine wrote is settled; the disks stay as they are.
abbrev pub flush : World → (vm : Name) → Outcome
flush w vm =
    found_or w NoSuchMachine (machine_of w vm) (λ m. unless_refused w ((not m.running, NotRunning) ∷ []) (Done, w))
