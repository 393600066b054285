-- Copies of disks (VBoxManage clonemedium, clonemedium --existing), and chains of files made one medium.
use Rattle.std.specs.Prelude.{ℕ, ◌+◌, ◌-◌, ◌*◌, ◌&&◌, ◌||◌, not, nat_le, nat_lt, Bool, true, false, if◌then◌else◌, List, [], ◌∷◌, ◌++◌, length, map, drop, replicate, Option, Some, None, is_some, is_none}
use Rattle.std.specs.List.{list_any}
use Rattle.std.specs.Option.{unwrap_or}
use Rattle.std.specs.Str.{bytes_eq}
use Rattle.vbm_ids.specs.declared.Kind.TheVariants.{Medium, Modify}
use Rattle.vbm_ids.specs.Identifier.{identifier_of}
use Rattle.vbm_modes.specs.Modes.{is_writable}
use Rattle.vbm_volume.specs.declared.flat.Variant.{Variant}
use Rattle.vbm_volume.specs.declared.flat.Variant.TheVariants.{Standard, Fixed}
use Rattle.vbm_volume.specs.Sectors.{FlatDisk}
use Rattle.vbm_world.specs.declared.command.PlaceName.{PlaceName}
use Rattle.vbm_world.specs.declared.command.Answer.TheVariants.{Id}
use Rattle.vbm_world.specs.declared.command.Refusal.TheVariants.{NoSuchMedium, NameTaken, FileExists, NoSuchFile, NotAnImage, InUse, Frozen, WriteProtected, WrongKind, Full, IdsSpent, BrokenChain, TooSmall}
use Rattle.vbm_world.specs.declared.command.Which.TheVariants.{Media}
use Rattle.vbm_world.specs.declared.world.WorldMedium.{WorldMedium}
use Rattle.vbm_world.specs.declared.world.LinkFile.{LinkFile}
use Rattle.vbm_world.specs.declared.world.Shelved.{Shelved}
use Rattle.vbm_world.specs.declared.world.Shelved.TheVariants.{Volume, Link, Bad}
use Rattle.vbm_named.specs.Names.{Name, put_by}
use Rattle.vbm_world.specs.World.{World, medium_name, medium_of, is_in_use}
use Rattle.vbm_world.specs.Places.{Place, find_place, with_medium}
use Rattle.vbm_world.specs.Refusals.{Check, is_medium, is_full, is_spent}
use Rattle.vbm_world.specs.Outcomes.{Outcome, unless_refused, found_or, sought_or}
use Rattle.vbm_world.specs.Media.{made_medium}

-- ---- clonemedium PLACE NEW

-- a new normal medium of the growing variant with this disk
abbrev pub copied_medium : World → Name → FlatDisk → WorldMedium
copied_medium w name disk = record (made_medium w name (512 * length disk) Standard) { flat = Some disk }

-- the medium enters, and draws one number for both of its identifiers
abbrev pub entered : World → Name → FlatDisk → Outcome
entered w name disk = (
  Id (identifier_of w.seed Medium w.next),
  record w { next = w.next + 1; media = put_by medium_name (copied_medium w name disk) w.media },
)

-- a place without a disk is a frozen medium
abbrev pub clone_checks : World → Place → Name → List Check
clone_checks w place name =
    (is_medium w name, NameTaken)
    ∷ (is_some (w.shelf name), FileExists)
    ∷ (is_none place.disk, Frozen)
    ∷ (is_full w, Full Media)
    ∷ (is_spent w, IdsSpent)
    ∷ []

abbrev pub clone_new : World → PlaceName → Name → Outcome
clone_new w place name =
    sought_or w (find_place w place) (λ p. unless_refused w (clone_checks w p name) (entered w name (unwrap_or p.disk [])))

-- ---- clonemedium PLACE NAME --existing

abbrev pub is_fixed : Variant → Bool
is_fixed Standard = false
is_fixed Fixed = true

-- a disk followed by so many sectors of zeros that it is as long as another
abbrev pub padded : (long : ℕ) → FlatDisk → FlatDisk
padded long disk = disk ++ replicate (long - length disk) (replicate 512 0)

abbrev pub disk_len : Option FlatDisk → ℕ
disk_len disk = length (unwrap_or disk [])

abbrev pub overwritten : World → FlatDisk → WorldMedium → WorldMedium
overwritten w disk m = record m { modify = identifier_of w.seed Modify w.next; flat = Some (padded (disk_len m.flat) disk) }

abbrev pub overwrite_checks : World → Place → WorldMedium → List Check
overwrite_checks w place target =
    (is_in_use w.machines target.name || bytes_eq place.medium.name target.name, InUse)
    ∷ (is_none place.disk, Frozen)
    ∷ (not (is_writable target.mode), WriteProtected)
    ∷ (is_fixed target.variant, WrongKind)
    ∷ (is_spent w, IdsSpent)
    ∷ (nat_lt target.capacity (512 * disk_len place.disk), TooSmall)
    ∷ []

-- The target's first sectors are those of a disk, the rest are zeros. It draws a modification identifier.
abbrev pub put_over : World → Name → FlatDisk → WorldMedium → Outcome
put_over w name disk target = (Id target.id, record (with_medium w name (overwritten w disk)) { next = w.next + 1 })

abbrev pub clone_existing : World → PlaceName → Name → Outcome
clone_existing w place name =
    sought_or w (find_place w place) (λ p.
    found_or w NoSuchMedium (medium_of w name) (λ target.
    unless_refused w (overwrite_checks w p target) (put_over w name (unwrap_or p.disk []) target)))

-- ---- importchain

-- what a file of the shelf holds; one that is not there counts as bad
abbrev pub file_of : World → Name → Shelved
file_of w name = unwrap_or (w.shelf name) (Bad 0)

abbrev pub files_of : World → List Name → List Shelved
files_of w files = map (file_of w) files

abbrev pub is_nowhere : World → Name → Bool
is_nowhere w name = not (is_medium w name) && is_none (w.shelf name)

-- a file of the shelf has to be an image
abbrev pub bad_check : Option Shelved → Check
bad_check (Some (Bad k)) = (true, NotAnImage k)
bad_check (Some (Volume v)) = (false, NotAnImage 0)
bad_check (Some (Link l)) = (false, NotAnImage 0)
bad_check None = (false, NotAnImage 0)

-- The image is linked to the one below it, of this identifier, this modification identifier and this capacity, and does not shrink it.
abbrev pub is_link_to : (id modify : List ℕ) (capacity : ℕ) → LinkFile → Bool
is_link_to id modify capacity l = bytes_eq l.link id && bytes_eq l.parent_modify modify && nat_le capacity l.capacity

-- the place of the first file that is not linked to the one before it, where the first has place i
abbrev pub broken_link : ℕ → (id modify : List ℕ) (capacity : ℕ) → List Shelved → Option ℕ
broken_link i id modify capacity [] = None
broken_link i id modify capacity (Link l ∷ above) =
    if is_link_to id modify capacity l then broken_link (i + 1) l.id l.modify l.capacity above else Some i
broken_link i id modify capacity (Volume v ∷ above) = Some i
broken_link i id modify capacity (Bad k ∷ above) = Some i

-- The place, from 0, at which files, base first, are no chain.
abbrev pub broken_file : List Shelved → Option ℕ
broken_file (Volume v ∷ above) = broken_link 1 v.id v.modify v.capacity above
broken_file (Link l ∷ above) = Some 0
broken_file (Bad k ∷ above) = Some 0
broken_file [] = Some 0

-- what is asked of files that are images
abbrev pub chain_checks : World → List Name → List Check
chain_checks w files =
    (list_any (is_medium w) files, InUse)
    ∷ (is_full w, Full Media)
    ∷ (is_spent w, IdsSpent)
    ∷ (is_some (broken_file (files_of w files)), BrokenChain (unwrap_or (broken_file (files_of w files)) 0))
    ∷ []

abbrev pub import_checks : World → List Name → Name → List Check
import_checks w files name =
    (is_medium w name, NameTaken)
    ∷ (is_some (w.shelf name), FileExists)
    ∷ (list_any (is_nowhere w) files, NoSuchFile)
    ∷ map (λ (file : Name). bad_check (w.shelf file)) files
    ++ chain_checks w files

-- the first sector of a disk, zeros past its end
abbrev pub first_sector : FlatDisk → List ℕ
first_sector [] = replicate 512 0
first_sector (sector ∷ sectors) = sector

abbrev pub sector_or : Option (List ℕ) → List ℕ → List ℕ
sector_or link below = unwrap_or link below

-- the disk of a differencing image over another disk
abbrev pub laid_over : FlatDisk → List (Option (List ℕ)) → FlatDisk
laid_over disk [] = []
laid_over disk (own ∷ rest) = sector_or own (first_sector disk) ∷ laid_over (drop 1 disk) rest

abbrev pub disk_over : FlatDisk → List Shelved → FlatDisk
disk_over disk (Link l ∷ above) = disk_over (laid_over disk l.sectors) above
disk_over disk (Volume v ∷ above) = disk_over disk above
disk_over disk (Bad k ∷ above) = disk_over disk above
disk_over disk [] = disk

-- the disk of a chain, base first
abbrev pub chain_disk : List Shelved → FlatDisk
chain_disk (Volume v ∷ above) = disk_over v.flat above
chain_disk (Link l ∷ above) = []
chain_disk (Bad k ∷ above) = []
chain_disk [] = []

-- A new medium has the disk of the chain. The files stay on the shelf.
abbrev pub import_chain : World → List Name → Name → Outcome
import_chain w files name = unless_refused w (import_checks w files name) (entered w name (chain_disk (files_of w files)))
