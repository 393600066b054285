-- Commands on media (VBoxManage createmedium, openmedium, closemedium, modifymedium --type, showmediuminfo, list hdds).
use Rattle.std.specs.Prelude.{ℕ, ◌+◌, Bool, true, false, if◌then◌else◌, List, [], ◌∷◌, ◌++◌, map, Option, Some, None, is_some}
use Rattle.vbm_ids.specs.declared.Kind.TheVariants.{Medium, Modify}
use Rattle.vbm_ids.specs.Identifier.{identifier_of, is_foreign, has_id}
use Rattle.vbm_modes.specs.declared.Mode.{Mode}
use Rattle.vbm_modes.specs.declared.Mode.TheVariants.{Normal}
use Rattle.vbm_volume.specs.declared.flat.Variant.{Variant}
use Rattle.vbm_volume.specs.declared.flat.Volume.{Volume as VolumeFile}
use Rattle.vbm_volume.specs.Sectors.{FlatDisk}
use Rattle.vbm_world.specs.declared.command.Answer.TheVariants.{Done, Id, Info, MediaList}
use Rattle.vbm_world.specs.declared.command.Refusal.TheVariants.{NoSuchMedium, NameTaken, FileExists, NoSuchFile, NotAnImage, DuplicateId, ForeignId, BadSize, Full, IdsSpent, BrokenChain, InUse}
use Rattle.vbm_world.specs.declared.command.Which.TheVariants.{Media}
use Rattle.vbm_world.specs.declared.world.WorldMedium.{WorldMedium}
use Rattle.vbm_world.specs.declared.world.Shelved.{Shelved}
use Rattle.vbm_world.specs.declared.world.Shelved.TheVariants.{Volume, Link, Bad}
use Rattle.vbm_named.specs.Names.{Name, put_by, without}
use Rattle.vbm_world.specs.World.{World, medium_name, medium_id, medium_of, is_in_use, is_frozen, zero_disk, with_shelved}
use Rattle.vbm_world.specs.Places.{with_medium}
use Rattle.vbm_world.specs.Refusals.{Check, is_bad_size, is_medium, is_full, is_spent}
use Rattle.vbm_world.specs.Outcomes.{Outcome, unless_refused, found_or}

-- ---- createmedium

abbrev pub create_checks : World → Name → ℕ → List Check
create_checks w name capacity =
    (is_medium w name, NameTaken)
    ∷ (is_some (w.shelf name), FileExists)
    ∷ (is_bad_size capacity, BadSize)
    ∷ (is_full w, Full Media)
    ∷ (is_spent w, IdsSpent)
    ∷ []

-- A new medium is normal and of zeros (VBoxManage createmedium). It takes one number for both of its identifiers.
abbrev pub made_medium : World → Name → ℕ → Variant → WorldMedium
made_medium w name capacity variant = record {
  name = name;
  id = identifier_of w.seed Medium w.next;
  modify = identifier_of w.seed Modify w.next;
  changed = false;
  mode = Normal;
  variant = variant;
  capacity = capacity;
  flat = Some (zero_disk capacity);
}

abbrev pub create_medium : World → Name → ℕ → Variant → Outcome
create_medium w name capacity variant =
    unless_refused w (create_checks w name capacity) (
      Id (identifier_of w.seed Medium w.next),
      record w {
        next = w.next + 1;
        media = put_by medium_name (made_medium w name capacity variant) w.media;
      },
    )

-- ---- openmedium

abbrev pub id_checks : World → List ℕ → List Check
id_checks w id = (has_id medium_id id w.media, DuplicateId) ∷ (is_foreign w.seed w.next id, ForeignId) ∷ (is_full w, Full Media) ∷ []

-- what is asked of the file of the shelf
abbrev pub file_checks : World → Option Shelved → List Check
file_checks w None = (true, NoSuchFile) ∷ []
file_checks w (Some (Bad k)) = (true, NotAnImage k) ∷ []
file_checks w (Some (Volume v)) = id_checks w v.id
file_checks w (Some (Link l)) = id_checks w l.id ++ (true, BrokenChain 0) ∷ []

abbrev pub open_checks : World → Name → List Check
open_checks w name = (is_medium w name, NameTaken) ∷ file_checks w (w.shelf name)

-- a file of the shelf as a medium
abbrev pub opened_medium : Name → VolumeFile → WorldMedium
opened_medium name v = record {
  name = name;
  id = v.id;
  modify = v.modify;
  changed = false;
  mode = Normal;
  variant = v.variant;
  capacity = v.capacity;
  flat = Some v.flat;
}

-- what opening answers and does; a file that is no volume is refused before
abbrev pub opened : World → Name → Option Shelved → Outcome
opened w name (Some (Volume v)) = (
  Id v.id,
  record w {
    media = put_by medium_name (opened_medium name v) w.media;
    shelf = with_shelved w.shelf name None;
  },
)
opened w name (Some (Link l)) = (Done, w)
opened w name (Some (Bad k)) = (Done, w)
opened w name None = (Done, w)

-- A file of the shelf becomes a normal medium (VBoxManage openmedium).
abbrev pub open_medium : World → Name → Outcome
open_medium w name = unless_refused w (open_checks w name) (opened w name (w.shelf name))

-- ---- closemedium

abbrev pub close_checks : World → Name → List Check
close_checks w name = (is_in_use w.machines name, InUse) ∷ []

-- a medium as a file of the shelf; a medium in use, which alone can be without a disk, is not closed
abbrev pub volume_of : WorldMedium → FlatDisk → VolumeFile
volume_of m flat = record { id = m.id; modify = m.modify; variant = m.variant; capacity = m.capacity; flat = flat }

abbrev pub shelved : WorldMedium → Option FlatDisk → Option Shelved
shelved m None = None
shelved m (Some flat) = Some (Volume (volume_of m flat))

-- A medium goes to the shelf, or is deleted with its file (VBoxManage closemedium).
abbrev pub close_medium : World → Name → Bool → Outcome
close_medium w name delete =
    found_or w NoSuchMedium (medium_of w name) (λ m.
    unless_refused w (close_checks w name) (
      Done,
      record w {
        media = without medium_name name w.media;
        shelf = if delete then w.shelf else with_shelved w.shelf name (shelved m m.flat);
      },
    ))

-- ---- modifymedium --type

-- the modes of media that a slot or a snapshot has do not change
abbrev pub mode_checks : World → Name → List Check
mode_checks w name = (is_in_use w.machines name, InUse) ∷ []

-- The mode changes (VBoxManage modifymedium --type).
abbrev pub set_mode : World → Name → Mode → Outcome
set_mode w name mode =
    found_or w NoSuchMedium (medium_of w name) (λ _.
    unless_refused w (mode_checks w name) (Done, with_medium w name (λ (m : WorldMedium). record m { mode = mode })))

-- ---- showmediuminfo, list hdds

abbrev pub show_medium_info : World → Name → Outcome
show_medium_info w name =
    found_or w NoSuchMedium (medium_of w name) (λ m.
    (Info m.id m.modify m.mode m.variant m.capacity (is_frozen w.machines m), w))

abbrev pub list_hdds : World → Outcome
list_hdds w = (MediaList (map medium_name w.media), w)
