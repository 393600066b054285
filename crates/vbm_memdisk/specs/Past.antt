-- What is told of a disk in memory.
use Rattle.std.specs.Prelude.{◌≡◌, ℕ, List, [], ◌∷◌, length, reverse}
use Rattle.vbm_ports.specs.Files.{Files}
use Rattle.vbm_ports.specs.Disk.{DiskState}
use Rattle.vbm_memdisk.specs.Folders.{files_in}
use Rattle.vbm_memdisk.specs.Events.{files_after, files_at_last_sync, files_with_byte, Images, LeftSince}
use Rattle.vbm_memdisk.specs.declared.events.Pick.{Pick}
use Rattle.vbm_memdisk.specs.declared.events.Pick.TheVariants.{Old, New, Byte}
use Rattle.vbm_memdisk.specs.declared.events.Write.{Write}
use Rattle.vbm_memdisk.specs.declared.events.Whole.{Whole}
use Rattle.vbm_memdisk.specs.declared.events.Event.{Event}
use Rattle.vbm_memdisk.specs.declared.events.Event.TheVariants.{Wrote, Put}
use Rattle.vbm_memdisk.specs.declared.history.History.{History}

-- the settled files of the beginning, and the events since, the newest first
pub record Past : Type 0 where
  pub first : Files
  pub events : List Event

abbrev pub past_in : History → Past
past_in history = record { first = files_in history.first; events = reverse history.events.items }

-- these files, all settled
abbrev pub settled_past : Files → Past
settled_past files = record { first = files; events = [] }

abbrev pub with_event : Event → Past → Past
with_event event past = record { first = past.first; events = event ∷ past.events }

-- the files, as reads give them
abbrev pub files_now : Past → Files
files_now past = files_after past.first past.events

-- the files of the image of each pick
abbrev pub picked_files : Pick → Past → Files
picked_files Old past = files_at_last_sync past.first past.events
picked_files New past = files_now past
picked_files (Byte byte) past = files_with_byte byte past.first past.events

abbrev pub state_of : Past → ℕ → ℕ → DiskState
state_of past calls faults = record {
  files = files_now past;
  may_leave = Images past.first past.events;
  moment = length past.events;
  left_since = LeftSince past.first past.events;
  calls = calls;
  faults = faults;
}

-- the newest event is this write
pub record AddsWrite (name : List ℕ) (at : ℕ) (bytes : List ℕ) (kept : ℕ) (old new : Past) : Type 0 where
  pub write : Write
  pub named : write.name ≡ name
  pub place : write.at ≡ at
  pub content : write.bytes ≡ bytes
  pub part : write.kept ≡ kept
  pub now : new ≡ with_event (Wrote write) old

-- the newest event is that this file was put
pub record Puts (name bytes : List ℕ) (old new : Past) : Type 0 where
  pub file : Whole
  pub named : file.name ≡ name
  pub content : file.bytes ≡ bytes
  pub now : new ≡ with_event (Put file) old
