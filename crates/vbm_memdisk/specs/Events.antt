-- What events do to files, and what a crash may leave of them.
--
-- Events are listed with the newest first.
use Rattle.std.specs.Prelude.{◌≡◌, ◌⊎◌, ℕ, ◌≤◌, List, [], ◌∷◌, length, take, Some, None, Bool, true, false}
use Rattle.vbm_ports.specs.Files.{Files, cut_to, Sets}
use Rattle.vbm_ports.specs.Crash.{WriteLeaves, CutLeaves, RemoveLeaves}
use Rattle.vbm_memdisk.specs.Folders.{with_file, wrote, smeared}
use Rattle.vbm_memdisk.specs.declared.events.Pick.{Pick}
use Rattle.vbm_memdisk.specs.declared.events.Pick.TheVariants.{Old, New, Byte}
use Rattle.vbm_memdisk.specs.declared.events.Event.{Event}
use Rattle.vbm_memdisk.specs.declared.events.Event.TheVariants.{Wrote, Cut, Removed, Synced, Put}

-- what reads give after an event
abbrev pub after_event : Event → Files → Files
after_event (Wrote write) files = with_file write.name (wrote write.at (take write.kept write.bytes) (files write.name)) files
after_event (Cut name len) files = with_file name (cut_to len (files name)) files
after_event (Removed name) files = with_file name None files
after_event Synced files = files
after_event (Put file) files = with_file file.name (Some file.bytes) files

-- what stands at once, with no sync: only a file that was put
abbrev pub settled : Event → Files → Files
settled (Put file) files = with_file file.name (Some file.bytes) files
settled _ files = files

-- what reads give after an event, but with this byte in a written range
abbrev pub with_byte : ℕ → Event → Files → Files
with_byte byte (Wrote write) files =
    with_file write.name (smeared byte write.at (length write.bytes) (take write.kept write.bytes) (files write.name)) files
with_byte byte event files = after_event event files

-- what reads give after some events
abbrev pub files_after : Files → List Event → Files
files_after first [] = first
files_after first (event ∷ earlier) = after_event event (files_after first earlier)

abbrev pub is_sync : Event → Bool
is_sync Synced = true
is_sync _ = false

-- the files after some events that each have an effect
abbrev pub replays : (Event → Files → Files) → Files → List Event → Files
replays step first [] = first
replays step first (event ∷ earlier) = step event (replays step first earlier)

-- the files at the last sync, with another effect of the events since
abbrev pub since_sync : (Event → Files → Files) → Files → List Event → Files
since_sync step first [] = first
since_sync step first (Synced ∷ earlier) = files_after first earlier
since_sync step first (event ∷ earlier) = step event (since_sync step first earlier)

-- the files as they were at the last sync, and those that were put since
abbrev pub files_at_last_sync : Files → List Event → Files
files_at_last_sync first events = since_sync settled first events

-- the files as they are, but with this byte in each range that is dirty since the last sync
abbrev pub files_with_byte : ℕ → Files → List Event → Files
files_with_byte byte first events = since_sync (with_byte byte) first events

-- one effect of the events since the last sync for each pick
abbrev pub effect_of : Pick → Event → Files → Files
effect_of Old = settled
effect_of New = after_event
effect_of (Byte byte) = with_byte byte

-- What a crash leaves after an event, of an image of before it; `files` are those that were read before it.
abbrev pub Leaves : Event → Files → Files → Files → Type 0
Leaves (Wrote write) files old new = WriteLeaves write.name write.at (length write.bytes) files old new
Leaves (Cut name len) files old new = CutLeaves name len files old new
Leaves (Removed name) files old new = RemoveLeaves name old new
Leaves Synced files old new = new ≡ files
Leaves (Put file) files old new = Sets file.name (Some file.bytes) old new

-- what a crash may leave now
abbrev pub Images : Files → List Event → Files → Type 0
Images first [] image = image ≡ first
Images first (event ∷ earlier) image =
    (before : Files) × Images first earlier before × Leaves event (files_after first earlier) before image

-- What a crash at some moment since a time might have left. The moment is the number of events.
abbrev pub LeftSince : Files → List Event → ℕ → Files → Type 0
LeftSince first [] time image = image ≡ first
LeftSince first (event ∷ earlier) time image =
    Images first (event ∷ earlier) image ⊎ ((time ≤ length earlier) × LeftSince first earlier time image)
