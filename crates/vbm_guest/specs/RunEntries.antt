-- The entries of the blocks in which a run begins and ends.
use Rattle.std.specs.Prelude.{ℕ, ◌+◌, ◌-◌, ◌/◌, ◌&&◌, Bool}
use Rattle.vbm_ports.specs.Files.{Files}
use Rattle.vbm_image.specs.declared.image.Image.{Image}
use Rattle.vbm_guest.specs.declared.runs.RunEntries.{RunEntries}
use Rattle.vbm_guest.specs.Parts.{is_placed, IsEntryAt}

-- both have a position
abbrev pub are_placed : RunEntries → Bool
are_placed entries = is_placed entries.first && is_placed entries.last

-- they are the entries of the image, of the blocks with the first and the last of n sectors from lba on
pub record AreEntriesOf (tells : Type 0) (files : Files) (image : Image) (lba n : ℕ) (entries : RunEntries) : Type 0 where
  pub first : IsEntryAt tells files image (lba / 2048) entries.first
  pub last : IsEntryAt tells files image ((lba + n - 1) / 2048) entries.last
