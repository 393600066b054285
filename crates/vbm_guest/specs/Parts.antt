-- A write inside one block.
use Rattle.std.specs.Prelude.{◌≡◌, ◌≢◌, ℕ, ◌*◌, ◌<◌, Bool, true, false, List, ◌∷◌, Some, slice_get}
use Rattle.vbm_ports.specs.Files.{Files}
use Rattle.vbm_volume.specs.Chain.{Link, sector_down}
use Rattle.vbm_blockmap.specs.declared.entry.Entry.{Entry}
use Rattle.vbm_blockmap.specs.declared.entry.Entry.TheVariants.{Free, Zero, At}
use Rattle.vbm_blockmap.specs.Entry.{word_of_entry, IsEntry}
use Rattle.vbm_blockmap.specs.Pending.{position_in}
use Rattle.vbm_image.specs.declared.image.Image.{Image}
use Rattle.vbm_image.specs.Image.{file_in, staged_word}
use Rattle.vbm_chain.specs.Settled.{settled_link, HoldSectors}
use Rattle.vbm_guest.specs.Runs.{with_run}

-- the entry has a position
abbrev pub is_placed : Entry → Bool
is_placed Free = false
is_placed Zero = false
is_placed (At p) = true

-- e is the entry of a block: the staged one, or that of the file, if the disk tells it
pub record IsEntryAt (tells : Type 0) (files : Files) (image : Image) (block : ℕ) (e : Entry) : Type 0 where
  pub is : IsEntry e
  pub word : tells → word_of_entry e ≡ staged_word (file_in files image) image.header image.pending.staged block
  pub staged : (p : ℕ) → position_in image.pending.staged block ≡ Some p → e ≡ At p

-- another block has the entry that it had
abbrev pub KeepsEntriesBut : ℕ → Type 0 → Files → Image → Files → Image → Type 0
KeepsEntriesBut block tells files image now other =
    (b : ℕ) (e : Entry) → b ≢ block → b < image.header.blocks → IsEntryAt tells files image b e → IsEntryAt tells now other b e

-- Over any images below, what the image serves is what it served before, with this run.
abbrev pub ServesRun : Files → Image → Files → Image → (lba n : ℕ) → List ℕ → Type 0
ServesRun files image now other lba n bytes = (below : List Link) (i : ℕ)
    → sector_down (settled_link now other ∷ below) i ≡ with_run lba n bytes (sector_down (settled_link files image ∷ below)) i

-- The same over images below of which the buffer has a copy of the block.
abbrev pub ServesCopied : Files → Image → Files → Image → (block lba n : ℕ) → List ℕ → List ℕ → Type 0
ServesCopied files image now other block lba n bytes buf =
    (below : List Link) → HoldSectors (sector_down (settled_link files image ∷ below)) (block * 2048) 2048 buf → (i : ℕ)
    → sector_down (settled_link now other ∷ below) i ≡ with_run lba n bytes (sector_down (settled_link files image ∷ below)) i

-- The same for the image with this number.
abbrev pub KeepsEntriesIn : ℕ → ℕ → Type 0 → Files → List Image → Files → List Image → Type 0
KeepsEntriesIn at block tells files images now others = (image other : Image) → slice_get images at ≡ Some image
    → slice_get others at ≡ Some other → KeepsEntriesBut block tells files image now other
