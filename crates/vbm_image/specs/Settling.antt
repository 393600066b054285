-- The settling of staged entries: the changes that put them into the block map, and the file that these make.
use Rattle.std.specs.Prelude.{◌≡◌, ℕ, ◌+◌, ◌*◌, ◌≤◌, max, List, [], ◌∷◌, map, Some, Ok}
use Rattle.byteorder.specs.Endian.{little_bytes}
use Rattle.vbm_ports.specs.Files.{put}
use Rattle.vbm_header.specs.declared.Header.{Header}
use Rattle.vbm_intent.specs.declared.change.Change.{Change}
use Rattle.vbm_intent.specs.declared.change.Change.TheVariants.{Write}
use Rattle.vbm_intent.specs.Changes.{file_after, FitsFile}
use Rattle.vbm_volume.specs.Image.{image_of}
use Rattle.vbm_blockmap.specs.Pending.{Staged}
use Rattle.vbm_image.specs.declared.image.Image.{Image}

-- cBlocksAllocated with the staged positions: above each of them
abbrev pub allocated_with : ℕ → Staged → ℕ
allocated_with allocated [] = allocated
allocated_with allocated (s ∷ staged) = allocated_with (max allocated (s.1 + 1)) staged

-- the word of a staged entry, in its place in the block map
abbrev pub word_change : List ℕ → Header → ℕ × ℕ → Change
word_change name h s = Write name (h.off_blocks + 4 * s.0) (little_bytes 4 s.1)

-- cBlocksAllocated, in its place in the header
abbrev pub allocated_change : List ℕ → ℕ → Change
allocated_change name n = Write name 388 (little_bytes 4 n)

-- The changes that settle staged entries: the count first, then the words in the order of staging.
abbrev pub settling : List ℕ → Header → Staged → List Change
settling name h [] = []
settling name h (s ∷ staged) =
    allocated_change name (allocated_with h.allocated (s ∷ staged)) ∷ map (word_change name h) (s ∷ staged)

-- a file with these words in its block map
abbrev pub with_words : Header → Staged → List ℕ → List ℕ
with_words h [] f = f
with_words h (s ∷ staged) f = with_words h staged (put (h.off_blocks + 4 * s.0) (little_bytes 4 s.1) f)

-- The file with its staged entries settled: each stands in place of the file's word.
unfoldable pub settled : Header → Staged → List ℕ → List ℕ
settled h [] f = f
settled h (s ∷ staged) f = with_words h (s ∷ staged) (put 388 (little_bytes 4 (allocated_with h.allocated (s ∷ staged))) f)

-- its header
abbrev pub settled_header : Header → Staged → Header
settled_header h staged = record h { allocated = allocated_with h.allocated staged }

-- The settling fits the file, and makes the settled one of it, which is accepted.
pub record Settles (name : List ℕ) (h : Header) (staged : Staged) (f : List ℕ) : Type 0 where
  pub fits : FitsFile (settling name h staged) (Some f)
  pub makes : file_after (settling name h staged) (Some f) ≡ Some (settled h staged f)
  pub accepted : image_of (settled h staged f) ≡ Ok (settled_header h staged)

-- the same image, whose staged entries are taken as settled
pub record TakesAsSettled (old new : Image) : Type 0 where
  pub name : new.name ≡ old.name
  pub header : new.header ≡ settled_header old.header old.pending.staged
  pub staged : new.pending.staged ≡ []
  pub spare : old.pending.spare ≤ new.pending.spare
  pub used : new.used ≡ old.used
