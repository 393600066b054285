-- What writes to sectors of one image do to a disk. They change the data of blocks alone: the header and the block map, which
-- stands at offBlocks, are as they were.
use Rattle.std.specs.Prelude.{◌≡◌, ◌≢◌, ◌⊎◌, ℕ, ◌+◌, ◌*◌, ◌/◌, ◌%◌, ◌≤◌, ◌<◌, ◌==◌, ◌&&◌, nat_le, nat_lt, Bool, List, Option, Some, None, IsFalse}
use Rattle.vbm_ports.specs.Files.{Files}
use Rattle.vbm_ports.specs.Crash.{Through, Follows}
use Rattle.vbm_ports.specs.Disk.{DiskState, Passes}
use Rattle.vbm_header.specs.declared.Header.{Header}
use Rattle.vbm_volume.specs.Image.{word_of}
use Rattle.vbm_volume.specs.Like.{map_end, HasPosition, sector_at, IsLikeFile}

-- a file that is there, as a crash may leave that of an image which was read as f
abbrev pub IsLikeIn : Header → (ℕ → Bool) → List ℕ → Option (List ℕ) → Type 0
IsLikeIn h loose f None = ⊥
IsLikeIn h loose f (Some g) = IsLikeFile h loose f g

-- each of these sectors is among the loose ones
abbrev pub Covers : (ℕ → Bool) → (ℕ → Bool) → Type 0
Covers loose sectors = (i : ℕ) → IsFalse (loose i) → IsFalse (sectors i)

-- The sectors that stand at sectors first to first + count - 1 of position p: those of the block whose word in the block map
-- is p, and none where no block's word is.
abbrev pub sectors_at : List ℕ → Header → ℕ → ℕ → ℕ → ℕ → Bool
sectors_at f h p first count i =
    nat_lt (i / 2048) h.blocks && word_of f h (i / 2048) == p && nat_le first (i % 2048) && nat_lt (i % 2048) (first + count)

-- A write of n bytes at `at` touches no byte up to the end of the block map, and no sector of a position but these.
pub record TouchesOnly (h : Header) (f : List ℕ) (sectors : ℕ → Bool) (at n : ℕ) : Type 0 where
  pub behind : map_end h ≤ at
  pub apart : (b k : ℕ) → HasPosition h f b → k < 2048 → IsFalse (sectors (b * 2048 + k))
      → (sector_at h (word_of f h b) k + 512 ≤ at) ⊎ (at + n ≤ sector_at h (word_of f h b) k)

-- The file of this name, of an image that was read as f, is still that image but for these sectors, wherever they are loose;
-- and no other file changed.
pub record Loosens (name : List ℕ) (h : Header) (f : List ℕ) (sectors : ℕ → Bool) (old new : Files) : Type 0 where
  pub here : (loose : ℕ → Bool) → Covers loose sectors → IsLikeIn h loose f (old name) → IsLikeIn h loose f (new name)
  pub others : (other : List ℕ) → other ≢ name → new other ≡ old other

-- What writes to these sectors, done or failed, did to a disk: to its files, and to what a crash leaves of them after it and
-- at each moment of it.
pub record Wrote (name : List ℕ) (h : Header) (f : List ℕ) (sectors : ℕ → Bool) (old new : DiskState) : Type 0 where
  pub files : Loosens name h f sectors old.files new.files
  pub images : Follows (Loosens name h f sectors) old.may_leave new.may_leave
  pub time : Passes old new (Through (Loosens name h f sectors) old.may_leave)
