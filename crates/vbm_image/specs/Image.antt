-- An image with staged entries, by itself and over its file.
use Rattle.std.specs.Prelude.{◌≡◌, ◌≢◌, ℕ, ◌+◌, ◌-◌, ◌/◌, ◌<◌, ◌≤◌, true, List, [], ◌∷◌, length, Option, Some, None, Ok, unwrap_or}
use Rattle.vbm_ports.specs.Files.{Files, bytes_of}
use Rattle.vbm_ports.specs.Names.{IsStoreName}
use Rattle.vbm_header.specs.declared.Header.{Header}
use Rattle.vbm_intent.specs.Changes.{log_name}
use Rattle.vbm_volume.specs.Image.{image_of, word_of, data_at, IsSoundHeader}
use Rattle.vbm_volume.specs.Sectors.{sector_by}
use Rattle.vbm_volume.specs.Marks.{is_marked}
use Rattle.vbm_blockmap.specs.Pending.{Staged, position_in}
use Rattle.vbm_blockmap.specs.Used.{marked_count}
use Rattle.vbm_blockmap.specs.declared.used.TheConstants.{POSITION_LIMIT}
use Rattle.vbm_image.specs.declared.image.Image.{Image}

abbrev pub image_name : Image → List ℕ
image_name image = image.name

abbrev pub image_id : Image → List ℕ
image_id image = image.header.id

-- the bytes of an image's file
abbrev pub file_in : Files → Image → List ℕ
file_in files image = bytes_of (files image.name)

-- The word of a block: a staged position stands in place of the file's word.
abbrev pub staged_word : List ℕ → Header → Staged → ℕ → ℕ
staged_word f h staged b = unwrap_or (position_in staged b) (word_of f h b)

-- a sector by that word
abbrev pub staged_sector : List ℕ → Header → Staged → ℕ → List ℕ
staged_sector f h staged i = sector_by f h (staged_word f h staged (i / 2048)) i

-- ---- by itself

-- no block is staged twice
abbrev pub HasEachOnce : Staged → Type 0
HasEachOnce [] = Unit {0}
HasEachOnce (s ∷ staged) = (position_in staged s.0 ≡ None) × HasEachOnce staged

-- staged entries are of blocks of the image, and their positions are below the limit
pub record AreStagedIn (h : Header) (staged : Staged) : Type 0 where
  pub once : HasEachOnce staged
  pub block : (b p : ℕ) → position_in staged b ≡ Some p → b < h.blocks
  pub low : (b p : ℕ) → position_in staged b ≡ Some p → p < POSITION_LIMIT

-- What holds of an image whatever its file is. It is no log, which a commit writes.
pub record IsInForm (image : Image) : Type 0 where
  pub name : IsStoreName image.name
  pub not_log : image.name ≢ log_name
  pub header : IsSoundHeader image.header
  pub staged : AreStagedIn image.header image.pending.staged

-- how many positions can still be taken; none where they were not looked up
abbrev pub left_in : Option (List ℕ) → ℕ
left_in None = 0
left_in (Some bits) = POSITION_LIMIT - marked_count bits

-- ---- over its file

-- Staged entries have positions that no settled and no other staged entry has, and whose data lies in the file.
pub record FitStaged (h : Header) (staged : Staged) (f : List ℕ) : Type 0 where
  pub reach : (b p : ℕ) → position_in staged b ≡ Some p → data_at h (p + 1) ≤ length f
  pub unused : (b p c : ℕ) → position_in staged b ≡ Some p → c < h.blocks → word_of f h c ≢ p
  pub apart : (a b p : ℕ) → position_in staged a ≡ Some p → position_in staged b ≡ Some p → a ≡ b

-- each position below the limit that a settled or a staged entry has is marked
pub record MarksEntries (h : Header) (staged : Staged) (f : List ℕ) (bits : List ℕ) : Type 0 where
  pub settled : (b : ℕ) → b < h.blocks → word_of f h b < POSITION_LIMIT → is_marked bits (word_of f h b) ≡ true
  pub staged_too : (b p : ℕ) → position_in staged b ≡ Some p → is_marked bits p ≡ true

-- marks, where there are any
abbrev pub FitUsed : Header → Staged → List ℕ → Option (List ℕ) → Type 0
FitUsed h staged f None = Unit {0}
FitUsed h staged f (Some bits) = MarksEntries h staged f bits

-- a header, staged entries and marks over a file
pub record FitsOver (h : Header) (staged : Staged) (used : Option (List ℕ)) (f : List ℕ) : Type 0 where
  pub accepted : image_of f ≡ Ok h
  pub entries : FitStaged h staged f
  pub marks : FitUsed h staged f used

-- an image over the files of a disk
abbrev pub FitsIn : Files → Image → Type 0
FitsIn files image = FitsOver image.header image.pending.staged image.used (file_in files image)
