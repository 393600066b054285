-- The disk that an image holds.
use Rattle.std.specs.Prelude.{ℕ, zero, suc, ◌+◌, ◌*◌, ◌/◌, ◌%◌, if◌then◌else◌, List, [], ◌∷◌, ◌++◌, take, drop, replicate}
use Rattle.vbm_header.specs.declared.Header.{Header}
use Rattle.vbm_volume.specs.Image.{word_of, is_position, data_at}

-- A flat disk (User Manual, Virtual Storage): its sectors of 512 bytes in their order. Its capacity is 512 times their number.
abbrev pub FlatDisk : Type 0
FlatDisk = List (List ℕ)

-- the first n sectors of a disk that is read sector by sector
unfoldable pub first_sectors : (ℕ → List ℕ) → ℕ → FlatDisk
first_sectors sector zero = []
first_sectors sector (suc n) = first_sectors sector n ++ sector n ∷ []

-- how many sectors an image has, by cbDisk
abbrev pub sector_count : Header → ℕ
sector_count h = h.capacity / 512

-- A sector by the word of its block of 2048 sectors: its bytes at the position, or zeros where the word is no position.
abbrev pub sector_by : List ℕ → Header → ℕ → ℕ → List ℕ
sector_by f h word i = if is_position word then take 512 (drop (data_at h word + i % 2048 * 512) f) else replicate 512 0

-- a sector of a base image, whose free and zero blocks read as zeros
unfoldable pub base_sector : List ℕ → Header → ℕ → List ℕ
base_sector f h i = sector_by f h (word_of f h (i / 2048)) i

-- the disk of a base image
abbrev pub flat_of_base : List ℕ → Header → FlatDisk
flat_of_base f h = first_sectors (base_sector f h) (sector_count h)
