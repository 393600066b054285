-- Where a chain of images has its blocks, and the sectors there.
use Rattle.std.specs.Prelude.{ℕ, ◌+◌, ◌*◌, ◌%◌, ◌<◌, ◌≤◌, nat_lt, if◌then◌else◌, List, [], ◌∷◌, length, reverse, replicate, Option, Some, None, slice_get}
use Rattle.vbm_ports.specs.Files.{Files, piece}
use Rattle.vbm_volume.specs.Image.{data_at}
use Rattle.vbm_volume.specs.Like.{sector_at}
use Rattle.vbm_volume.specs.Sectors.{sector_count}
use Rattle.vbm_blockmap.specs.declared.entry.Entry.{Entry}
use Rattle.vbm_blockmap.specs.declared.entry.Entry.TheVariants.{Free, Zero, At}
use Rattle.vbm_blockmap.specs.Entry.{entry_of_word}
use Rattle.vbm_image.specs.declared.image.Image.{Image}
use Rattle.vbm_image.specs.Image.{file_in, staged_word}
use Rattle.vbm_chain.specs.declared.resolving.Place.{Place}
use Rattle.vbm_chain.specs.declared.resolving.Place.TheVariants.{Zeros, In}

-- the entry of a block in an image: free where no sector of the block is within the capacity
abbrev pub entry_in : Files → Image → ℕ → Entry
entry_in files image b =
    if nat_lt (b * 2048) (sector_count image.header)
    then entry_of_word (staged_word (file_in files image) image.header image.pending.staged b) else Free

abbrev pub entry_at : Files → Option Image → ℕ → Entry
entry_at files None b = Free
entry_at files (Some image) b = entry_in files image b

-- the place of a block by its entry in image k, where a free one leaves it to the images below
abbrev pub place_by : Entry → ℕ → Place → Place
place_by Free k below = below
place_by Zero k below = Zeros
place_by (At p) k below = In k p

-- the place of a block in a chain that is told from its last image down
abbrev pub place_down : Files → List Image → List ℕ → ℕ → Place
place_down files images [] b = Zeros
place_down files images (k ∷ below) b = place_by (entry_at files (slice_get images k) b) k (place_down files images below b)

-- The place of a block in a chain, base first: that of its entry in the last image where it isn't free.
abbrev pub block_place : Files → List Image → List ℕ → ℕ → Place
block_place files images chain b = place_down files images (reverse chain) b

-- a sector at a position of an image: zeros past the capacity
abbrev pub image_sector : Files → Option Image → ℕ → ℕ → List ℕ
image_sector files None p i = replicate 512 0
image_sector files (Some image) p i =
    if nat_lt i (sector_count image.header) then piece (file_in files image) (sector_at image.header p (i % 2048)) 512 else replicate 512 0

-- a sector at the place of its block
abbrev pub place_sector : Files → List Image → Place → ℕ → List ℕ
place_sector files images Zeros i = replicate 512 0
place_sector files images (In k p) i = image_sector files (slice_get images k) p i

-- a place in one of the images
abbrev pub IsPlaceIn : List Image → Place → Type 0
IsPlaceIn images Zeros = Unit {0}
IsPlaceIn images (In k p) = k < length images

-- its position is no word of another kind
abbrev pub IsPosition : Place → Type 0
IsPosition Zeros = Unit {0}
IsPosition (In k p) = p < 0xFFFFFFFE

-- the data of a position lies in the image's file
abbrev pub HasData : Files → Option Image → ℕ → Type 0
HasData files None p = ⊥
HasData files (Some image) p = data_at image.header (p + 1) ≤ length (file_in files image)

-- the data of a place lies in the file
abbrev pub IsInFile : Files → List Image → Place → Type 0
IsInFile files images Zeros = Unit {0}
IsInFile files images (In k p) = HasData files (slice_get images k) p
