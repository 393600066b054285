-- New images, as they are made.
use Rattle.std.specs.Prelude.{◌≡◌, ℕ, zero, suc, ◌+◌, ◌-◌, ◌*◌, ◌^◌, ◌≤◌, ◌%◌, List, [], ◌++◌, replicate, IsFalse}
use Rattle.std.specs.Int.{div_ceil}
use Rattle.byteorder.specs.Endian.{little_bytes}
use Rattle.uuid.specs.Parts.{is_nil_bytes, zero_bytes}
use Rattle.vbm_header.specs.declared.Header.{Header}
use Rattle.vbm_header.specs.declared.ImageType.{ImageType}
use Rattle.vbm_header.specs.declared.ImageType.TheVariants.{Dynamic, Fixed, Differencing}
use Rattle.vbm_header.specs.Header.{is_differencing}
use Rattle.vbm_header.specs.Written.{header_bytes, zeros, AreUuids}
use Rattle.vbm_volume.specs.Like.{map_end}
use Rattle.vbm_volume.specs.declared.flat.Variant.{Variant}
use Rattle.vbm_volume.specs.declared.flat.Variant.TheVariants as variant
use Rattle.vbm_header.specs.declared.TheConstants.{WRITTEN_LEN}

-- the image type of a base image of a variant
abbrev pub type_of : Variant → ImageType
type_of variant.Standard = Dynamic
type_of variant.Fixed = Fixed

-- the words 0 to n - 1: each block of a fixed image has its own number as its position
unfoldable pub own_words : ℕ → List ℕ
own_words zero = []
own_words (suc n) = own_words n ++ little_bytes 4 n

-- the block map of a new image of n blocks: all are free, but those of a fixed image
abbrev pub new_map : ImageType → ℕ → List ℕ
new_map Dynamic n = replicate (4 * n) 255
new_map Fixed n = own_words n
new_map Differencing n = replicate (4 * n) 255

-- how many of n blocks have their data in a new image
abbrev pub new_allocated : ImageType → ℕ → ℕ
new_allocated Dynamic n = 0
new_allocated Fixed n = n
new_allocated Differencing n = 0

-- What all headers that this project makes have in common: the block map stands at 1 MiB, and the data at the first whole MiB after
-- it.
pub record IsLaidOut (h : Header) : Type 0 where
  pub cb_header : h.cb_header ≡ 400
  pub off_blocks : h.off_blocks ≡ 2 ^ 20
  pub off_data : h.off_data ≡ div_ceil (map_end h) (2 ^ 20) * 2 ^ 20
  pub sectors : h.capacity % 512 ≡ 0
  pub some : 512 ≤ h.capacity
  pub most : h.capacity ≤ 2 ^ 41
  pub blocks : h.blocks ≡ div_ceil h.capacity (2 ^ 20)
  pub allocated : h.allocated ≤ h.blocks
  pub uuids : AreUuids h
  pub id : IsFalse (is_nil_bytes h.id)

-- A header as this project makes it: the block map stands at 1 MiB, and the data at the first whole MiB after it.
pub record IsNewHeader (h : Header) : Type 0 where
  pub cb_header : h.cb_header ≡ 400
  pub off_blocks : h.off_blocks ≡ 2 ^ 20
  pub off_data : h.off_data ≡ div_ceil (map_end h) (2 ^ 20) * 2 ^ 20
  pub sectors : h.capacity % 512 ≡ 0
  pub some : 512 ≤ h.capacity
  pub most : h.capacity ≤ 2 ^ 41
  pub blocks : h.blocks ≡ div_ceil h.capacity (2 ^ 20)
  pub allocated : h.allocated ≡ new_allocated h.image_type h.blocks
  pub uuids : AreUuids h
  pub id : IsFalse (is_nil_bytes h.id)
  -- a base image has no parent
  pub base : IsFalse (is_differencing h.image_type) → (h.link ≡ zero_bytes) × (h.parent_modify ≡ zero_bytes)

-- A header as this project makes it for an image that is made in steps, of either type of a base image: at first no block has
-- its data (cBlocksAllocated is 0).
pub record IsMakingHeader (h : Header) : Type 0 where
  pub new : IsNewHeader (record h { image_type = Dynamic })
  pub base : IsFalse (is_differencing h.image_type)

-- the bytes up to the block map
abbrev pub made_front : Header → List ℕ
made_front h = header_bytes h ++ zeros (h.off_blocks - WRITTEN_LEN)

-- The bytes of a new image: the header, the block map, and data of zeros.
abbrev pub made_image : Header → List ℕ
made_image h = made_front h ++ (new_map h.image_type h.blocks ++ zeros (h.off_data - map_end h + h.allocated * 2 ^ 20))

-- The bytes of an image of which every block is free, whatever its type. It ends where the data begins (offData).
abbrev pub free_image : Header → List ℕ
free_image h = made_front h ++ (replicate (4 * h.blocks) 255 ++ zeros (h.off_data - map_end h))
