-- The first WRITTEN_LEN bytes of an image, as `write_header` makes them: the fields in the order of their places.
use Rattle.std.specs.Prelude.{◌≡◌, ℕ, ◌^◌, ◌<◌, List, ◌++◌, codes, replicate, length}
use Rattle.byteorder.specs.Endian.{little_bytes}
use Rattle.uuid.specs.Parts.{swap_fields}
use Rattle.vbm_header.specs.declared.ImageType.{ImageType}
use Rattle.vbm_header.specs.declared.ImageType.TheVariants.{Dynamic, Fixed, Differencing}
use Rattle.vbm_header.specs.declared.Header.{Header}

-- u32Type of an image's type
abbrev pub type_number : ImageType → ℕ
type_number Dynamic = 1
type_number Fixed = 2
type_number Differencing = 4

-- that many bytes of zero
abbrev pub zeros : ℕ → List ℕ
zeros n = replicate n 0

-- a geometry of no cylinders, heads or sectors (four bytes each), and its sector size
abbrev pub geometry : List ℕ
geometry = zeros 12 ++ little_bytes 4 512

-- bytes 0 to 340: szFileInfo (a text of 64 bytes), u32Signature, u32Version, cbHeader, u32Type, fFlags (4 bytes)
-- and szComment (256 bytes)
unfoldable pub start : Header → List ℕ
start h =
    codes "vbm disk image\n" ++ zeros 49 ++ little_bytes 4 0xBEDA107F ++ little_bytes 4 0x00010001
    ++ little_bytes 4 h.cb_header ++ little_bytes 4 (type_number h.image_type) ++ zeros 4 ++ zeros 256

-- bytes 340 to 392: offBlocks, offData, LegacyGeometry, u32Dummy, cbDisk, cbBlock, cbBlockExtra, cBlocks and
-- cBlocksAllocated
unfoldable pub sizes : Header → List ℕ
sizes h =
    little_bytes 4 h.off_blocks ++ little_bytes 4 h.off_data ++ geometry ++ zeros 4 ++ little_bytes 8 h.capacity
    ++ little_bytes 4 (2 ^ 20) ++ little_bytes 4 0 ++ little_bytes 4 h.blocks ++ little_bytes 4 h.allocated

-- bytes 392 to 472: uuidCreate, uuidModify, uuidLinkage, uuidParentModify, and LCHSGeometry
unfoldable pub identifiers : Header → List ℕ
identifiers h =
    swap_fields h.id ++ swap_fields h.modify ++ swap_fields h.link ++ swap_fields h.parent_modify ++ geometry

-- the header's bytes
abbrev pub header_bytes : Header → List ℕ
header_bytes h = start h ++ sizes h ++ identifiers h

-- the UUIDs have sixteen bytes each
pub record AreUuids (h : Header) : Type 0 where
  pub id : length h.id ≡ 16
  pub modify : length h.modify ≡ 16
  pub link : length h.link ≡ 16
  pub parent_modify : length h.parent_modify ≡ 16

-- the numbers fit their fields
pub record AreNumbers (h : Header) : Type 0 where
  pub off_blocks : h.off_blocks < 2 ^ 32
  pub off_data : h.off_data < 2 ^ 32
  pub capacity : h.capacity < 2 ^ 64
  pub blocks : h.blocks < 2 ^ 32
  pub allocated : h.allocated < 2 ^ 32
