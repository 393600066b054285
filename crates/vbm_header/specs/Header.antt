-- What the header of a VDI 1.1 image says, and which headers are accepted. The fields' names and places are those of
-- VirtualBox's VDIPREHEADER, the first 72 bytes, and VDIHEADER1PLUS, which follows it.
use Rattle.std.specs.Prelude.{ℕ, ◌+◌, ◌*◌, ◌%◌, ◌^◌, ◌==◌, ◌&&◌, ◌||◌, not, nat_le, Bool, true, false, if◌then◌else◌, List, [], ◌∷◌, Option, Some, None, Result, Ok, Err}
use Rattle.uuid.specs.Parts.{is_nil_bytes}
use Rattle.vbm_header.specs.declared.BadImage.{BadImage}
use Rattle.vbm_header.specs.declared.BadImage.TheVariants.{Short, Signature, Version, HeaderSize, TypeNumber, BlockSize, Size, Layout, NilId, PositionCount, PositionFile, PositionTwice}
use Rattle.vbm_header.specs.declared.ImageType.{ImageType}
use Rattle.vbm_header.specs.declared.ImageType.TheVariants.{Dynamic, Fixed, Differencing}
use Rattle.vbm_header.specs.declared.Header.{Header}
use Rattle.vbm_header.specs.Field.{number_at, uuid_at}

-- the place of a condition among the twelve: the order in which they are tested
abbrev pub condition_number : BadImage → ℕ
condition_number Short = 1
condition_number Signature = 2
condition_number Version = 3
condition_number HeaderSize = 4
condition_number TypeNumber = 5
condition_number BlockSize = 6
condition_number Size = 7
condition_number Layout = 8
condition_number NilId = 9
condition_number PositionCount = 10
condition_number PositionFile = 11
condition_number PositionTwice = 12

-- the type of an image by u32Type: 1, 2 or 4; the condition TypeNumber below refuses any other
abbrev pub image_type_of : ℕ → ImageType
image_type_of n = if n == 1 then Dynamic else if n == 2 then Fixed else Differencing

-- whether an image stands on a parent
abbrev pub is_differencing : ImageType → Bool
is_differencing Dynamic = false
is_differencing Fixed = false
is_differencing Differencing = true

-- the header's fields at their places: cbHeader, u32Type, offBlocks, offData, cbDisk, cBlocks, cBlocksAllocated,
-- uuidCreate, uuidModify, uuidLinkage (the parent's UUID) and uuidParentModify
abbrev pub fields : List ℕ → Header
fields f = record {
  cb_header = number_at f 72 4;
  image_type = image_type_of (number_at f 76 4);
  off_blocks = number_at f 340 4;
  off_data = number_at f 344 4;
  capacity = number_at f 368 8;
  blocks = number_at f 384 4;
  allocated = number_at f 388 4;
  id = uuid_at f 392;
  modify = uuid_at f 408;
  link = uuid_at f 424;
  parent_modify = uuid_at f 440;
}

-- a condition: the name that it is refused under, and whether it holds
abbrev pub Condition : Type 0
Condition = BadImage × Bool

-- the name of the first condition that fails, if one does
abbrev pub first_that_fails : List Condition → Option BadImage
first_that_fails [] = None
first_that_fails (c ∷ cs) = if c.1 then first_that_fails cs else Some c.0

-- cbHeader is 384 (the short form of the header) or more, and the header, which counts from byte 72, ends by offBlocks
abbrev pub has_header_size : Header → Bool
has_header_size h = nat_le 384 h.cb_header && nat_le (72 + h.cb_header) h.off_blocks

-- cbDisk is whole sectors of 512 bytes, from one to 2 TiB, and cBlocks, at most 2^21, blocks of 1 MiB cover it
abbrev pub has_size : Header → Bool
has_size h =
    h.capacity % 512 == 0 && nat_le 512 h.capacity && nat_le h.capacity (2 ^ 41) && nat_le h.blocks (2 ^ 21)
    && nat_le h.capacity (h.blocks * 2 ^ 20)

-- offBlocks is at most 2^31, and the block map, four bytes for each block, ends by offData and within the file
abbrev pub has_layout : Header → ℕ → Bool
has_layout h len =
    nat_le h.off_blocks (2 ^ 31) && nat_le (h.off_blocks + 4 * h.blocks) h.off_data
    && nat_le (h.off_blocks + 4 * h.blocks) len

-- the image's UUID isn't the nil UUID (RFC 9562, 5.9)
abbrev pub is_identified : Header → Bool
is_identified h = not (is_nil_bytes h.id)

-- the conditions on the header of a file of len bytes, in their order; u32Signature stands at 64, u32Version at 68,
-- cbBlock at 376 and cbBlockExtra at 380
unfoldable pub header_conditions : List ℕ → ℕ → List Condition
header_conditions f len =
    (Short, nat_le 456 len)
    ∷ (Signature, number_at f 64 4 == 0xBEDA107F)
    ∷ (Version, number_at f 68 4 == 0x00010001)
    ∷ (HeaderSize, has_header_size (fields f))
    ∷ (TypeNumber, number_at f 76 4 == 1 || number_at f 76 4 == 2 || number_at f 76 4 == 4)
    ∷ (BlockSize, number_at f 376 4 == 2 ^ 20 && number_at f 380 4 == 0)
    ∷ (Size, has_size (fields f))
    ∷ (Layout, has_layout (fields f) len)
    ∷ (NilId, is_identified (fields f))
    ∷ []

-- the value, unless a condition failed
abbrev pub unless : {T : Type 0} → Option BadImage → T → Result T BadImage
unless None x = Ok x
unless (Some bad) x = Err bad

-- the header of a file of len bytes that begins with f, or the first condition on it that fails
unfoldable pub header_of : List ℕ → ℕ → Result Header BadImage
header_of f len = unless (first_that_fails (header_conditions f len)) (fields f)
