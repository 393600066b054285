-- Fields of a file, by their places in its bytes (VDI 1.1: all numbers are little-endian).
use Rattle.std.specs.Prelude.{ℕ, List, drop, take}
use Rattle.byteorder.specs.Endian.{little_number}
use Rattle.uuid.specs.Parts.{swap_fields}

-- the number in the bytes from an offset on, as many as its width
unfoldable pub number_at : List ℕ → ℕ → ℕ → ℕ
number_at f offset width = little_number width (drop offset f)

-- the UUID in the sixteen bytes from an offset on: its first three fields are little-endian, its last eight bytes in order
unfoldable pub uuid_at : List ℕ → ℕ → List ℕ
uuid_at f offset = swap_fields (take 16 (drop offset f))
