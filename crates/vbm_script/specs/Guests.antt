-- Words of the commands of guests.
use Rattle.std.specs.Prelude.{◌≡◌, ℕ, ◌^◌, ◌<◌, List, [], ◌∷◌, decimal}
use Rattle.hex.specs.Hex.{encode_lower}
use Rattle.vbm_lines.specs.Lines.{Words}
use Rattle.vbm_world.specs.Texts.{AreSectors, IsCount, IsPort, IsShort}

-- words that begin with a machine, a port and the number of a sector
pub record IsAtSector (words : Words) (vm : List ℕ) (port lba : ℕ) (rest : Words) : Type 0 where
  pub is : words ≡ vm ∷ decimal port ∷ decimal lba ∷ rest
  pub is_short : IsShort vm
  pub is_port : IsPort port
  pub fits : lba < 2 ^ 64

-- a word spells the bytes of sectors
pub record SpellsSectors (word bytes : List ℕ) : Type 0 where
  pub spelled : word ≡ encode_lower bytes
  pub are_sectors : AreSectors bytes

-- a word spells one byte
pub record SpellsByte (word : List ℕ) (byte : ℕ) : Type 0 where
  pub spelled : word ≡ encode_lower (byte ∷ [])
  pub fits : byte < 256

-- words that are a number of sectors and the byte that fills them
pub record IsFiller (words : Words) (count byte : ℕ) : Type 0 where
  pub is : words ≡ decimal count ∷ encode_lower (byte ∷ []) ∷ []
  pub is_count : IsCount count
  pub fits : byte < 256
