-- Bytes in hexadecimal digits.
use Rattle.std.specs.Prelude.{◌≡◌, ℕ, ◌<◌, List, length}
use Rattle.hex.specs.Hex.{encode_lower, IsBytes}

-- a word spells bytes, at least one, each in two lower-case hexadecimal digits
pub record SpellsBytes (word bytes : List ℕ) : Type 0 where
  pub spelled : encode_lower bytes ≡ word
  pub some : 0 < length bytes
  pub fit : IsBytes bytes
