-- Files that are read as images.
use Rattle.std.specs.Prelude.{◌≡◌, ℕ, List, Option, Some, None, Result}
use Rattle.vbm_header.specs.declared.Header.{Header}
use Rattle.vbm_header.specs.declared.BadImage.{BadImage}
use Rattle.vbm_volume.specs.Image.{image_of}

-- a file that is read as an image, or as none
abbrev pub IsRead : Option (List ℕ) → Result Header BadImage → Type 0
IsRead None read = ⊥
IsRead (Some f) read = image_of f ≡ read
