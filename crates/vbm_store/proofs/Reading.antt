-- Files that are read as images.
use Rattle.std.proofs.Common.{◌≡◌, ℕ, List, Option, Some, None, Result}
use Rattle.std.specs.Option.{option_map}
use Rattle.vbm_header.specs.declared.Header.{Header}
use Rattle.vbm_header.specs.declared.BadImage.{BadImage}
use Rattle.vbm_volume.specs.Image.{image_of}
use Rattle.vbm_store.specs.Images.{IsRead}

-- what an opening says of a file
pub read_of : (file : Option (List ℕ)) (read : Result Header BadImage) → option_map image_of file ≡ Some read → IsRead file read
read_of None read is = absurd cc
read_of (Some f) read is = cc
