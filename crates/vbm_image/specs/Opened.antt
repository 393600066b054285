-- What the opening of an image answers.
use Rattle.std.specs.Prelude.{◌≡◌, ℕ, Bool, true, false, List, [], Option, Some, None, Result, Ok, Err}
use Rattle.std.specs.Option.{option_map}
use Rattle.vbm_volume.specs.Image.{image_of}
use Rattle.vbm_image.specs.declared.image.Image.{Image}
use Rattle.vbm_image.specs.declared.opening.OpenFault.{OpenFault}
use Rattle.vbm_image.specs.declared.opening.OpenFault.TheVariants.{Missing, Bad, Failed, NoMemory}

-- The header is that of the file; a fault says what the file is, but for those of the disk and of memory.
abbrev pub IsOpenedFrom : Option (List ℕ) → Result Image OpenFault → Type 0
IsOpenedFrom file (Ok image) = option_map image_of file ≡ Some (Ok image.header)
IsOpenedFrom file (Err Missing) = file ≡ None
IsOpenedFrom file (Err (Bad k)) = option_map image_of file ≡ Some (Err k)
IsOpenedFrom file (Err Failed) = Unit {0}
IsOpenedFrom file (Err NoMemory) = Unit {0}

-- an image as it is opened: nothing is staged, and no position was looked up
pub record IsFresh (image : Image) : Type 0 where
  pub staged : image.pending.staged ≡ []
  pub used : image.used ≡ None

-- the disk failed
abbrev pub is_device_fault : Result Image OpenFault → Bool
is_device_fault (Ok image) = false
is_device_fault (Err Missing) = false
is_device_fault (Err (Bad k)) = false
is_device_fault (Err Failed) = true
is_device_fault (Err NoMemory) = false
