-- Files that were opened one after another.
use Rattle.std.specs.Prelude.{◌≡◌, ℕ, ◌<◌, Bool, true, false, List, [], ◌∷◌, ◌++◌, length, map, slice_get, All, Option, Some, None, Result, Ok, Err}
use Rattle.std.specs.Option.{option_map}
use Rattle.vbm_ports.specs.Files.{Files}
use Rattle.vbm_volume.specs.Image.{image_of}
use Rattle.vbm_volume.specs.Chain.{Link}
use Rattle.vbm_image.specs.declared.image.Image.{Image}
use Rattle.vbm_image.specs.declared.opening.OpenFault.{OpenFault}
use Rattle.vbm_image.specs.declared.opening.OpenFault.TheVariants.{Missing, Bad, Failed, NoMemory}
use Rattle.vbm_image.specs.Image.{file_in, IsInForm, FitsIn}
use Rattle.vbm_image.specs.Opened.{IsFresh}
use Rattle.vbm_chain.specs.Settled.{chain_images}
use Rattle.vbm_peek.specs.declared.opening.OpenedFiles.{OpenedFiles}

-- the image of each file
abbrev pub opened_images : OpenedFiles → List Image
opened_images opened = chain_images opened.images.items opened.chain.items

-- the name of each file
abbrev pub opened_names : OpenedFiles → List (List ℕ)
opened_names opened = map (λ image. image.name) (opened_images opened)

-- images with their files
abbrev pub image_links : Files → List Image → List Link
image_links files images = map (λ image. (file_in files image, image.header)) images

-- the files with their headers
abbrev pub opened_links : Files → OpenedFiles → List Link
opened_links files opened = image_links files (opened_images opened)

-- What holds of opened files whatever the disk holds: each has an image and its header, and nothing of an image is staged.
pub record AreOpened (opened : OpenedFiles) : Type 0 where
  pub numbers : All (λ k. k < length opened.images.items) opened.chain.items
  pub headers : opened.headers.items ≡ map (λ image. image.header) (opened_images opened)
  pub fresh : All IsFresh opened.images.items
  pub form : All IsInForm opened.images.items

-- an image that is the one of its file
abbrev pub IsImageOf : Files → Image → Type 0
IsImageOf files image = option_map image_of (files image.name) ≡ Some (Ok image.header)

-- the images are those of their files
pub record AreOpenedFrom (files : Files) (opened : OpenedFiles) : Type 0 where
  pub images : All (IsImageOf files) opened.images.items
  pub fits : All (FitsIn files) opened.images.items

-- One more file, with its image; `more` are the images that came with it.
pub record AddsFile (old new : OpenedFiles) (more : List Image) (image : Image) : Type 0 where
  pub images : new.images.items ≡ old.images.items ++ more
  pub number : ℕ
  pub at : slice_get new.images.items number ≡ Some image
  pub chain : new.chain.items ≡ old.chain.items ++ number ∷ []
  pub headers : new.headers.items ≡ old.headers.items ++ image.header ∷ []

-- why a file was not opened, where that tells what it is
abbrev pub IsFaultOf : Option (List ℕ) → OpenFault → Type 0
IsFaultOf file Missing = file ≡ None
IsFaultOf file (Bad k) = option_map image_of file ≡ Some (Err k)
IsFaultOf file Failed = Unit {0}
IsFaultOf file NoMemory = Unit {0}

-- the disk failed
abbrev pub open_failed : Result (Unit {0}) OpenFault → Bool
open_failed (Ok done) = false
open_failed (Err Missing) = false
open_failed (Err (Bad k)) = false
open_failed (Err Failed) = true
open_failed (Err NoMemory) = false
