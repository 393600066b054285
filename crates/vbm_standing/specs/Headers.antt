-- What the files of images tell: the headers of accepted files, and files of the shelf. Of no meaning where a file is not accepted.
use Rattle.std.specs.Prelude.{ℕ, zero, suc, ◌/◌, if◌then◌else◌, List, [], ◌∷◌, ◌++◌, Option, Some, None, Result, Ok, Err}
use Rattle.vbm_ports.specs.Files.{Files, bytes_of}
use Rattle.vbm_header.specs.declared.BadImage.{BadImage}
use Rattle.vbm_header.specs.declared.Header.{Header}
use Rattle.vbm_header.specs.declared.ImageType.{ImageType}
use Rattle.vbm_header.specs.declared.ImageType.TheVariants.{Dynamic, Fixed, Differencing}
use Rattle.vbm_header.specs.Header.{condition_number, is_differencing, fields}
use Rattle.vbm_volume.specs.Image.{image_of, word_of, is_free}
use Rattle.vbm_volume.specs.Sectors.{sector_count, sector_by, flat_of_base}
use Rattle.vbm_volume.specs.declared.flat.Variant.{Variant}
use Rattle.vbm_volume.specs.declared.flat.Variant.TheVariants as variants
use Rattle.vbm_world.specs.declared.world.LinkFile.{LinkFile}
use Rattle.vbm_world.specs.declared.world.Shelved.{Shelved}
use Rattle.vbm_world.specs.declared.world.Shelved.TheVariants.{Volume, Link, Bad}
use Rattle.vbm_named.specs.Names.{Name}

-- the header of an accepted file
unfoldable pub header_in : Files → Name → Header
header_in files name = fields (bytes_of (files name))

abbrev pub variant_of : ImageType → Variant
variant_of Dynamic = variants.Standard
variant_of Fixed = variants.Fixed
variant_of Differencing = variants.Standard

-- the first n sectors of a differencing image, none where their block is free
unfoldable pub link_sectors : List ℕ → Header → ℕ → List (Option (List ℕ))
link_sectors f h zero = []
link_sectors f h (suc i) = link_sectors f h i ++ link_sector (word_of f h (i / 2048)) i ∷ [] where
  link_sector : ℕ → ℕ → Option (List ℕ)
  link_sector word i = if is_free word then None else Some (sector_by f h word i)

abbrev pub link_file : List ℕ → Header → LinkFile
link_file f h = record {
  id = h.id;
  modify = h.modify;
  link = h.link;
  parent_modify = h.parent_modify;
  capacity = h.capacity;
  sectors = link_sectors f h (sector_count h);
}

-- an accepted file of the shelf
abbrev pub shelved_image : List ℕ → Result Header BadImage → Shelved
shelved_image f (Err bad) = Bad (condition_number bad)
shelved_image f (Ok h) =
    if is_differencing h.image_type then Link (link_file f h)
    else Volume (record { id = h.id; modify = h.modify; variant = variant_of h.image_type; capacity = h.capacity; flat = flat_of_base f h })

unfoldable pub shelved_file : List ℕ → Shelved
shelved_file f = shelved_image f (image_of f)
