-- The files of a store's images, and the disk that an image is read as, through its chain.
use Rattle.std.specs.Prelude.{ℕ, List, ◌++◌, map, codes}
use Rattle.vbm_ports.specs.Files.{Files, bytes_of}
use Rattle.vbm_ids.specs.declared.Kind.TheVariants.{Inner}
use Rattle.vbm_ids.specs.Identifier.{identifier_of}
use Rattle.vbm_world.specs.Texts.{id_text}
use Rattle.vbm_volume.specs.Sectors.{FlatDisk}
use Rattle.vbm_volume.specs.Chain.{Link, flat_down}
use Rattle.vbm_named.specs.Names.{Name}
use Rattle.vbm_registry.specs.Named.{ImageName, OfMedium, OfInner, NamedLibrary}
use Rattle.vbm_registry.specs.Chains.{chain_of}
use Rattle.vbm_standing.specs.Headers.{header_in}

-- the file of an inner image: its identifier in braces
unfoldable pub inner_file : (seed : List ℕ) → ℕ → Name
inner_file seed n = codes "{" ++ id_text (identifier_of seed Inner n) ++ codes "}.vdi"

abbrev pub image_file : (seed : List ℕ) → ImageName → Name
image_file seed (OfMedium name) = name
image_file seed (OfInner n) = inner_file seed n

abbrev pub link_in : Files → Name → Link
link_in files name = (bytes_of (files name), header_in files name)

abbrev pub links_in : (seed : List ℕ) → Files → List ImageName → List Link
links_in seed files images = map (λ image. link_in files (image_file seed image)) images

-- the disk of an image, read through its chain
unfoldable pub disk_by : NamedLibrary → Files → ImageName → FlatDisk
disk_by l files image = flat_down (links_in l.seed files (chain_of l.inners image))
