-- The files of a chain of images, as they are once the staged entries are settled.
use Rattle.std.specs.Prelude.{◌≡◌, ℕ, ◌+◌, ◌-◌, ◌*◌, ◌/◌, ◌<◌, List, map, slice_get}
use Rattle.std.specs.List.{filter_map}
use Rattle.vbm_ports.specs.Files.{Files, piece}
use Rattle.vbm_volume.specs.Chain.{Link}
use Rattle.vbm_image.specs.declared.image.Image.{Image}
use Rattle.vbm_image.specs.Image.{file_in}
use Rattle.vbm_image.specs.Settling.{settled}

-- the images of a chain, by their numbers among all images
abbrev pub chain_images : List Image → List ℕ → List Image
chain_images images chain = filter_map (λ k. slice_get images k) chain

-- the file of an image with its staged entries settled, and the image's header
abbrev pub settled_link : Files → Image → Link
settled_link files image = (settled image.header image.pending.staged (file_in files image), image.header)

-- those of a chain
abbrev pub settled_links : Files → List Image → List ℕ → List Link
settled_links files images chain = map (λ image. settled_link files image) (chain_images images chain)

-- bytes that hold n sectors, from the sector `first` on
abbrev pub HoldSectors : (ℕ → List ℕ) → ℕ → ℕ → List ℕ → Type 0
HoldSectors sector first n bytes = (k : ℕ) → k < n → piece bytes (k * 512) 512 ≡ sector (first + k)

-- in how many blocks n sectors lie, from the sector `first` on
abbrev pub block_count : ℕ → ℕ → ℕ
block_count first n = (first + n + 2047) / 2048 - first / 2048
