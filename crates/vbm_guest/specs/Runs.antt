-- Runs of sectors of the disk of a chain, whose last image alone is written.
use Rattle.std.specs.Prelude.{◌≡◌, ◌≢◌, ℕ, ◌+◌, ◌-◌, ◌*◌, ◌<◌, ◌&&◌, nat_le, nat_lt, Bool, if◌then◌else◌, List, length, slice_index, slice_get, Some}
use Rattle.vbm_ports.specs.Files.{Files, piece}
use Rattle.vbm_volume.specs.Chain.{chain_sector}
use Rattle.vbm_image.specs.declared.image.Image.{Image}
use Rattle.vbm_chain.specs.Settled.{settled_links}

-- the n sectors from lba on
abbrev pub in_run : (lba n : ℕ) → ℕ → Bool
in_run lba n i = nat_le lba i && nat_lt i (lba + n)

-- sectors, of which those of a run have these bytes
abbrev pub with_run : (lba n : ℕ) → List ℕ → (ℕ → List ℕ) → ℕ → List ℕ
with_run lba n bytes sector i = if in_run lba n i then piece bytes ((i - lba) * 512) 512 else sector i

-- the number of the last image of a chain among all images
abbrev pub last_of : List ℕ → ℕ
last_of chain = slice_index chain (length chain - 1)

-- a chain has an image, and its last one stands nowhere else in it
pub record EndsOnce (chain : List ℕ) : Type 0 where
  pub some : 0 < length chain
  pub once : (k : ℕ) → k < length chain - 1 → slice_index chain k ≢ last_of chain

-- the last image of a chain has P
abbrev pub OnLast : List Image → List ℕ → (Image → Type 0) → Type 0
OnLast images chain P = (image : Image) → slice_get images (last_of chain) ≡ Some image → P image

-- The chain has the sectors that it had, but for those of the run, which have these bytes.
abbrev pub ReplacesRun : List ℕ → Files → List Image → Files → List Image → (lba n : ℕ) → List ℕ → Type 0
ReplacesRun chain files images now others lba n bytes = (i : ℕ)
    → chain_sector (settled_links now others chain) i ≡ with_run lba n bytes (chain_sector (settled_links files images chain)) i

-- A chain without this image has the sectors that it had.
abbrev pub KeepsOtherChains : ℕ → Files → List Image → Files → List Image → Type 0
KeepsOtherChains image files images now others =
    (chain : List ℕ) → ((k : ℕ) → k < length chain → slice_index chain k ≢ image) → (i : ℕ)
    → chain_sector (settled_links now others chain) i ≡ chain_sector (settled_links files images chain) i
