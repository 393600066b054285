-- The settling of all staged entries.
use Rattle.std.specs.Prelude.{◌≡◌, ◌⊎◌, ℕ, ◌+◌, List, [], ◌∷◌, ◌++◌, length, Option, Some, None, slice_get}
use Rattle.vbm_ports.specs.Files.{Files}
use Rattle.vbm_ports.specs.Crash.{Only}
use Rattle.vbm_ports.specs.Disk.{DiskState, OnlyReads}
use Rattle.vbm_intent.specs.declared.change.Change.{Change}
use Rattle.vbm_intent.specs.Changes.{changed}
use Rattle.vbm_intent.specs.Log.{IsShutInAll, SameBesidesLog}
use Rattle.vbm_volume.specs.Chain.{chain_sector}
use Rattle.vbm_image.specs.declared.image.Image.{Image}
use Rattle.vbm_image.specs.Settling.{settling, TakesAsSettled}
use Rattle.vbm_chain.specs.Settled.{settled_links}

-- the changes that settle the staged entries of all images, one image after the other
abbrev pub settling_all : List Image → List Change
settling_all [] = []
settling_all (image ∷ images) = settling image.name image.header image.pending.staged ++ settling_all images

-- how many entries are staged
abbrev pub staged_in : List Image → ℕ
staged_in [] = 0
staged_in (image ∷ images) = length image.pending.staged + staged_in images

abbrev pub IsTakenAsSettled : Option Image → Option Image → Type 0
IsTakenAsSettled None None = Unit {0}
IsTakenAsSettled None (Some new) = ⊥
IsTakenAsSettled (Some old) None = ⊥
IsTakenAsSettled (Some old) (Some new) = TakesAsSettled old new

-- the same images, whose staged entries are taken as settled
abbrev pub AreTakenAsSettled : List Image → List Image → Type 0
AreTakenAsSettled images others = (k : ℕ) → IsTakenAsSettled (slice_get images k) (slice_get others k)

-- the images are as they were, or the staged entries of all are taken as settled
abbrev pub MayBeTaken : List Image → List Image → Type 0
MayBeTaken images others = (others ≡ images) ⊎ AreTakenAsSettled images others

-- Every chain has the sectors that it had.
abbrev pub ServesSame : Files → List Image → Files → List Image → Type 0
ServesSame files images now others =
    (chain : List ℕ) (i : ℕ) → chain_sector (settled_links now others chain) i ≡ chain_sector (settled_links files images chain) i

-- All staged entries are settled: the files have the changes, the log aside, and a crash leaves them with the log shut.
pub record Settled (images others : List Image) (files : Files) (new : DiskState) : Type 0 where
  pub images_taken : AreTakenAsSettled images others
  pub files_changed : SameBesidesLog new.files (changed (settling_all images) files)
  pub only : Only new.files new.may_leave
  pub shut : IsShutInAll new.may_leave

-- Nothing was done, or all staged entries were settled.
pub data MaySettle (images others : List Image) (old new : DiskState) : Type 0 where
  stayed : others ≡ images → OnlyReads (Unit {0}) old new → MaySettle images others old new
  settled : Settled images others old.files new → MaySettle images others old new
