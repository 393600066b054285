-- A write of a run to the disk of a chain, and the settling that may follow it.
use Rattle.std.specs.Prelude.{ℕ, List, All}
use Rattle.vbm_ports.specs.Files.{Files}
use Rattle.vbm_ports.specs.Crash.{Through}
use Rattle.vbm_ports.specs.Disk.{DiskState}
use Rattle.vbm_intent.specs.Changes.{changed}
use Rattle.vbm_intent.specs.Log.{RedoesTo}
use Rattle.vbm_volume.specs.Wrote.{Loosens, Wrote}
use Rattle.vbm_image.specs.declared.image.Image.{Image}
use Rattle.vbm_image.specs.Image.{file_in, FitsIn}
use Rattle.vbm_guest.specs.Runs.{in_run, last_of, OnLast, ReplacesRun}
use Rattle.vbm_guest.specs.Edited.{ChangesAt, StagesAtMost}
use Rattle.vbm_guest.specs.Flushing.{settling_all, MayBeTaken, Settled}

-- Of the images the one with this number may have two staged blocks more; then the staged entries of all may be taken as settled.
pub record AreWritten (at : ℕ) (images others : List Image) : Type 0 where
  pub between : List Image
  pub edited : ChangesAt (StagesAtMost 2) at images between
  pub taken : MayBeTaken between others

-- Of all files that of the chain's last image alone changed, and it is still that image but for the run's sectors.
abbrev pub LoosensRun : List ℕ → List Image → (lba n : ℕ) → Files → Files → Files → Type 0
LoosensRun chain images lba n files old new =
    OnLast images chain (λ image. Loosens image.name image.header (file_in files image) (in_run lba n) old new)

-- The like for a disk: its files, and what a crash leaves of them after a write and at each moment of it.
abbrev pub WroteRun : List ℕ → List Image → (lba n : ℕ) → DiskState → DiskState → Type 0
WroteRun chain images lba n old new =
    OnLast images chain (λ image. Wrote image.name image.header (file_in old.files image) (in_run lba n) old new)

-- The images and the files when the run is written and nothing is settled yet.
pub record RunWritten (chain : List ℕ) (images : List Image) (files : Files) (lba n : ℕ) (bytes : List ℕ)
    (between : List Image) (mid : Files) : Type 0 where
  pub edited : ChangesAt (StagesAtMost 2) (last_of chain) images between
  pub replaces : ReplacesRun chain files images mid between lba n bytes
  pub loosens : LoosensRun chain images lba n files files mid
  pub fits : All (FitsIn mid) between

-- A run was written; then, maybe, all staged entries were settled.
pub data WritesRun (chain : List ℕ) (images others : List Image) (lba n : ℕ) (bytes : List ℕ) (old new : DiskState) : Type 0 where
  staged : RunWritten chain images old.files lba n bytes others new.files → WroteRun chain images lba n old new
      → WritesRun chain images others lba n bytes old new
  settled : (between : List Image) (mid : Files) → RunWritten chain images old.files lba n bytes between mid
      → Settled between others mid new → WritesRun chain images others lba n bytes old new

-- Inside that: after redo, and but for the log, an image is one of the start but for the run's sectors, or the files with the run
-- and all staged entries settled.
pub data IsInWrite (chain : List ℕ) (images : List Image) (lba n : ℕ) (bytes : List ℕ) (old : DiskState) (image : Files) : Type 0 where
  loose : (start : Files) → Through (LoosensRun chain images lba n old.files) old.may_leave start → RedoesTo start image
      → IsInWrite chain images lba n bytes old image
  settled : (between : List Image) (mid : Files) → RunWritten chain images old.files lba n bytes between mid
      → RedoesTo (changed (settling_all between) mid) image → IsInWrite chain images lba n bytes old image
