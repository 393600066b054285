-- What a write needs before its first sector.
use Rattle.std.specs.Prelude.{◌≡◌, ℕ, ◌+◌, ◌*◌, ◌≤◌, ◌^◌, false, List, vec_len}
use Rattle.vbm_ports.specs.Files.{Files}
use Rattle.vbm_intent.specs.Plan.{PlanState}
use Rattle.vbm_image.specs.declared.image.Image.{Image}
use Rattle.vbm_guest.specs.declared.preparing.Prepared.{Prepared}
use Rattle.vbm_guest.specs.Runs.{OnLast}
use Rattle.vbm_guest.specs.Edited.{HasRoomToStage}
use Rattle.vbm_guest.specs.RunEntries.{are_placed, AreEntriesOf}
use Rattle.vbm_guest.specs.Flushing.{staged_in}

-- room for two more staged blocks of the last image, for the settling of them, and a buffer for a block
pub record HasRoomForTwo (images : List Image) (chain : List ℕ) (plan : PlanState) (size : ℕ) : Type 0 where
  pub staging : OnLast images chain (HasRoomToStage 2)
  pub settling : 200 * (staged_in images + 2) ≤ plan.spare
  pub buffer : size ≡ 2 ^ 20

-- The entries are those of the run, and there is room unless it is written in place.
pub record IsPreparedFor (tells : Type 0) (files : Files) (images : List Image) (chain : List ℕ) (lba n : ℕ) (plan : PlanState)
    (p : Prepared) : Type 0 where
  pub entries : OnLast images chain (λ image. AreEntriesOf tells files image lba n p.entries)
  pub room : are_placed p.entries ≡ false → HasRoomForTwo images chain plan (vec_len p.buf)
