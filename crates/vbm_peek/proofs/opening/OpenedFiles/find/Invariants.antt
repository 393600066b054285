use Rattle.std.proofs.Common.{ℕ, ◌<◌, get_or}
use Rattle.std.specs.Prelude.{◌≢◌}
use Rattle.vbm_image.specs.declared.image.Image.{Image}
use Rattle.vbm_peek.proofs.opening.OpenedFiles.find.Given as goal

abbrev pub invariant-loop-number : goal.invariant-loop-number
invariant-loop-number l = (k : ℕ) (d : Image) → k < l.number → (get_or l.image-items k d).name ≢ l.name
