use Rattle.std.specs.Prelude.{decimal}
use Rattle.vbm_script.proofs.modifying.resizing.Goals as goal

pub returns-in_default : goal.returns-in_default
returns-in_default c = λ name mb form. c.in_default.ensures name (decimal mb) (cc form.is)
