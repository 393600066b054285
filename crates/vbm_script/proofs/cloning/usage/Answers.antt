use Rattle.std.proofs.Common.{◌∷◌}
use Rattle.std.specs.Prelude.{codes}
use Rattle.vbm_world.specs.declared.command.Command.TheVariants.{Usage}
use Rattle.vbm_world.specs.Texts.{IsForm}
use Rattle.vbm_script.specs.Places.{IsPlace}
use Rattle.vbm_script.proofs.Forms.{passes}
use Rattle.vbm_script.proofs.Clones.{counted_place}
use Rattle.vbm_script.proofs.cloning.usage.Goals as goal

pub returns-in-Err : goal.returns-in-Err
returns-in-Err c =
    passes (IsPlace c.in-Some.word.now) (IsForm (codes "usage" ∷ c.args.tail.now)) c.in-Err.fault
    (λ place is. (Usage place, record { is = cc (c.in-Some.ensures, is.is); spelled = is.spelled }))
    (counted_place c.args.tail.now c.in-Some.word.now c.in-Some.ensures) c.in-Err.ensures
