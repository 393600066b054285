use Rattle.std.proofs.Common.{◌∷◌}
use Rattle.std.specs.Prelude.{codes}
use Rattle.vbm_world.specs.declared.command.Command.TheVariants.{Compact}
use Rattle.vbm_world.specs.Texts.{IsForm}
use Rattle.vbm_script.specs.Places.{IsPlace}
use Rattle.vbm_script.proofs.Forms.{passes}
use Rattle.vbm_script.proofs.Modifications.{no_compact, compacted_place}
use Rattle.vbm_script.proofs.modifying.compact.Goals as goal

pub returns-in_default : goal.returns-in_default
returns-in_default c = no_compact c.args.tail.now c.requires c.in_default.ensures

pub returns-in-Err : goal.returns-in-Err
returns-in-Err c =
    passes (IsPlace c.in-Some.word.now) (IsForm (codes "modifymedium" ∷ c.args.tail.now)) c.in-Err.fault
    (λ place is. (Compact place, record { is = cc (c.in-Some.ensures, is.is); spelled = is.spelled }))
    (compacted_place c.args.tail.now c.in-Some.word.now c.in-Some.ensures) c.in-Err.ensures
