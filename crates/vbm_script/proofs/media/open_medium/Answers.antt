use Rattle.std.proofs.Common.{◌∷◌, ap}
use Rattle.std.specs.Prelude.{codes}
use Rattle.vbm_world.specs.declared.command.Command.TheVariants.{OpenMedium}
use Rattle.vbm_world.specs.Texts.{IsForm}
use Rattle.vbm_script.proofs.Forms.{wanting}
use Rattle.vbm_script.proofs.media.open_medium.Goals as goal

pub returns-in_err-copy : goal.returns-in_err-copy
returns-in_err-copy c =
    wanting (IsForm (codes "openmedium" ∷ c.args.tail.now)) (OpenMedium c.in-Some.name.now) c.in_err-copy.field-0.0 c.from_residual.result
    (record { is = ap (λ tail. codes "openmedium" ∷ tail) c.in-Some.ensures.0; spelled = c.in-Some.ensures.1 })
    c.in_err-copy.ensures c.from_residual.ensures.1
