use Rattle.std.proofs.Common.{refl, sym, ◌∙◌}
use Rattle.vbm_world.specs.declared.command.PlaceName.TheVariants.{Medium}
use Rattle.vbm_script.specs.Places.{IsPlace}
use Rattle.vbm_script.proofs.Forms.{wanting}
use Rattle.vbm_script.proofs.places.place.Goals as goal

pub returns-in_err-copy : goal.returns-in_err-copy
returns-in_err-copy c =
    wanting (IsPlace c.args.word.now) (Medium c.args.word.now) c.in_err-copy.field-0.0 c.from_residual.result
    (record { is = refl; spelled = sym c.names_medium.ensures ∙ c.if-names_medium.true })
    c.in_err-copy.ensures c.from_residual.ensures.1
