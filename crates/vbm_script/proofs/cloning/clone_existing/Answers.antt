use Rattle.std.proofs.Common.{◌∷◌, []}
use Rattle.std.specs.Prelude.{codes}
use Rattle.vbm_world.specs.declared.command.Command.TheVariants.{CloneExisting}
use Rattle.vbm_world.specs.Texts.{IsForm}
use Rattle.vbm_script.specs.Places.{IsPlace}
use Rattle.vbm_script.proofs.Forms.{passes, wanting}
use Rattle.vbm_script.proofs.Clones.{no_existing, copied_place}
use Rattle.vbm_script.proofs.cloning.clone_existing.Goals as goal

pub returns-in_default : goal.returns-in_default
returns-in_default c = no_existing c.args.tail.now c.requires c.in_default.ensures

pub returns-in_err-copy-in-Ok : goal.returns-in_err-copy-in-Ok
returns-in_err-copy-in-Ok c =
    wanting (IsForm (codes "clonemedium" ∷ c.args.tail.now)) (CloneExisting c.in-Ok.place c.in-Some.name.now) c.in_err-copy-in-Ok.field-0.0
    c.from_residual.result
    (record { is = cc (c.in-Some.ensures.0, c.in-Ok.ensures.is); spelled = (c.in-Ok.ensures.spelled, c.in-Some.ensures.1) })
    c.in_err-copy-in-Ok.ensures c.from_residual.ensures.1

pub returns-in-Err : goal.returns-in-Err
returns-in-Err c =
    passes (IsPlace c.in-Some.word.now) (IsForm (codes "clonemedium" ∷ c.args.tail.now)) c.in-Err.fault
    (λ place is. (
      CloneExisting place c.in-Some.name.now,
      record { is = cc (c.in-Some.ensures.0, is.is); spelled = (is.spelled, c.in-Some.ensures.1) },
    ))
    (copied_place c.args.tail.now c.in-Some.word.now (c.in-Some.name.now ∷ codes "--existing" ∷ []) c.in-Some.ensures.0) c.in-Err.ensures
