use Rattle.std.proofs.Common.{◌∷◌}
use Rattle.std.specs.Prelude.{codes}
use Rattle.hex.specs.Hex.{encode_lower}
use Rattle.vbm_world.specs.declared.command.Command.TheVariants.{Write}
use Rattle.vbm_world.specs.Texts.{IsForm}
use Rattle.vbm_world.proofs.Verbs.{writes, none_of_verb}
use Rattle.vbm_script.specs.Guests.{SpellsSectors}
use Rattle.vbm_script.proofs.Forms.{passes, wanting}
use Rattle.vbm_script.proofs.Writes.{write_form, written_bytes, written_word}
use Rattle.vbm_script.proofs.writing.write.Goals as goal

pub returns-in_default : goal.returns-in_default
returns-in_default c =
    none_of_verb writes c.args.tail.now (λ a form.
    c.in_default.ensures a.0 a.1 a.2 (encode_lower a.3) (written_word c.args.tail.now a.0 a.1 a.2 a.3 form))

pub returns-in_err-copy-in-Ok : goal.returns-in_err-copy-in-Ok
returns-in_err-copy-in-Ok c =
    wanting (IsForm (codes "write" ∷ c.args.tail.now)) (Write c.in-Some.vm.now c.in-Some.port c.in-Some.lba c.in-Ok.bytes)
    c.in_err-copy-in-Ok.field-0.0 c.from_residual.result
    (write_form c.args.tail.now c.in-Some.vm.now c.in-Some.port c.in-Some.lba c.in-Some.word.now c.in-Ok.bytes c.in-Some.ensures c.in-Ok.ensures)
    c.in_err-copy-in-Ok.ensures c.from_residual.ensures.1

pub returns-in-Err : goal.returns-in-Err
returns-in-Err c =
    passes (SpellsSectors c.in-Some.word.now) (IsForm (codes "write" ∷ c.args.tail.now)) c.in-Err.fault
    (λ bytes spells. (
      Write c.in-Some.vm.now c.in-Some.port c.in-Some.lba bytes,
      write_form c.args.tail.now c.in-Some.vm.now c.in-Some.port c.in-Some.lba c.in-Some.word.now bytes c.in-Some.ensures spells,
    ))
    (written_bytes c.args.tail.now c.in-Some.vm.now c.in-Some.port c.in-Some.lba c.in-Some.word.now c.in-Some.ensures) c.in-Err.ensures
