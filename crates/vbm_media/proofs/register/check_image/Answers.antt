use Rattle.std.proofs.Common.{sym, ◌∙◌}
use Rattle.vbm_media.proofs.Registers.{opens_refused}
use Rattle.vbm_media.proofs.register.check_image.Goals as goal

pub returns-in-Some-clause-refused : goal.returns-in-Some-clause-refused
returns-in-Some-clause-refused c files holds read =
    let image = c.args.image in
    opens_refused c.args.store.now files image.name holds c.requires.sound c.requires.name c.requires.free image
    read c.in-Some.refusal
    (sym c.image_refusal.ensures ∙ c.in-Some.is)
