use Rattle.std.proofs.Common.{sym, ap, ◌∙◌}
use Rattle.std.specs.Option.{option_copied}
use Rattle.vbm_named.specs.Names.{find_by}
use Rattle.vbm_image.specs.Image.{image_name}
use Rattle.vbm_media.proofs.Asks.{no_medium, shows_none, shows}
use Rattle.vbm_media.proofs.ask.answer_show.Goals as goal

pub returns-in_default-clause-refused : goal.returns-in_default-clause-refused
returns-in_default-clause-refused c files holds =
    shows_none c.args.store.now files c.args.name.now (sym c.find.ensures ∙ ap option_copied c.in_default.is)

pub returns-in_default-find-clause-refused : goal.returns-in_default-find-clause-refused
returns-in_default-find-clause-refused c files holds =
    let none = ap (find_by image_name c.args.name.now) (sym c.as_slice.ensures) ∙ sym c.find-2.ensures ∙ ap option_copied c.in_default-find.is in
    shows_none c.args.store.now files c.args.name.now (no_medium c.args.store.now files c.args.name.now holds none)

pub returns-clause-answer : goal.returns-clause-answer
returns-clause-answer c files holds =
    let image = ap (find_by image_name c.args.name.now) (sym c.as_slice.ensures) ∙ sym c.find-2.ensures ∙ ap option_copied c.in-Some-find.is in
    rw c.info.ensures (shows c.args.store.now files c.args.name.now c.in-Some.medium.now c.in-Some-find.image.now c.requires.sound holds
    (sym c.find.ensures ∙ ap option_copied c.in-Some.is) image)
