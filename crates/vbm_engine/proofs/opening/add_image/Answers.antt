use Rattle.std.proofs.Common.{sym, subst}
use Rattle.std.specs.List.{AllByRecursion}
use Rattle.std.proofs.lemmas.Result.{on_ok_weaker}
use Rattle.vbm_named.proofs.Lists.{All-push}
use Rattle.vbm_store.specs.Edits.{IsNewImage}
use Rattle.vbm_engine.proofs.Openings.{image_behind}
use Rattle.vbm_engine.proofs.opening.add_image.Goals as goal

pub returns-clause-told : goal.returns-clause-told
returns-clause-told g c = λ told.
    let opened = c.in_ok-image.ensures.told told in
    image_behind c.args.library.now (g.D.Disk.state c.args.disk.now).files c.args.images.now c.push_image.new.images c.args.medium.now
    c.in_ok-image.image opened.0 opened.1 c.push_image.result c.push_image.ensures.told

pub returns-clause-new : goal.returns-clause-new
returns-clause-new g c =
    on_ok_weaker c.push_image.result
    (λ pushed all. subst (AllByRecursion IsNewImage) (sym pushed) (All-push IsNewImage c.args.images.now c.in_ok-image.image all c.in_ok-image.ensures.new))
    c.push_image.ensures.pushed
