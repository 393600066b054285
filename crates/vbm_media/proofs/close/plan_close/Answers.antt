use Rattle.vbm_media.proofs.Closes.{closed_writable, images_less, closes}
use Rattle.vbm_media.proofs.close.plan_close.Goals as goal

pub returns-clause-plans : goal.returns-clause-plans
returns-clause-plans c files holds =
    closes c.args.store.now files c.args.name.now c.args.delete holds c.requires.sound c.requires.can c.in_ok-library.library c.in_ok-library.name
    c.in_ok-library.plan.changes c.in_ok-library.ensures.library c.in_ok-library.ensures.name c.in_ok-library.ensures.plan

pub returns-clause-sound : goal.returns-clause-sound
returns-clause-sound c =
    let e = c.args.store.now in
    rw (c.in_ok-library.ensures.library, c.in_ok-library.ensures.name) (
      closed_writable e.library c.args.name.now c.requires.sound.library c.requires.can,
      images_less e c.args.name.now c.requires.sound c.requires.can,
      tt,
    )
