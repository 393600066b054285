use Rattle.std.proofs.Common.{refl}
use Rattle.vbm_engine.proofs.Openings.{any_id}
use Rattle.vbm_engine.proofs.opening.push_image.Goals as goal

pub returns-then-has_id-clause-told : goal.returns-then-has_id-clause-told
returns-then-has_id-clause-told c = rw (← any_id c.args.image.header.id c.args.images.now, ← c.as_slice.ensures, ← c.has_id.ensures, c.if-has_id.true) refl

pub returns-in-Ok-clause-told : goal.returns-in-Ok-clause-told
returns-in-Ok-clause-told c =
    (rw (← any_id c.args.image.header.id c.args.images.now, ← c.as_slice.ensures, ← c.has_id.ensures, c.if-has_id.false) refl, c.in-Ok.ensures.ok)
