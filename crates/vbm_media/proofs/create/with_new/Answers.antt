use Rattle.std.proofs.Common.{refl}
use Rattle.vbm_media.proofs.create.with_new.Goals as goal

pub returns : goal.returns
returns c = rw (c.in_ok-made.ensures, c.in_ok-new.ensures) refl
