use Rattle.vbm_world.specs.World.{medium_name}
use Rattle.vbm_named.proofs.Lists.{put_without}
use Rattle.vbm_world.proofs.Stepping.{ok_is}
use Rattle.vbm_world.proofs.world.World.changed_media.Goals as goal

pub returns : goal.returns
returns c = ok_is c.with.result _ _ c.with.ensures
    (rw (c.as_slice-2.ensures, c.in_ok-others.ensures, c.bytes.ensures, c.as_slice.ensures)
    (put_without medium_name c.args.medium c.args.self.now.media c.requires.order c.requires.known))
