use Rattle.vbm_world.proofs.GuestDisks.{filled_more}
use Rattle.vbm_world.proofs.guests.filled.Goals as goal

pub loop-sector-preserved : goal.loop-sector-preserved
loop-sector-preserved c = filled_more c.loop-sector._sector _ _ _ c.in_ok-push.ensures.ok c.loop-sector.invariant
