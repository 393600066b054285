use Rattle.std.proofs.Common.{arith}
use Rattle.vbm_world.proofs.GuestDisks.{sectors_more}
use Rattle.vbm_world.proofs.guests.sectors_in.Goals as goal

pub loop-i-preserved : goal.loop-i-preserved
loop-i-preserved c =
    sectors_more c.args.bytes.now c.loop-i.i _ _ _ _ c.in_ok-push.ensures.ok c.loop-i.invariant c.copy_from_slice.ensures.after (omega arith)
