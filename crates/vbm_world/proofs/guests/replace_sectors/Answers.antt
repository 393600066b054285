use Rattle.std.proofs.lemmas.List.{get_or_default}
use Rattle.vbm_world.proofs.GuestDisks.{with_step}
use Rattle.vbm_world.proofs.guests.replace_sectors.Goals as goal

pub loop-i-preserved : goal.loop-i-preserved
loop-i-preserved c =
    with_step _ _ c.args.disk.now c.args.lba c.loop-i.i c.args.sectors.now _ c.set.ensures (get_or_default _ _ _ _ c.loop-i-test.true)
    c.loop-i.invariant c.loop-i-test.true c.requires
