use Rattle.std.proofs.Common.{sym}
use Rattle.vbm_world.specs.Seen.{seen}
use Rattle.vbm_world.proofs.Stepping.{ok_is}
use Rattle.vbm_world.proofs.GuestDisks.{written_direct}
use Rattle.vbm_world.proofs.world.World.written.Goals as goal

pub returns-in-None-clause-world : goal.returns-in-None-clause-world
returns-in-None-clause-world c = ok_is c.write_medium.result _ _ c.write_medium.ensures
    (sym (written_direct (seen c.args.self.now) c.args.machine.now c.args.slot.now c.args.medium.now c.args.disk c.in-None.is))
