use Rattle.std.proofs.Common.{refl}
use Rattle.vbm_world.proofs.Stepping.{ok_is}
use Rattle.vbm_world.proofs.world.World.with_slots_of.Goals as goal

pub returns-clause-outcome : goal.returns-clause-outcome
returns-clause-outcome c = ok_is c.with_machine.result _ _ c.with_machine.ensures (rw c.in_ok-machine.ensures refl)
