use Rattle.vbm_world.proofs.world.World.with_autoreset.Goals as goal

pub returns-clause-outcome : goal.returns-clause-outcome
returns-clause-outcome c = rw (c.in_ok-slots.ensures, c.as_slice.ensures) at c.with_slots_of.ensures.outcome
