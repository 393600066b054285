use Rattle.std.proofs.Common.{◌≡◌, ◌++◌, length}
use Rattle.vbm_world.specs.Slots.{put_slot}
use Rattle.vbm_world.proofs.slots.put_slot.Given as goal

abbrev pub invariant-loop-rest : goal.invariant-loop-rest
invariant-loop-rest l = l.all ++ put_slot l.slot l.rest ≡ put_slot l.slot l.slots

abbrev pub decreases-loop-rest : goal.decreases-loop-rest
decreases-loop-rest l = length l.rest

abbrev pub invariant-loop-rest-2 : goal.invariant-loop-rest-2
invariant-loop-rest-2 l = l.all ++ l.rest ≡ put_slot l.fn.slot l.slots

abbrev pub decreases-loop-rest-2 : goal.decreases-loop-rest-2
decreases-loop-rest-2 l = length l.rest
