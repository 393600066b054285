use Rattle.std.proofs.Common.{◌≡◌, ◌++◌, length}
use Rattle.vbm_machines.specs.Slots.{slot_entered}
use Rattle.vbm_machines.proofs.slots.slot_entered.Given as goal

abbrev pub invariant-loop-rest : goal.invariant-loop-rest
invariant-loop-rest l = l.all ++ slot_entered l.slot l.rest ≡ slot_entered l.slot l.slots

abbrev pub decreases-loop-rest : goal.decreases-loop-rest
decreases-loop-rest l = length l.rest

abbrev pub invariant-loop-rest-2 : goal.invariant-loop-rest-2
invariant-loop-rest-2 l = l.all ++ l.rest ≡ slot_entered l.fn.slot l.slots

abbrev pub decreases-loop-rest-2 : goal.decreases-loop-rest-2
decreases-loop-rest-2 l = length l.rest
