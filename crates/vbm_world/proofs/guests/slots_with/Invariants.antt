use Rattle.std.proofs.Common.{◌≡◌, take, Some}
use Rattle.vbm_world.specs.declared.world.WorldSlot.{WorldSlot}
use Rattle.vbm_world.specs.Places.{with_slot}
use Rattle.vbm_world.proofs.guests.slots_with.Given as goal

abbrev pub invariant-loop-slot : goal.invariant-loop-slot
invariant-loop-slot l = l.all ≡ with_slot l.port (λ (t : WorldSlot). record t { own = Some l.disk }) (take l.slot-index l.slots)
