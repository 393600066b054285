use Rattle.std.proofs.Common.{◌≡◌, take}
use Rattle.vbm_world.specs.declared.world.WorldSlot.{WorldSlot}
use Rattle.vbm_world.specs.Places.{with_slot}
use Rattle.vbm_world.proofs.slots.set_slots.Given as goal

abbrev pub invariant-loop-slot : goal.invariant-loop-slot
invariant-loop-slot l = l.all ≡ with_slot l.port (λ (slot : WorldSlot). record slot { autoreset = l.on }) (take l.slot-index l.slots)
