use Rattle.std.proofs.Common.{◌≡◌, take}
use Rattle.vbm_machines.specs.Slots.{slots_but}
use Rattle.vbm_machines.proofs.slots.slots_but.Given as goal

abbrev pub invariant-loop-slot : goal.invariant-loop-slot
invariant-loop-slot l = l.all ≡ slots_but l.port (take l.slot-index l.slots)
