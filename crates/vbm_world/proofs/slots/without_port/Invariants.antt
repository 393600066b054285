use Rattle.std.proofs.Common.{◌≡◌, take}
use Rattle.vbm_world.specs.Slots.{without_port}
use Rattle.vbm_world.proofs.slots.without_port.Given as goal

abbrev pub invariant-loop-slot : goal.invariant-loop-slot
invariant-loop-slot l = l.all ≡ without_port l.port (take l.slot-index l.slots)
