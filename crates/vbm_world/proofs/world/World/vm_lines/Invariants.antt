use Rattle.std.proofs.Common.{◌≡◌, map, take}
use Rattle.vbm_world.specs.Machines.{vm_line}
use Rattle.vbm_world.proofs.world.World.vm_lines.Given as goal

abbrev pub invariant-loop-machine : goal.invariant-loop-machine
invariant-loop-machine l = l.lines ≡ map vm_line (take l.machine-index l.machine-items)
