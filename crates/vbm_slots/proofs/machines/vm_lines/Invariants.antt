use Rattle.std.proofs.Common.{◌≡◌, map, take}
use Rattle.vbm_slots.specs.Machines.{line_of}
use Rattle.vbm_slots.proofs.machines.vm_lines.Given as goal

abbrev pub invariant-loop-machine : goal.invariant-loop-machine
invariant-loop-machine l = l.lines ≡ map line_of (take l.machine-index l.machine-items)
