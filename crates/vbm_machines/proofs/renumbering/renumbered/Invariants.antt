use Rattle.std.proofs.Common.{◌≡◌, map, take}
use Rattle.vbm_machines.specs.Renumbering.{machine_renumbered}
use Rattle.vbm_machines.proofs.renumbering.renumbered.Given as goal

abbrev pub invariant-loop-i : goal.invariant-loop-i
invariant-loop-i l = l.all ≡ map (machine_renumbered l.renumbering) (take l.i l.machines)
