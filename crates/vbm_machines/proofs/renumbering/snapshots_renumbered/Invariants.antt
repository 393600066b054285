use Rattle.std.proofs.Common.{◌≡◌, map, take}
use Rattle.vbm_machines.specs.Renumbering.{snapshot_renumbered}
use Rattle.vbm_machines.proofs.renumbering.snapshots_renumbered.Given as goal

abbrev pub invariant-loop-i : goal.invariant-loop-i
invariant-loop-i l = l.all ≡ map (snapshot_renumbered l.renumbering) (take l.i l.snapshots)
