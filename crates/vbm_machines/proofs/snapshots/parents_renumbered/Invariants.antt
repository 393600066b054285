use Rattle.std.proofs.Common.{◌≡◌, take}
use Rattle.vbm_machines.specs.Snapshots.{parents_renumbered}
use Rattle.vbm_machines.proofs.snapshots.parents_renumbered.Given as goal

abbrev pub invariant-loop-i : goal.invariant-loop-i
invariant-loop-i l = l.all ≡ parents_renumbered l.renumbering l.heir (take l.i l.snapshots)
