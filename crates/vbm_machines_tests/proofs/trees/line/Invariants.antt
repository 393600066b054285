use Rattle.vbm_named.specs.Names.{Rises}
use Rattle.vbm_machines.specs.Snapshots.{name_of_snapshot}
use Rattle.vbm_machines_tests.proofs.trees.line.Given as goal

abbrev pub invariant-loop-i : goal.invariant-loop-i
invariant-loop-i g l = Rises name_of_snapshot l.snapshots
