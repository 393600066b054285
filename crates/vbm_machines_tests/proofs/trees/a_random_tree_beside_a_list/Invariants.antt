use Rattle.vbm_machines.specs.Snapshots.{HasPlaces}
use Rattle.vbm_machines_tests.proofs.trees.a_random_tree_beside_a_list.Given as goal

abbrev pub invariant-loop-turn : goal.invariant-loop-turn
invariant-loop-turn g l = HasPlaces l.trial.machine
