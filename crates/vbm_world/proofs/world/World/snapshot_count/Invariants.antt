use Rattle.std.proofs.Common.{◌≡◌, length, sum_by, take}
use Rattle.vbm_world.specs.declared.world.WorldMachine.{WorldMachine}
use Rattle.vbm_world.proofs.world.World.snapshot_count.Given as goal

abbrev pub invariant-loop-machine : goal.invariant-loop-machine
invariant-loop-machine l = l.count ≡ sum_by (λ (m : WorldMachine). length m.snapshots) (take l.machine-index l.machine-items)
