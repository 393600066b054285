use Rattle.std.proofs.Common.{◌≡◌, length, sum_by, take}
use Rattle.vbm_world.specs.declared.world.WorldSnapshot.{WorldSnapshot}
use Rattle.vbm_world.proofs.world.WorldMachine.place_count.Given as goal

abbrev pub invariant-loop-snapshot : goal.invariant-loop-snapshot
invariant-loop-snapshot l = l.count ≡ sum_by (λ (s : WorldSnapshot). length s.slots) (take l.snapshot-index l.snapshot-items)
