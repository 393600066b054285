use Rattle.std.proofs.Common.{◌≡◌, map, take}
use Rattle.vbm_world.specs.Snapshots.{adopted}
use Rattle.vbm_world.proofs.deleting.snapshots_after.Given as goal

abbrev pub invariant-loop-snapshot : goal.invariant-loop-snapshot
invariant-loop-snapshot l = l.after ≡ map (adopted l.gone) (take l.snapshot-index l.snapshot-items)
