use Rattle.std.proofs.Common.{◌≡◌, map, take}
use Rattle.vbm_world.specs.Snapshots.{snapshot_line}
use Rattle.vbm_world.proofs.world.WorldMachine.snapshot_lines.Given as goal

abbrev pub invariant-loop-snapshot : goal.invariant-loop-snapshot
invariant-loop-snapshot l = l.lines ≡ map snapshot_line (take l.snapshot-index l.snapshot-items)
