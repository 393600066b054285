use Rattle.std.proofs.Common.{◌≡◌, ◌++◌, map, take}
use Rattle.vbm_world.specs.Texts.{spaced, snapshot_word}
use Rattle.vbm_script.proofs.answers.put_snapshots.Given as goal

abbrev pub invariant-loop-snapshot : goal.invariant-loop-snapshot
invariant-loop-snapshot l = l.line.items ≡ l.fn.line.items ++ spaced (map snapshot_word (take l.snapshot-index l.snapshots))
