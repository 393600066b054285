use Rattle.std.proofs.Common.{◌≡◌, map, take}
use Rattle.vbm_world.specs.Snapshots.{medium_after}
use Rattle.vbm_world.specs.Seen.{seen}
use Rattle.vbm_world.proofs.deleting.media_after.Given as goal

abbrev pub invariant-loop-medium : goal.invariant-loop-medium
invariant-loop-medium l = l.all ≡ map (medium_after (seen l.world) l.machine l.gone l.after) (take l.medium-index l.medium-items)
