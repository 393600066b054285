use Rattle.std.proofs.Common.{◌≡◌, drop}
use Rattle.vbm_world.specs.Clones.{files_of, disk_over}
use Rattle.vbm_world.specs.Seen.{seen}
use Rattle.vbm_world.proofs.world.World.disk_above.Given as goal

abbrev pub invariant-loop-name : goal.invariant-loop-name
invariant-loop-name l = disk_over l.flat (files_of (seen l.self) (drop l.name-index l.above))
    ≡ disk_over l.base.flat (files_of (seen l.self) l.above)
