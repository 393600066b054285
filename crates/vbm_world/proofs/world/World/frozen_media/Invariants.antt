use Rattle.std.proofs.Common.{◌≡◌, map, take}
use Rattle.vbm_world.specs.Snapshots.{unless_frozen}
use Rattle.vbm_world.proofs.world.World.frozen_media.Given as goal

abbrev pub invariant-loop-medium : goal.invariant-loop-medium
invariant-loop-medium l = l.media ≡ map (unless_frozen l.self.machines) (take l.medium-index l.medium-items)
