use Rattle.std.proofs.Common.{◌≡◌, map, take}
use Rattle.vbm_world.specs.World.{medium_name}
use Rattle.vbm_world.proofs.world.World.media_names.Given as goal

abbrev pub invariant-loop-medium : goal.invariant-loop-medium
invariant-loop-medium l = l.names ≡ map medium_name (take l.medium-index l.medium-items)
