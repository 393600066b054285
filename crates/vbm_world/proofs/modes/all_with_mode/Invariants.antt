use Rattle.std.proofs.Common.{◌≡◌, take}
use Rattle.vbm_named.specs.Names.{change_by}
use Rattle.vbm_world.specs.declared.world.WorldMedium.{WorldMedium}
use Rattle.vbm_world.specs.World.{medium_name}
use Rattle.vbm_world.proofs.modes.all_with_mode.Given as goal

abbrev pub invariant-loop-medium : goal.invariant-loop-medium
invariant-loop-medium l = l.all ≡ change_by medium_name l.name (λ (m : WorldMedium). record m { mode = l.mode }) (take l.medium-index l.media)
