use Rattle.std.proofs.Common.{◌≡◌, take}
use Rattle.vbm_named.specs.Names.{change_by}
use Rattle.vbm_world.specs.World.{medium_name}
use Rattle.vbm_world.proofs.world.World.written_media.Given as goal

abbrev pub invariant-loop-medium : goal.invariant-loop-medium
invariant-loop-medium l = l.media ≡ change_by medium_name l.new.name (λ _. l.new) (take l.medium-index l.medium-items)
