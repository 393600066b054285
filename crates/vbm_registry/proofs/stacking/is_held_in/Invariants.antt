use Rattle.std.proofs.Common.{◌≡◌, length}
use Rattle.vbm_registry.specs.AtPlaces.{has_holder}
use Rattle.vbm_registry.proofs.stacking.is_held_in.Given as goal

abbrev pub invariant-loop-rest : goal.invariant-loop-rest
invariant-loop-rest l = has_holder l.port l.image l.rest ≡ has_holder l.port l.image l.slots

abbrev pub decreases-loop-rest : goal.decreases-loop-rest
decreases-loop-rest l = length l.rest
