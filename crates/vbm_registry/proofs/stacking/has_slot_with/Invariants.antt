use Rattle.std.proofs.Common.{◌≡◌, length}
use Rattle.vbm_registry.specs.AtPlaces.{has_slot_with}
use Rattle.vbm_registry.proofs.stacking.has_slot_with.Given as goal

abbrev pub invariant-loop-rest : goal.invariant-loop-rest
invariant-loop-rest l = has_slot_with l.port l.medium l.rest ≡ has_slot_with l.port l.medium l.slots

abbrev pub decreases-loop-rest : goal.decreases-loop-rest
decreases-loop-rest l = length l.rest
