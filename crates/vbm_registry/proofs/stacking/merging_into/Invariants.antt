use Rattle.std.proofs.Common.{◌≡◌, length}
use Rattle.vbm_registry.specs.AtPlaces.{merging_at}
use Rattle.vbm_registry.proofs.stacking.merging_into.Given as goal

abbrev pub invariant-loop-rest : goal.invariant-loop-rest
invariant-loop-rest l = merging_at l.image l.rest ≡ merging_at l.image l.mergings

abbrev pub decreases-loop-rest : goal.decreases-loop-rest
decreases-loop-rest l = length l.rest
