use Rattle.std.proofs.Common.{◌≡◌, length}
use Rattle.std.specs.List.{list_all}
use Rattle.vbm_registry.specs.Tallies.{images_seen}
use Rattle.vbm_registry.specs.AtPlaces.{is_passed_on}
use Rattle.vbm_registry.proofs.stacking.Images.are_passed_on.Given as goal

abbrev pub invariant-loop-rest : goal.invariant-loop-rest
invariant-loop-rest l =
    list_all (is_passed_on (images_seen l.self).media l.slots) l.rest
    ≡ list_all (is_passed_on (images_seen l.self).media l.slots) l.upper

abbrev pub decreases-loop-rest : goal.decreases-loop-rest
decreases-loop-rest l = length l.rest
