use Rattle.std.proofs.Common.{◌≡◌, length}
use Rattle.std.specs.List.{list_all}
use Rattle.vbm_registry.specs.Tallies.{images_seen}
use Rattle.vbm_registry.specs.AtPlaces.{is_slot_stacked}
use Rattle.vbm_registry.proofs.stacking.Images.are_stacked.Given as goal

abbrev pub invariant-loop-rest : goal.invariant-loop-rest
invariant-loop-rest l =
    list_all (is_slot_stacked (images_seen l.self) l.upper) l.rest
    ≡ list_all (is_slot_stacked (images_seen l.self) l.upper) l.slots

abbrev pub decreases-loop-rest : goal.decreases-loop-rest
decreases-loop-rest l = length l.rest
