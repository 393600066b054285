use Rattle.std.proofs.Common.{◌≡◌, length}
use Rattle.std.specs.List.{list_all}
use Rattle.vbm_registry.specs.Tallies.{times}
use Rattle.vbm_registry.specs.AtPlaces.{is_inner_held_once}
use Rattle.vbm_registry.proofs.places.are_inners_held_once.Given as goal

abbrev pub invariant-loop-rest : goal.invariant-loop-rest
invariant-loop-rest l =
    list_all (is_inner_held_once (times l.held) l.mergings) l.rest
    ≡ list_all (is_inner_held_once (times l.held) l.mergings) l.inners

abbrev pub decreases-loop-rest : goal.decreases-loop-rest
decreases-loop-rest l = length l.rest
