use Rattle.std.proofs.Common.{◌≡◌, length}
use Rattle.std.specs.List.{list_all}
use Rattle.vbm_registry.specs.Tallies.{images_seen, times}
use Rattle.vbm_registry.specs.AtPlaces.{is_merging_at}
use Rattle.vbm_registry.proofs.places.are_mergings.Given as goal

abbrev pub invariant-loop-rest : goal.invariant-loop-rest
invariant-loop-rest l =
    list_all (is_merging_at (images_seen l.images) l.inners (times l.held)) l.rest
    ≡ list_all (is_merging_at (images_seen l.images) l.inners (times l.held)) l.mergings

abbrev pub decreases-loop-rest : goal.decreases-loop-rest
decreases-loop-rest l = length l.rest
