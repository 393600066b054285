use Rattle.std.proofs.Common.{◌≡◌, ◌+◌, length}
use Rattle.vbm_registry.specs.Tallies.{slot_times, times}
use Rattle.vbm_registry.specs.AtPlaces.{is_medium_held_once, all_from}
use Rattle.vbm_registry.proofs.places.are_media_held_once.Given as goal

abbrev pub invariant-loop-rest : goal.invariant-loop-rest
invariant-loop-rest l =
    (all_from (is_medium_held_once (slot_times l.slots) (times l.children) l.mergings) l.place l.rest
    ≡ all_from (is_medium_held_once (slot_times l.slots) (times l.children) l.mergings) 0 l.media)
    × (l.place + length l.rest ≡ length l.media)

abbrev pub decreases-loop-rest : goal.decreases-loop-rest
decreases-loop-rest l = length l.rest
