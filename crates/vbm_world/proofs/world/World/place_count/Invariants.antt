use Rattle.std.proofs.Common.{◌≡◌, sum_by, take}
use Rattle.vbm_world.specs.Refusals.{places_of}
use Rattle.vbm_world.proofs.world.World.place_count.Given as goal

abbrev pub invariant-loop-machine : goal.invariant-loop-machine
invariant-loop-machine l = l.count ≡ sum_by places_of (take l.machine-index l.machine-items)
