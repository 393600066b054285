use Rattle.std.proofs.Common.{◌≡◌, ◌++◌, length, count_by}
use Rattle.vbm_machines.specs.Slots.{has_image, renewed}
use Rattle.vbm_machines.proofs.slots.with_new_images.Given as goal

abbrev pub invariant-loop-rest : goal.invariant-loop-rest
invariant-loop-rest l =
    (l.all ++ renewed has_image l.numbers l.rest ≡ renewed has_image l.fresh l.slots) × (length l.numbers ≡ count_by has_image l.rest)

abbrev pub decreases-loop-rest : goal.decreases-loop-rest
decreases-loop-rest l = length l.rest
