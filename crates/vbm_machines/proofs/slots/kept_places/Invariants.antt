use Rattle.std.proofs.Common.{◌≡◌, ◌<◌, ◌++◌, map, length}
use Rattle.std.specs.List.{AllByRecursion}
use Rattle.vbm_machines.specs.declared.Slot.{Slot}
use Rattle.vbm_machines.specs.Slots.{kept_place}
use Rattle.vbm_machines.proofs.slots.kept_places.Given as goal

abbrev pub invariant-loop-rest : goal.invariant-loop-rest
invariant-loop-rest l =
    (l.all ++ map (kept_place l.modes) l.rest ≡ map (kept_place l.modes) l.slots) × AllByRecursion (λ (s : Slot). s.medium < length l.modes) l.rest

abbrev pub decreases-loop-rest : goal.decreases-loop-rest
decreases-loop-rest l = length l.rest
