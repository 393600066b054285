use Rattle.std.proofs.Common.{◌≡◌, ◌<◌, ◌≤◌, ◌+◌, length, count_by}
use Rattle.std.specs.List.{AllByRecursion}
use Rattle.vbm_machines.specs.declared.Slot.{Slot}
use Rattle.vbm_machines.specs.Slots.{resets_at_start}
use Rattle.vbm_machines.proofs.slots.resets_in.Given as goal

abbrev pub invariant-loop-rest : goal.invariant-loop-rest
invariant-loop-rest l =
    (l.count + count_by (resets_at_start l.modes) l.rest ≡ count_by (resets_at_start l.modes) l.slots) × (l.count + length l.rest ≤ length l.slots)
    × AllByRecursion (λ (s : Slot). s.medium < length l.modes) l.rest

abbrev pub decreases-loop-rest : goal.decreases-loop-rest
decreases-loop-rest l = length l.rest
