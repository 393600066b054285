use Rattle.std.proofs.Common.{◌≡◌, ◌++◌, map, length}
use Rattle.std.specs.List.{AllByRecursion}
use Rattle.vbm_machines.specs.Renumbering.{slot_renumbered, IsLow}
use Rattle.vbm_machines.proofs.renumbering.slots_renumbered.Given as goal

abbrev pub invariant-loop-rest : goal.invariant-loop-rest
invariant-loop-rest l =
    (l.all ++ map (slot_renumbered l.renumbering) l.rest ≡ map (slot_renumbered l.renumbering) l.slots) × AllByRecursion IsLow l.rest

abbrev pub decreases-loop-rest : goal.decreases-loop-rest
decreases-loop-rest l = length l.rest
