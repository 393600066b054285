use Rattle.std.proofs.Common.{◌≡◌, ◌++◌, map, length}
use Rattle.std.specs.List.{AllByRecursion}
use Rattle.vbm_machines.specs.Renumbering.{place_after}
use Rattle.vbm_registry.specs.declared.library.Merging.{Merging}
use Rattle.vbm_registry.specs.Renumbered.{merging_moved, IsLowRef}
use Rattle.vbm_registry.proofs.renumbered.mergings_moved.Given as goal

abbrev pub invariant-loop-rest : goal.invariant-loop-rest
invariant-loop-rest l =
    (l.all ++ map (merging_moved (place_after l.renumbering)) l.rest ≡ map (merging_moved (place_after l.renumbering)) l.mergings)
    × AllByRecursion (λ (j : Merging). IsLowRef j.parent) l.rest

abbrev pub decreases-loop-rest : goal.decreases-loop-rest
decreases-loop-rest l = length l.rest
