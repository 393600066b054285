use Rattle.std.proofs.Common.{◌≡◌, ◌++◌, not, length}
use Rattle.std.specs.Prelude.{◌==◌, filter}
use Rattle.vbm_registry.specs.declared.library.Inner.{Inner}
use Rattle.vbm_registry.proofs.edits.inners_without.Given as goal

abbrev pub invariant-loop-rest : goal.invariant-loop-rest
invariant-loop-rest l =
    l.all ++ filter (λ (x : Inner). not (x.number == l.number)) l.rest ≡ filter (λ (x : Inner). not (x.number == l.number)) l.inners

abbrev pub decreases-loop-rest : goal.decreases-loop-rest
decreases-loop-rest l = length l.rest
