use Rattle.std.proofs.Common.{◌≡◌, length}
use Rattle.vbm_registry.specs.Summaries.{HasEnds}
use Rattle.vbm_registry.proofs.parents.own_ends.Given as goal

abbrev pub invariant-loop-i : goal.invariant-loop-i
invariant-loop-i l = (length l.ends.items ≡ l.i) × HasEnds (λ place. place) l.ends.items
