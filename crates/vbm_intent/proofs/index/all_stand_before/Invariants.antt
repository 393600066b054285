use Rattle.std.proofs.Common.{◌∷◌, length}
use Rattle.vbm_intent.specs.Index.{StandsBefore}
use Rattle.vbm_intent.proofs.Members.{Chain}
use Rattle.vbm_intent.proofs.index.all_stand_before.Given as goal

abbrev pub invariant-loop-entry : goal.invariant-loop-entry
invariant-loop-entry l = Chain (StandsBefore l.body) (l.before ∷ l.rest) → Chain (StandsBefore l.body) l.index

abbrev pub decreases-loop-entry : goal.decreases-loop-entry
decreases-loop-entry l = length l.rest
