use Rattle.std.proofs.Common.{ℕ, List, ◌∷◌, length}
use Rattle.vbm_intent.specs.Index.{IsIn}
use Rattle.vbm_intent.proofs.Members.{Chain}
use Rattle.vbm_intent.proofs.Indexed.{InTurn}
use Rattle.vbm_intent.proofs.index.neighbours_apart.Given as goal

abbrev pub invariant-loop-entry : goal.invariant-loop-entry
invariant-loop-entry l = record {
  chain : Chain (InTurn l.body) (l.before ∷ l.rest) → Chain (InTurn l.body) l.index;
  within : (e : List ℕ) → IsIn (l.before ∷ l.rest) e → IsIn l.index e;
}

abbrev pub decreases-loop-entry : goal.decreases-loop-entry
decreases-loop-entry l = length l.rest
