use Rattle.vbm_intent.specs.Plan.{changes_of_record}
use Rattle.vbm_intent.proofs.Places.{Left}
use Rattle.vbm_intent.proofs.plan.place_in.Given as goal

abbrev pub invariant-loop-left : goal.invariant-loop-left
invariant-loop-left l = Left l.text (changes_of_record l.text) l.change l.left l.rest

abbrev pub decreases-loop-left : goal.decreases-loop-left
decreases-loop-left l = l.left
