use Rattle.std.proofs.Common.{◌↔◌}
use Rattle.vbm_intent.proofs.Allowed.{HoldsAllowed}
use Rattle.vbm_intent.proofs.check.holds_allowed.Given as goal

abbrev pub invariant-loop-left : goal.invariant-loop-left
invariant-loop-left l = HoldsAllowed l.left l.rest ↔ HoldsAllowed l.count l.body

abbrev pub decreases-loop-left : goal.decreases-loop-left
decreases-loop-left l = l.left
