use Rattle.std.proofs.Common.{sym, subst}
use Rattle.vbm_intent.specs.Changes.{IsAllowed}
use Rattle.vbm_log_tests.proofs.PlanLemmas.{a_allowed, b_allowed}
use Rattle.vbm_log_tests.proofs.commits.plan_of_two.Goals as goal

pub push-requires-clause-allowed : goal.push-requires-clause-allowed
push-requires-clause-allowed c = subst IsAllowed (sym c.in_ok-write_a.ensures) a_allowed

pub push-requires-2-clause-allowed : goal.push-requires-2-clause-allowed
push-requires-2-clause-allowed c = subst IsAllowed (sym c.in_ok-remove_b.ensures) b_allowed
