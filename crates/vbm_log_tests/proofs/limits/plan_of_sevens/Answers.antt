use Rattle.std.proofs.Common.{sym, subst}
use Rattle.vbm_intent.specs.Changes.{IsAllowed}
use Rattle.vbm_log_tests.proofs.PlanLemmas.{a_sevens_allowed}
use Rattle.vbm_log_tests.proofs.limits.plan_of_sevens.Goals as goal

pub push-requires-clause-allowed : goal.push-requires-clause-allowed
push-requires-clause-allowed c = subst IsAllowed (sym c.in_ok-write_sevens.ensures) (a_sevens_allowed c.args.len c.requires.some)
