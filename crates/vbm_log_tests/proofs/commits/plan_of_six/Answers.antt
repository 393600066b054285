use Rattle.std.proofs.Common.{sym, subst, arith}
use Rattle.vbm_intent.specs.Changes.{IsAllowed}
use Rattle.vbm_log_tests.proofs.PlanLemmas.{a_put_allowed, a_cut_allowed, b_zeros_allowed, c_nines_allowed, d_removed_allowed, e_made_allowed}
use Rattle.vbm_log_tests.proofs.commits.plan_of_six.Goals as goal

pub push-requires-clause-allowed : goal.push-requires-clause-allowed
push-requires-clause-allowed c = subst IsAllowed (sym c.in_ok-put_a.ensures) a_put_allowed

pub push-requires-2-clause-allowed : goal.push-requires-2-clause-allowed
push-requires-2-clause-allowed c = subst IsAllowed (sym c.in_ok-cut_a.ensures) (a_cut_allowed 5 (omega arith))

pub push-requires-3-clause-allowed : goal.push-requires-3-clause-allowed
push-requires-3-clause-allowed c = subst IsAllowed (sym c.in_ok-fill_b.ensures) b_zeros_allowed

pub push-requires-4-clause-allowed : goal.push-requires-4-clause-allowed
push-requires-4-clause-allowed c = subst IsAllowed (sym c.in_ok-fill_c.ensures) c_nines_allowed

pub push-requires-5-clause-allowed : goal.push-requires-5-clause-allowed
push-requires-5-clause-allowed c = subst IsAllowed (sym c.in_ok-remove_d.ensures) d_removed_allowed

pub push-requires-6-clause-allowed : goal.push-requires-6-clause-allowed
push-requires-6-clause-allowed c = subst IsAllowed (sym c.in_ok-make_e.ensures) e_made_allowed
