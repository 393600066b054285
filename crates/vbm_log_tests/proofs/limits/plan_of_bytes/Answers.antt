use Rattle.std.proofs.Common.{◌∙◌, sym, ap, subst, arith, length}
use Rattle.vbm_intent.specs.Changes.{IsAllowed}
use Rattle.vbm_log_tests.proofs.PlanLemmas.{a_byte_allowed}
use Rattle.vbm_log_tests.proofs.ByteWrites.{count, next_is, next_apart, next_small, fits}
use Rattle.vbm_log_tests.proofs.limits.plan_of_bytes.Goals as goal

pub push-requires-clause-allowed : goal.push-requires-clause-allowed
push-requires-clause-allowed c =
    subst IsAllowed (sym c.in_ok-write_byte.ensures) (a_byte_allowed c.loop-at.at (omega (arith, c.loop-at-test.true, c.requires)))

pub push-requires-clause-apart : goal.push-requires-clause-apart
push-requires-clause-apart c = next_apart _ _ c.loop-at.at c.loop-at.invariant c.in_ok-write_byte.ensures

pub push-requires-clause-small : goal.push-requires-clause-small
push-requires-clause-small c =
    next_small _ _ c.loop-at.at c.loop-at.invariant c.in_ok-write_byte.ensures (omega (arith, c.loop-at-test.true, c.requires))

pub push-requires-clause-few : goal.push-requires-clause-few
push-requires-clause-few c = omega (arith, c.loop-at-test.true, c.requires, ap (λ l. length l) c.loop-at.invariant, count 0 c.loop-at.at)

pub loop-at-preserved : goal.loop-at-preserved
loop-at-preserved c = c.in_ok-push.ensures.ok ∙ next_is _ _ c.loop-at.at c.loop-at.invariant c.in_ok-write_byte.ensures

pub returns : goal.returns
returns c = fits _ c.loop-at.at c.loop-at.invariant
