use Rattle.std.proofs.Common.{◌≡◌}
use Rattle.vbm_log_tests.specs.Plans.{a_bytes}
use Rattle.vbm_log_tests.proofs.limits.plan_of_bytes.Given as goal

abbrev pub invariant-loop-at : goal.invariant-loop-at
invariant-loop-at l = l.plan.changes ≡ a_bytes 0 l.at
