use Rattle.std.proofs.Common.{◌≡◌, length}
use Rattle.vbm_machines_tests.proofs.trials.numbers.Given as goal

abbrev pub invariant-loop-i : goal.invariant-loop-i
invariant-loop-i l = length l.fresh.items ≡ l.i
