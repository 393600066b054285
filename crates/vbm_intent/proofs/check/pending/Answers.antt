use Rattle.std.proofs.Common.{arith}
use Rattle.vbm_intent.proofs.Wholes.{record_count}
use Rattle.vbm_intent.proofs.check.pending.Goals as goal

pub all_fit-requires-clause-few : goal.all_fit-requires-clause-few
all_fit-requires-clause-few g c = omega (arith, record_count c.args.text.now c.in-Some.changes c.in-Some.ensures, c.in-Some.ensures.count)
