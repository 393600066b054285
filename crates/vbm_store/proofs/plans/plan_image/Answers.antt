use Rattle.std.proofs.Common.{arith}
use Rattle.vbm_intent.specs.declared.change.Change.TheVariants.{Cut}
use Rattle.vbm_store.proofs.Pushing.{allowed}
use Rattle.vbm_store.proofs.plans.plan_image.Goals as goal

pub push_cut-requires-clause-allowed : goal.push_cut-requires-clause-allowed
push_cut-requires-clause-allowed c = allowed (Cut c.args.name.now c.from.result) c.requires.name (omega arith)
