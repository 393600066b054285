use Rattle.std.proofs.Common.{◌+◌, ◌-◌, ◌*◌, arith}
use Rattle.vbm_intent.specs.declared.change.Change.TheVariants.{Fill}
use Rattle.vbm_store.proofs.Pushing.{allowed, parts}
use Rattle.vbm_store.proofs.plans.plan_gap.Goals as goal

pub push_fill-requires-clause-allowed : goal.push_fill-requires-clause-allowed
push_fill-requires-clause-allowed c =
    let p = parts c.args.header.now c.requires.header in
    let end = c.from.result + 4 * c.from-2.result in
    allowed (Fill c.args.name.now end (c.from-off_data.result - end) 0) c.requires.name
    (omega arith, omega (arith, p.gap), omega (arith, p.few, p.off_blocks))
