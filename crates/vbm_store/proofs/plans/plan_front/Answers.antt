use Rattle.std.proofs.Common.{◌-◌, ◌*◌, length, ap, arith}
use Rattle.vbm_intent.specs.declared.change.Change.TheVariants.{Write, Fill}
use Rattle.vbm_store.proofs.Pushing.{allowed, parts}
use Rattle.vbm_store.proofs.plans.plan_front.Goals as goal

pub push_write-requires-clause-allowed : goal.push_write-requires-clause-allowed
push_write-requires-clause-allowed c =
    allowed (Write c.args.name.now 0 c.in_ok-bytes.bytes) c.requires.name
    (omega (arith, ap length c.in_ok-bytes.ensures), omega arith)

pub push_fill-requires-clause-allowed : goal.push_fill-requires-clause-allowed
push_fill-requires-clause-allowed c =
    let p = parts c.args.header.now c.requires.header in
    allowed (Fill c.args.name.now 472 (c.from-off_blocks.result - 472) 0) c.requires.name
    (omega (arith, p.front), omega (arith, p.off_blocks), omega arith)

pub push_fill-requires-2-clause-allowed : goal.push_fill-requires-2-clause-allowed
push_fill-requires-2-clause-allowed c =
    let p = parts c.args.header.now c.requires.header in
    allowed (Fill c.args.name.now c.from-off_blocks.result (4 * c.from-map_len.result) 255) c.requires.name
    (omega (arith, p.some), omega (arith, p.few), omega (arith, p.off_blocks))
