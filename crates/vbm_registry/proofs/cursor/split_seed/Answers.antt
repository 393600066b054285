use Rattle.std.proofs.Common.{arith}
use Rattle.vbm_registry.proofs.Bytes.{seed_taken}
use Rattle.vbm_registry.proofs.cursor.split_seed.Goals as goal

pub returns-in-Some : goal.returns-in-Some
returns-in-Some c =
    let is = c.in-Some.ensures.cases in
    seed_taken c.args.bytes.now c.in-Some.front.now c.in-Some.rest.now (λ i. omega (arith, c.type_inv.bytes i)) (omega (arith, is.2)) is.0 is.1
