use Rattle.std.proofs.Common.{arith}
use Rattle.vbm_registry.proofs.machine_entries.read_snapshots.Goals as goal

pub returns-clause-places : goal.returns-clause-places
returns-clause-places c =
    let f = c.in_ok-list.ensures.follows in
    (omega (arith, f.used, c.in_ok-list.ensures.fixed), f.few)
