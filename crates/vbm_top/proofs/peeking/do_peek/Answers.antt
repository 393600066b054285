use Rattle.std.proofs.Common.{map, sym, subst}
use Rattle.vbm_ports.specs.Counts.{IsCounted}
use Rattle.vbm_peek.specs.Peek.{peeked}
use Rattle.vbm_top.proofs.Peeks.{told_answer}
use Rattle.vbm_top.proofs.peeking.do_peek.Goals as goal

pub returns-clause-ends : goal.returns-clause-ends
returns-clause-ends g c =
    let told = told_answer g.D.Disk.tells c.peek_names-found.result (peeked (map (g.D.Disk.state c.args.disk.now).files c.args.names.now) c.args.lba)
    c.peek_names-found.ensures.exact in
    (told.0, told.1, c.write_found.ensures.ends told.0 told.2)

pub returns-clause-faults : goal.returns-clause-faults
returns-clause-faults g c =
    subst (λ failed. IsCounted failed (g.D.Disk.state c.args.disk.now).faults (g.D.Disk.state c.peek_names-found.new.disk).faults)
    (sym c.write_found.ensures.disk) c.peek_names-found.ensures.faults
