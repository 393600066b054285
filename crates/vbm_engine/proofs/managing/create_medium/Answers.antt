use Rattle.std.proofs.lemmas.Result.{err_from_is_err_and}
use Rattle.vbm_ports.proofs.States.{OnlyReads-trans}
use Rattle.vbm_engine.proofs.managing.create_medium.Goals as goal

pub returns-in_err-check_create-clause-refused : goal.returns-in_err-check_create-clause-refused
returns-in_err-check_create-clause-refused g c told =
    let refused = c.in_err-check_create.ensures.refused told c.args.variant in
    let p = err_from_is_err_and c.from_residual.result c.from_residual.ensures.1 in
    rw (p.1, p.2) refused

pub returns-clause-reads : goal.returns-clause-reads
returns-clause-reads g c = OnlyReads-trans _ _ _ _ c.check_create.ensures.reads c.settle.ensures.reads
