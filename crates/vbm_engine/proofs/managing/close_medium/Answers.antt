use Rattle.std.proofs.lemmas.Result.{err_from_is_err_and}
use Rattle.vbm_engine.proofs.managing.close_medium.Goals as goal

pub returns-in_err-check_close-clause-refused : goal.returns-in_err-check_close-clause-refused
returns-in_err-check_close-clause-refused g c told =
    let refused = c.in_err-check_close.ensures.refused (g.D.Disk.state c.args.disk.now).files c.args.delete in
    let p = err_from_is_err_and c.from_residual.result c.from_residual.ensures.1 in
    rw (p.1, p.2) refused
