use Rattle.std.proofs.Common.{sym, ◌∙◌}
use Rattle.vbm_guest.proofs.SettledFlush.{no_changes, on_any, same_besides}
use Rattle.vbm_guest.proofs.flushing.commit_or_sync.Goals as goal

pub returns-then-size-eq0-clause-files : goal.returns-then-size-eq0-clause-files
returns-then-size-eq0-clause-files g c = λ told.
    on_any c.sync.result
    (same_besides c.args.plan.now.changes (no_changes c.args.plan.now.changes (sym c.size.ensures ∙ c.if-size-eq0.true))
    (g.D.Disk.state c.args.disk.now).files (g.D.Disk.state c.sync.new.self).files (c.sync.ensures.reads.files told))
