use Rattle.std.proofs.Common.{sym, ◌∙◌}
use Rattle.std.proofs.lemmas.Result.{on_ok_weaker}
use Rattle.vbm_store.proofs.Edits.{none_of_size, empty_same}
use Rattle.vbm_store.proofs.store.commit_plan.Goals as goal

pub returns-then-size-eq0-clause-ok : goal.returns-then-size-eq0-clause-ok
returns-then-size-eq0-clause-ok g c told =
    let none = none_of_size c.args.plan.now.changes (sym c.size.ensures ∙ c.if-size-eq0.true) in
    on_ok_weaker c.sync.result (λ settled. empty_same told (g.D.Disk.state c.args.disk.now) (g.D.Disk.state c.sync.new.self)
    c.sync.ensures.reads c.args.plan.now.changes none) (c.sync.ensures.settled told)
