use Rattle.std.proofs.Common.{subst}
use Rattle.vbm_ports.proofs.States.{Passes-weaker, Passes-trans}
use Rattle.vbm_intent.specs.Log.{RedoesTo}
use Rattle.vbm_intent.proofs.Redos.{reads_time, after_reads, pending_after, redo_phase, made_long, reclose_phase, redone}
use Rattle.vbm_intent.proofs.recovery.finish.Goals as goal

pub returns-in_err-sync-clause-any_moment : goal.returns-in_err-sync-clause-any_moment
returns-in_err-sync-clause-any_moment g c = λ told only. reads_time _ told _ _ c.sync.ensures.reads only

pub returns-in_err-apply-clause-any_moment : goal.returns-in_err-apply-clause-any_moment
returns-in_err-apply-clause-any_moment g c = λ told only.
    let is = pending_after _ told _ _ c.sync.ensures.reads _ (c.requires.pending told) in
    after_reads _ told _ _ c.sync.ensures.reads _ (λ settled. Passes-weaker _ _ _ _ (c.apply.ensures.time told) (redo_phase _ c.requires.plan _ is)) only

pub set_gate-requires-clause-log : goal.set_gate-requires-clause-log
set_gate-requires-clause-log g c = λ told.
    let is = pending_after _ told _ _ c.sync.ensures.reads _ (c.requires.pending told) in
    made_long _ c.requires.plan _ is _ (c.in_ok-apply.ensures.partly told) (c.in_ok-apply.ensures.ok told)

pub returns-in_err-set_gate-clause-any_moment : goal.returns-in_err-set_gate-clause-any_moment
returns-in_err-set_gate-clause-any_moment g c = λ told only.
    let is = pending_after _ told _ _ c.sync.ensures.reads _ (c.requires.pending told) in
    after_reads _ told _ _ c.sync.ensures.reads _ (λ settled. Passes-trans _ _ _ _ _ _ (c.apply.ensures.time told) (c.set_gate.ensures.time told)
    (redo_phase _ c.requires.plan _ is) (reclose_phase _ c.requires.plan _ is _ (c.in_ok-apply.ensures.partly told) (c.in_ok-apply.ensures.ok told))) only

pub returns-clause-done : goal.returns-clause-done
returns-clause-done g c = λ told.
    let is = pending_after _ told _ _ c.sync.ensures.reads _ (c.requires.pending told) in
    subst (λ f. RedoesTo (g.D.Disk.state c.set_gate.new.disk).files f) (c.sync.ensures.reads.files told)
    (redone _ c.requires.plan _ is _ (c.in_ok-apply.ensures.partly told) (c.in_ok-apply.ensures.ok told) _ (c.in_ok-set_gate.ensures.ok told).others)

pub returns-clause-any_moment : goal.returns-clause-any_moment
returns-clause-any_moment g c = λ told only.
    let is = pending_after _ told _ _ c.sync.ensures.reads _ (c.requires.pending told) in
    after_reads _ told _ _ c.sync.ensures.reads _ (λ settled. Passes-trans _ _ _ _ _ _ (c.apply.ensures.time told) (c.set_gate.ensures.time told)
    (redo_phase _ c.requires.plan _ is) (reclose_phase _ c.requires.plan _ is _ (c.in_ok-apply.ensures.partly told) (c.in_ok-apply.ensures.ok told))) only
