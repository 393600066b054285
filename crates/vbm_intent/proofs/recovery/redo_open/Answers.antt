use Rattle.std.proofs.Common.{subst, arith, length-take}
use Rattle.vbm_ports.proofs.States.{OnlyReads-trans}
use Rattle.vbm_intent.specs.Log.{RedoesTo}
use Rattle.vbm_intent.proofs.Redos.{reads_time, after_reads, pending_after, log_pending, log_bad}
use Rattle.vbm_intent.proofs.recovery.redo_open.Goals as goal

pub finish-requires-clause-pending : goal.finish-requires-clause-pending
finish-requires-clause-pending g c = λ told.
    let found = rw c.in-Ok-Some.field-0-is at c.in-Ok-Some.ensures.answer told in
    pending_after _ told _ _ c.pending.ensures.reads _
    (log_pending _ told _ _ c.read.ensures.reads _ _ _ (c.in-Ok.ensures.answer told) (c.requires.opens told) (omega (arith, c.requires.size told, c.requires.room told, c.min-end.ensures, length-take c.min-end.result c.args.buf.now)) _ found.0 found.1)

pub returns-in_default-clause-any_moment : goal.returns-in_default-clause-any_moment
returns-in_default-clause-any_moment g c = λ told only. reads_time _ told _ _ c.read.ensures.reads only

pub returns-in-Err-clause-any_moment : goal.returns-in-Err-clause-any_moment
returns-in-Err-clause-any_moment g c = λ told only. reads_time _ told _ _ (OnlyReads-trans _ _ _ _ c.read.ensures.reads c.pending.ensures.reads) only

pub returns-in-Ok-None-clause-bad_log : goal.returns-in-Ok-None-clause-bad_log
returns-in-Ok-None-clause-bad_log g c = λ told.
    log_bad _ told _ _ c.read.ensures.reads _ _ _ (c.in-Ok.ensures.answer told) (c.requires.opens told) (omega (arith, c.requires.size told, c.requires.room told, c.min-end.ensures, length-take c.min-end.result c.args.buf.now))
    (rw c.in-Ok-None.field-0-is at c.in-Ok-None.ensures.answer told)

pub returns-in-Ok-None-clause-any_moment : goal.returns-in-Ok-None-clause-any_moment
returns-in-Ok-None-clause-any_moment g c = λ told only. reads_time _ told _ _ (OnlyReads-trans _ _ _ _ c.read.ensures.reads c.pending.ensures.reads) only

pub returns-in-Ok-finish-clause-done : goal.returns-in-Ok-finish-clause-done
returns-in-Ok-finish-clause-done g c = λ told.
    let both = OnlyReads-trans _ _ _ _ c.read.ensures.reads c.pending.ensures.reads in
    subst (λ f. RedoesTo (g.D.Disk.state c.finish.new.disk).files f) (both.files told) (c.in-Ok-finish.ensures.done told)

pub returns-in-Ok-finish-clause-any_moment : goal.returns-in-Ok-finish-clause-any_moment
returns-in-Ok-finish-clause-any_moment g c = λ told only.
    after_reads _ told _ _ (OnlyReads-trans _ _ _ _ c.read.ensures.reads c.pending.ensures.reads) _ (c.finish.ensures.any_moment told) only

pub returns-in-Err-finish-clause-any_moment : goal.returns-in-Err-finish-clause-any_moment
returns-in-Err-finish-clause-any_moment g c = λ told only.
    after_reads _ told _ _ (OnlyReads-trans _ _ _ _ c.read.ensures.reads c.pending.ensures.reads) _ (c.finish.ensures.any_moment told) only
