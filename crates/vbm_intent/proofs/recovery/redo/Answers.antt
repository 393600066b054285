use Rattle.vbm_intent.proofs.Redos.{after_reads, start_time, started}
use Rattle.vbm_intent.proofs.recovery.redo.Goals as goal

pub returns-in-Ok-clause-done : goal.returns-in-Ok-clause-done
returns-in-Ok-clause-done g c = λ told.
    started _ told _ _ c.record_size.ensures.reads (rw c.in-Ok-None.field-0-is at c.in-Ok-None.ensures.answer told) _ (c.start.ensures.same told)

pub returns-in-Ok-clause-any_moment : goal.returns-in-Ok-clause-any_moment
returns-in-Ok-clause-any_moment g c = λ told only.
    start_time _ told _ _ c.record_size.ensures.reads (rw c.in-Ok-None.field-0-is at c.in-Ok-None.ensures.answer told) _ (c.start.ensures.any_moment told) only

pub returns-in-Err-start-clause-any_moment : goal.returns-in-Err-start-clause-any_moment
returns-in-Err-start-clause-any_moment g c = λ told only.
    start_time _ told _ _ c.record_size.ensures.reads (rw c.in-Ok-None.field-0-is at c.in-Ok-None.ensures.answer told) _ (c.start.ensures.any_moment told) only

pub returns-in-Ok-Some-clause-any_moment : goal.returns-in-Ok-Some-clause-any_moment
returns-in-Ok-Some-clause-any_moment g c = λ told only. after_reads _ told _ _ c.record_size.ensures.reads _ (c.redo_open.ensures.any_moment told) only
