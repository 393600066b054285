use Rattle.vbm_intent.proofs.Redos.{after_reads}
use Rattle.vbm_engine.proofs.recover.recover.Goals as goal

pub returns-in-Ok-clause-any_moment : goal.returns-in-Ok-clause-any_moment
returns-in-Ok-clause-any_moment g c = λ told only. after_reads _ told _ _ c.record_size.ensures.reads _ (c.recover_record.ensures.any_moment told) only
