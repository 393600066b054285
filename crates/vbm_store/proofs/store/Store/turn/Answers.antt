use Rattle.vbm_store.proofs.store.Store.turn.Goals as goal

pub returns-in-Ok-clause-commits : goal.returns-in-Ok-clause-commits
returns-in-Ok-clause-commits g c told = (c.in-Ok.ensures.ok told, c.in-Ok.ensures.settled told, c.in-Ok.ensures.shut told)
