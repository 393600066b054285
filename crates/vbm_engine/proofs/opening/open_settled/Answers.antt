use Rattle.vbm_engine.proofs.Openings.{opens_since, read_alike, goes_on_alike}
use Rattle.vbm_engine.proofs.opening.open_settled.Goals as goal

pub returns-in-Ok-Some-clause-opens : goal.returns-in-Ok-Some-clause-opens
returns-in-Ok-Some-clause-opens g c = λ told.
    opens_since (g.D.Disk.state c.args.disk.now) (g.D.Disk.state c.record_size.new.disk) (g.D.Disk.state c.open_pending.new.disk) _
    (c.record_size.ensures.reads.files told) (c.open_pending.ensures.opens told)

pub returns-in-Ok-Some-clause-any_moment : goal.returns-in-Ok-Some-clause-any_moment
returns-in-Ok-Some-clause-any_moment g c = λ told.
    goes_on_alike told _ _ _ (c.requires.settled told) c.record_size.ensures.reads (c.open_pending.ensures.any_moment told)

pub returns-in-Ok-None-clause-opens : goal.returns-in-Ok-None-clause-opens
returns-in-Ok-None-clause-opens g c = λ told.
    opens_since (g.D.Disk.state c.args.disk.now) (g.D.Disk.state c.record_size.new.disk) (g.D.Disk.state c.open_closed.new.disk) _
    (c.record_size.ensures.reads.files told) (c.open_closed.ensures.opens told)

pub returns-in-Ok-None-clause-any_moment : goal.returns-in-Ok-None-clause-any_moment
returns-in-Ok-None-clause-any_moment g c = λ told.
    goes_on_alike told _ _ _ (c.requires.settled told) c.record_size.ensures.reads (c.open_closed.ensures.any_moment told)

pub returns-in-Err-clause-any_moment : goal.returns-in-Err-clause-any_moment
returns-in-Err-clause-any_moment g c = λ told. read_alike _ _ (c.requires.settled told) c.record_size.ensures.reads
