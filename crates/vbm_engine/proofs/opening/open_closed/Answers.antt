use Rattle.std.proofs.Common.{◌≡◌, Err, subst}
use Rattle.vbm_standing.specs.Stands.{held_by}
use Rattle.vbm_engine.specs.Parts.{OnBad}
use Rattle.vbm_engine.proofs.Openings.{opens_since, closed_refused, untouched, read_alike, goes_on_alike}
use Rattle.vbm_engine.proofs.opening.open_closed.Goals as goal

pub returns-in-Ok-clause-opens : goal.returns-in-Ok-clause-opens
returns-in-Ok-clause-opens g c = λ told.
    opens_since (g.D.Disk.state c.args.disk.now) (g.D.Disk.state c.load.new.disk) (g.D.Disk.state c.start.new.disk) _
    (c.load.ensures.reads.files told) (c.start.ensures.opens told)

pub returns-in-Ok-clause-any_moment : goal.returns-in-Ok-clause-any_moment
returns-in-Ok-clause-any_moment g c = λ told.
    goes_on_alike told _ _ _ (c.requires.settled told) c.load.ensures.reads (c.start.ensures.any_moment told)

pub returns-in-Err-Refused-clause-opens : goal.returns-in-Err-Refused-clause-opens
returns-in-Err-Refused-clause-opens g c = λ told.
    rw c.in-Err-Refused.field-0-is (closed_refused (g.D.Disk.state c.args.disk.now) (g.D.Disk.state c.load.new.disk) c.in-Err-Refused.bad
    (c.requires.closed told) (c.load.ensures.reads.files told)
    (subst (OnBad (λ bad. held_by (g.D.Disk.state c.args.disk.now).files ≡ Err bad)) c.in-Err-Refused.field-0-is (c.in-Err-Refused.ensures.told told)))

pub returns-in-Err-Refused-clause-any_moment : goal.returns-in-Err-Refused-clause-any_moment
returns-in-Err-Refused-clause-any_moment g c = λ told. read_alike _ _ (c.requires.settled told) c.load.ensures.reads

pub returns-in-Err-Failed-clause-any_moment : goal.returns-in-Err-Failed-clause-any_moment
returns-in-Err-Failed-clause-any_moment g c = λ told. read_alike _ _ (c.requires.settled told) c.load.ensures.reads

pub returns-in-Err-NoMemory-clause-opens : goal.returns-in-Err-NoMemory-clause-opens
returns-in-Err-NoMemory-clause-opens g c = λ told.
    untouched (g.D.Disk.state c.args.disk.now) (g.D.Disk.state c.load.new.disk) (c.load.ensures.reads.files told)

pub returns-in-Err-NoMemory-clause-any_moment : goal.returns-in-Err-NoMemory-clause-any_moment
returns-in-Err-NoMemory-clause-any_moment g c = λ told. read_alike _ _ (c.requires.settled told) c.load.ensures.reads
