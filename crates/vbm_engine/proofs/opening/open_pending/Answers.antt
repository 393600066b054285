use Rattle.vbm_engine.proofs.Openings.{alike_passes, untouched, redone_opens, redone_passes}
use Rattle.vbm_engine.proofs.opening.open_pending.Goals as goal

pub returns-in-Ok-clause-opens : goal.returns-in-Ok-clause-opens
returns-in-Ok-clause-opens g c = λ told.
    let done = c.in-Ok.ensures.recovers told in
    redone_opens _ told (g.D.Disk.state c.args.disk.now) (g.D.Disk.state c.recover_record.new.disk) (g.D.Disk.state c.open_redone.new.disk)
    (c.requires.open told) done.0 done.1 c.open_redone.ensures.reads
    ((g.met.D.Disk.coherent c.open_redone.new.disk).read_is_image told) _ c.open_redone.ensures.sound (c.open_redone.ensures.opens told)

pub returns-in-Ok-clause-any_moment : goal.returns-in-Ok-clause-any_moment
returns-in-Ok-clause-any_moment g c = λ told.
    let done = c.in-Ok.ensures.recovers told in
    redone_passes _ told (g.D.Disk.state c.args.disk.now) (g.D.Disk.state c.recover_record.new.disk) (g.D.Disk.state c.open_redone.new.disk)
    (c.requires.open told) done.0 done.1 c.open_redone.ensures.reads
    ((g.met.D.Disk.coherent c.open_redone.new.disk).read_is_image told) (c.recover_record.ensures.any_moment told (c.requires.settled told))

pub returns-in-Err-Refused-clause-any_moment : goal.returns-in-Err-Refused-clause-any_moment
returns-in-Err-Refused-clause-any_moment g c = λ told. alike_passes _ _ (c.recover_record.ensures.any_moment told (c.requires.settled told))

pub returns-in-Err-Failed-clause-any_moment : goal.returns-in-Err-Failed-clause-any_moment
returns-in-Err-Failed-clause-any_moment g c = λ told. alike_passes _ _ (c.recover_record.ensures.any_moment told (c.requires.settled told))

pub returns-in-Err-NoMemory-clause-opens : goal.returns-in-Err-NoMemory-clause-opens
returns-in-Err-NoMemory-clause-opens g c = λ told.
    untouched (g.D.Disk.state c.args.disk.now) (g.D.Disk.state c.recover_record.new.disk) (rw c.in-Err-NoMemory.field-0-is at c.in-Err-NoMemory.ensures.recovers told)

pub returns-in-Err-NoMemory-clause-any_moment : goal.returns-in-Err-NoMemory-clause-any_moment
returns-in-Err-NoMemory-clause-any_moment g c = λ told. alike_passes _ _ (c.recover_record.ensures.any_moment told (c.requires.settled told))
