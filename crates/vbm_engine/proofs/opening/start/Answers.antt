use Rattle.vbm_engine.proofs.Openings.{started_passes, started_opens, sound_if_read}
use Rattle.vbm_engine.proofs.opening.start.Goals as goal

pub returns-in-Ok-clause-opens : goal.returns-in-Ok-clause-opens
returns-in-Ok-clause-opens g c = λ told.
    started_opens (g.D.Disk.state c.args.disk.now) (g.D.Disk.state c.start.new.disk) (c.requires.closed told) _ c.requires.rules c.new.ensures
    (c.start.ensures.same told) (c.in-Ok.ensures.settled told) (c.in-Ok.ensures.shut told)
    ((g.met.D.Disk.coherent c.start.new.disk).read_is_image told) (c.requires.holds told)

pub returns-in-Ok-clause-sound : goal.returns-in-Ok-clause-sound
returns-in-Ok-clause-sound g c = sound_if_read _ c.requires.rules c.requires.names c.requires.new

pub returns-in-Ok-clause-any_moment : goal.returns-in-Ok-clause-any_moment
returns-in-Ok-clause-any_moment g c = λ told.
    started_passes (g.D.Disk.state c.args.disk.now) (g.D.Disk.state c.start.new.disk) (c.requires.closed told)
    (c.start.ensures.any_moment told (c.requires.settled told))

pub returns-in-Err-clause-any_moment : goal.returns-in-Err-clause-any_moment
returns-in-Err-clause-any_moment g c = λ told.
    started_passes (g.D.Disk.state c.args.disk.now) (g.D.Disk.state c.start.new.disk) (c.requires.closed told)
    (c.start.ensures.any_moment told (c.requires.settled told))
