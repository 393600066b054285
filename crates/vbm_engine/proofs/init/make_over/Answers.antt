use Rattle.vbm_engine.proofs.Making.{over_after_read}
use Rattle.vbm_engine.proofs.init.make_over.Goals as goal

pub returns-in-Ok-None-clause-any_moment : goal.returns-in-Ok-None-clause-any_moment
returns-in-Ok-None-clause-any_moment g c = λ told.
    over_after_read c.args.seed (g.D.Disk.state c.args.disk.now) told (g.D.Disk.state c.length.new.self) c.length.ensures.reads
    (g.D.Disk.state c.make_absent.new.disk) (c.make_absent.ensures.any_moment told)
