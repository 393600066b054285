use Rattle.std.proofs.Common.{inl}
use Rattle.vbm_ports.proofs.States.{Passes-trans}
use Rattle.vbm_engine.proofs.Making.{over_redone, makes}
use Rattle.vbm_engine.proofs.init.make_settled.Goals as goal

pub returns-in-Ok-clause-made : goal.returns-in-Ok-clause-made
returns-in-Ok-clause-made g c = λ told.
    let recovers = c.in-Ok.ensures.recovers told in
    makes c.args.seed (g.D.Disk.state c.args.disk.now) (g.D.Disk.state c.recover.new.disk) recovers.0 recovers.1 (g.D.Disk.state c.make_over.new.disk)
    c.make_over.result ((g.met.D.Disk.coherent c.make_over.new.disk).read_is_image told) (c.make_over.ensures.made told)

pub returns-in-Ok-clause-any_moment : goal.returns-in-Ok-clause-any_moment
returns-in-Ok-clause-any_moment g c = λ told.
    let recovers = c.in-Ok.ensures.recovers told in
    Passes-trans (g.D.Disk.state c.args.disk.now) (g.D.Disk.state c.recover.new.disk) (g.D.Disk.state c.make_over.new.disk) _ _ _
    (c.recover.ensures.any_moment told (c.requires told)) (c.make_over.ensures.any_moment told) (λ image now. inl now)
    (over_redone c.args.seed (g.D.Disk.state c.args.disk.now) (g.D.Disk.state c.recover.new.disk) recovers.0 recovers.1)
