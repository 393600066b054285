use Rattle.std.proofs.Common.{refl, inl, inr}
use Rattle.vbm_engine.specs.Opens.{IsMaking}
use Rattle.vbm_engine.proofs.Openings.{syncs_first}
use Rattle.vbm_engine.proofs.Making.{after_sync, like_itself}
use Rattle.vbm_engine.proofs.init.make_library.Goals as goal

pub returns-in-Ok-clause-any_moment : goal.returns-in-Ok-clause-any_moment
returns-in-Ok-clause-any_moment g c = λ told.
    after_sync c.args.seed told (g.D.Disk.state c.args.disk.now) (g.D.Disk.state c.sync.new.self) (g.D.Disk.state c.make_settled.new.disk)
    c.sync.ensures.reads (c.make_settled.ensures.any_moment told)

pub returns-in-Ok-clause-synced : goal.returns-in-Ok-clause-synced
returns-in-Ok-clause-synced g c = λ told. inl (
    syncs_first _ told (g.D.Disk.state c.args.disk.now) (g.D.Disk.state c.sync.new.self) (g.D.Disk.state c.make_settled.new.disk) c.sync.ensures.reads
    (c.in-Ok.ensures.settled told) (c.in-Ok.ensures.next told) (g.met.D.Disk.coherent c.sync.new.self)
    (IsMaking c.args.seed) (inl (like_itself (g.D.Disk.state c.args.disk.now).files)) (c.make_settled.ensures.any_moment told))

pub returns-in-Err-clause-synced : goal.returns-in-Err-clause-synced
returns-in-Err-clause-synced g c = λ told. inr (refl, c.sync.ensures.reads)
