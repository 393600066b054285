use Rattle.std.proofs.Common.{refl, subst, inl, inr}
use Rattle.vbm_ports.proofs.States.{Passes-trans}
use Rattle.vbm_engine.specs.Opens.{StandsAlike}
use Rattle.vbm_engine.proofs.Openings.{opens_since, syncs_first}
use Rattle.vbm_engine.proofs.opening.open.Goals as goal

pub returns-in-Ok-clause-opens : goal.returns-in-Ok-clause-opens
returns-in-Ok-clause-opens g c = λ told.
    opens_since (g.D.Disk.state c.args.disk.now) (g.D.Disk.state c.sync.new.self) (g.D.Disk.state c.open_settled.new.disk) _ (c.sync.ensures.reads.files told) (c.open_settled.ensures.opens told)

pub returns-in-Ok-clause-any_moment : goal.returns-in-Ok-clause-any_moment
returns-in-Ok-clause-any_moment g c = λ told.
    Passes-trans _ _ _ _ _ _ c.sync.ensures.reads.time (c.open_settled.ensures.any_moment told) (λ image may. inl may)
    (λ image alike. inr (subst (λ f. StandsAlike f image) (c.sync.ensures.reads.files told) alike))

pub returns-in-Ok-clause-synced : goal.returns-in-Ok-clause-synced
returns-in-Ok-clause-synced g c = λ told. inl (
    syncs_first _ told (g.D.Disk.state c.args.disk.now) (g.D.Disk.state c.sync.new.self) (g.D.Disk.state c.open_settled.new.disk) c.sync.ensures.reads
    (c.in-Ok.ensures.settled told) (c.in-Ok.ensures.next told) (g.met.D.Disk.coherent c.sync.new.self)
    StandsAlike (λ held stands. stands) (c.open_settled.ensures.any_moment told))

pub returns-in-Err-clause-synced : goal.returns-in-Err-clause-synced
returns-in-Err-clause-synced g c = λ told. inr (refl, c.sync.ensures.reads)
