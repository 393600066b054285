use Rattle.std.proofs.Common.{Ok, sym, subst}
use Rattle.std.proofs.lemmas.Result.{on_ok_weaker}
use Rattle.vbm_ports.proofs.States.{Passes-weaker}
use Rattle.vbm_world.specs.World.{off}
use Rattle.vbm_standing.specs.Stands.{Stands}
use Rattle.vbm_store.specs.Serves.{serves}
use Rattle.vbm_store.proofs.Readiness.{fits_stands, ready_stands}
use Rattle.vbm_store.proofs.Turning.{kept_read}
use Rattle.vbm_engine.proofs.engine.Engine.close.Goals as goal

pub returns-clause-stands : goal.returns-clause-stands
returns-clause-stands g c told =
    let old = g.D.Disk.state c.args.disk.now in
    let here = fits_stands c.args.self.store old (c.requires.fits told) ((g.met.D.Disk.coherent c.args.disk.now).read_is_image told) in
    on_ok_weaker c.sync.result
    (λ settled. subst (λ f. Stands f (Ok (off (serves c.args.self.store old.files)))) (sym (c.sync.ensures.reads.files told)) here)
    (c.sync.ensures.settled told)

pub returns-clause-any_moment : goal.returns-clause-any_moment
returns-clause-any_moment g c told u ready =
    let old = g.D.Disk.state c.args.disk.now in
    Passes-weaker old (g.D.Disk.state c.sync.new.self) _ _ c.sync.ensures.reads.time (ready_stands c.args.self.store old u c.requires.sound ready)

pub returns-clause-kept : goal.returns-clause-kept
returns-clause-kept g c told =
    on_ok_weaker c.sync.result (λ settled. kept_read told c.args.self.store c.sync.ensures.reads c.requires.sound) (c.sync.ensures.settled told)
