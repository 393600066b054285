use Rattle.std.proofs.Common.{Ok, sym, subst}
use Rattle.vbm_ports.proofs.States.{OnlyReads-trans}
use Rattle.vbm_named.specs.Names.{Name}
use Rattle.vbm_world.specs.declared.command.Command.TheVariants as commands
use Rattle.vbm_store.specs.declared.store.Store.{Store}
use Rattle.vbm_store.specs.Images.{IsRead}
use Rattle.vbm_store.specs.Serves.{Holds}
use Rattle.vbm_store.specs.Steps.{Plans}
use Rattle.vbm_engine.proofs.managing.open_medium.Goals as goal

pub returns-clause-plans : goal.returns-clause-plans
returns-clause-plans g c told =
    let files = (g.D.Disk.state c.args.disk.now).files in
    let image = c.in_ok-image.image in
    let settled = c.settle.ensures.same in
    let called = c.in_ok-image.ensures.name in
    let turn = c.in_ok-plan_open.field-0 in
    let plans = c.in_ok-plan_open.ensures.plans files
    (subst (λ (e : Store). Holds e.library e.images files) (sym settled) (c.requires.fits told).holds)
    (subst (λ (n : Name). IsRead (files n) (Ok image.header)) (sym called) (c.in_ok-image.ensures.read told)) in
    subst (λ (n : Name). Plans files c.args.store.now (commands.OpenMedium n) turn) called
    (subst (λ (e : Store). Plans files e (commands.OpenMedium image.name) turn) settled plans)

pub returns-clause-reads : goal.returns-clause-reads
returns-clause-reads g c = OnlyReads-trans _ _ _ _ c.check_open.ensures.reads c.settle.ensures.reads
