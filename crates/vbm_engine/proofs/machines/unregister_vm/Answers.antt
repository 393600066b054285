use Rattle.std.proofs.Common.{sym, subst}
use Rattle.std.proofs.lemmas.Result.{err_from_is_err_and}
use Rattle.vbm_world.specs.declared.command.Command.TheVariants as commands
use Rattle.vbm_store.specs.declared.store.Store.{Store}
use Rattle.vbm_store.specs.Serves.{Holds}
use Rattle.vbm_store.specs.Steps.{Plans}
use Rattle.vbm_engine.proofs.machines.unregister_vm.Goals as goal

pub returns-in_err-check_unregister_vm-clause-refused : goal.returns-in_err-check_unregister_vm-clause-refused
returns-in_err-check_unregister_vm-clause-refused g c told =
    let refused = c.in_err-check_unregister_vm.ensures.refused (g.D.Disk.state c.args.disk.now).files in
    let p = err_from_is_err_and c.from_residual.result c.from_residual.ensures.1 in
    rw (p.1, p.2) refused

pub returns-clause-plans : goal.returns-clause-plans
returns-clause-plans g c told =
    let files = (g.D.Disk.state c.args.disk.now).files in
    let settled = c.settle.ensures.same in
    subst (λ (e : Store). Plans files e (commands.UnregisterVm c.args.vm.now) c.in_ok-plan_unregister_vm.field-0) settled
    (c.in_ok-plan_unregister_vm.ensures.plans files (subst (λ (e : Store). Holds e.library e.images files) (sym settled) (c.requires.fits told).holds))
