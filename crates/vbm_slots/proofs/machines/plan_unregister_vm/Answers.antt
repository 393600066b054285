use Rattle.std.proofs.Common.{sym, ap, subst, ◌∙◌}
use Rattle.vbm_store.specs.Plans.{library_changes}
use Rattle.vbm_store.specs.Serves.{IsWritable}
use Rattle.vbm_slots.proofs.MachinesGone.{left_writable, removes}
use Rattle.vbm_slots.proofs.machines.plan_unregister_vm.Goals as goal

pub library_plan-requires : goal.library_plan-requires
library_plan-requires c = record {
  library = subst IsWritable (sym c.in_ok-library.ensures) (left_writable c.args.store.now c.args.name.now c.requires.sound c.requires.can);
}

pub returns-clause-plans : goal.returns-clause-plans
returns-clause-plans c files holds log =
    removes c.args.store.now c.args.name.now c.requires.sound c.requires.can files holds log c.in_ok-library.library c.in_ok-plan.plan.changes
    c.in_ok-library.ensures (c.in_ok-plan.ensures ∙ ap library_changes c.in_ok-library.ensures)

pub returns-clause-sound : goal.returns-clause-sound
returns-clause-sound c =
    rw c.in_ok-library.ensures (left_writable c.args.store.now c.args.name.now c.requires.sound c.requires.can, c.requires.sound.images, tt)
