use Rattle.std.proofs.Common.{sym, ap, subst, ◌∙◌}
use Rattle.vbm_machines.specs.declared.Machine.{Machine}
use Rattle.vbm_registry.specs.Renumbered.{with_machine_entry}
use Rattle.vbm_store.specs.Plans.{library_changes}
use Rattle.vbm_store.specs.Serves.{IsWritable}
use Rattle.vbm_slots.proofs.MachinesGone.{entries_rise}
use Rattle.vbm_slots.proofs.MachinesMade.{made_writable, creates}
use Rattle.vbm_slots.proofs.machines.plan_create_vm.Goals as goal

pub with_machine-requires-clause-rises : goal.with_machine-requires-clause-rises
with_machine-requires-clause-rises c = entries_rise c.args.store.now.library c.requires.sound.library.rules

pub library_plan-requires : goal.library_plan-requires
library_plan-requires c =
    let made = c.in_ok-library.ensures ∙ ap (λ (m : Machine). with_machine_entry c.args.store.now.library m) c.in_ok-machine.ensures in
    record {
      library = subst IsWritable (sym made) (made_writable c.args.store.now c.args.name.now c.requires.sound c.requires.name c.requires.can);
    }

pub returns-clause-plans : goal.returns-clause-plans
returns-clause-plans c files holds log =
    let made = c.in_ok-library.ensures ∙ ap (λ (m : Machine). with_machine_entry c.args.store.now.library m) c.in_ok-machine.ensures in
    creates c.args.store.now c.args.name.now c.requires.sound c.requires.name c.requires.can files holds log c.in_ok-library.library
    c.in_ok-plan.plan.changes made (c.in_ok-plan.ensures ∙ ap library_changes made)

pub returns-clause-sound : goal.returns-clause-sound
returns-clause-sound c =
    rw (c.in_ok-library.ensures, c.in_ok-machine.ensures)
    (made_writable c.args.store.now c.args.name.now c.requires.sound c.requires.name c.requires.can, c.requires.sound.images, tt)
