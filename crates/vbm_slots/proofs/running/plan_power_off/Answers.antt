use Rattle.std.proofs.Common.{false, ap, ◌∙◌, is_some}
use Rattle.vbm_named.proofs.Lists.{has_found}
use Rattle.vbm_registry.specs.Grammar.{machine_entry_name}
use Rattle.vbm_registry.specs.Renumbered.{with_machine_renewed}
use Rattle.vbm_registry.proofs.LowPlaces.{low_places}
use Rattle.vbm_slots.specs.Running.{marked}
use Rattle.vbm_slots.proofs.MachinesMarked.{one_found, has_itself}
use Rattle.vbm_slots.proofs.PowerOffs.{powers_off, off_sound}
use Rattle.vbm_slots.proofs.running.plan_power_off.Goals as goal

pub machine_of-machine-requires : goal.machine_of-machine-requires
machine_of-machine-requires c = has_found machine_entry_name c.args.name.now c.args.store.now.library.machines ∙ ap is_some c.requires.can.found

pub with_mark-requires-clause-rises : goal.with_mark-requires-clause-rises
with_mark-requires-clause-rises c = (low_places c.args.store.now.library c.requires.sound.library.rules).machines

pub with_mark-requires-clause-there : goal.with_mark-requires-clause-there
with_mark-requires-clause-there c =
    has_itself c.args.name.now c.args.store.now.library.machines c.machine_of-machine.result.now c.machine_of-machine.ensures

pub returns-clause-plans : goal.returns-clause-plans
returns-clause-plans c files holds log =
    let e = c.args.store.now in
    let same = one_found c.args.name.now e.library.machines c.machine_of-machine.result.now c.requires.can.machine c.machine_of-machine.ensures
    c.requires.can.found in
    powers_off e c.args.name.now c.requires.sound c.requires.can files holds log c.in_ok-library.library c.new.result.changes
    (c.in_ok-library.ensures ∙ ap (λ m. with_machine_renewed e.library (marked false m)) same) c.new.ensures

pub returns-clause-sound : goal.returns-clause-sound
returns-clause-sound c =
    let e = c.args.store.now in
    let same = one_found c.args.name.now e.library.machines c.machine_of-machine.result.now c.requires.can.machine c.machine_of-machine.ensures
    c.requires.can.found in
    off_sound e c.args.name.now c.requires.sound c.requires.can c.in_ok-library.library
    (c.in_ok-library.ensures ∙ ap (λ m. with_machine_renewed e.library (marked false m)) same)
