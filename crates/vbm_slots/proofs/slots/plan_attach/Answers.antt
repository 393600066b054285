use Rattle.std.proofs.Common.{◌∙◌, ap, is_some, subst}
use Rattle.std.proofs.lemmas.Result.{IfOk-weaker}
use Rattle.vbm_machines.specs.declared.Machine.{Machine}
use Rattle.vbm_named.proofs.Lists.{has_found}
use Rattle.vbm_world.specs.declared.command.Command.TheVariants.{Attach}
use Rattle.vbm_registry.specs.Grammar.{machine_entry_name}
use Rattle.vbm_registry.specs.Library.{medium_entry_name}
use Rattle.vbm_registry.specs.Renumbered.{with_machine_renewed}
use Rattle.vbm_registry.proofs.LowPlaces.{low_places}
use Rattle.vbm_store.specs.Steps.{Plans, IsSoundTurn}
use Rattle.vbm_slots.specs.Slots.{Writes}
use Rattle.vbm_slots.proofs.Attaches.{attached_one, attached_there, attached_writable, attaches, attaches_sound}
use Rattle.vbm_slots.proofs.slots.plan_attach.Goals as goal

pub machine_of-machine-requires : goal.machine_of-machine-requires
machine_of-machine-requires c =
    has_found machine_entry_name c.args.vm.now c.args.store.now.library.machines ∙ ap is_some c.requires.can.found

pub attached-requires-clause-there : goal.attached-requires-clause-there
attached-requires-clause-there c =
    has_found medium_entry_name c.args.name.now c.args.store.now.library.media ∙ ap is_some c.requires.can.can.found

pub turn_to-requires-clause-rises : goal.turn_to-requires-clause-rises
turn_to-requires-clause-rises c = (low_places c.args.store.now.library c.requires.sound.library.rules).machines

pub turn_to-requires-clause-there : goal.turn_to-requires-clause-there
turn_to-requires-clause-there c =
    let e = c.args.store.now in
    let same = attached_one e c.requires.sound c.args.vm.now c.args.name.now c.args.port c.requires.can c.machine_of-machine.result.now
    c.in_ok-machine.machine c.machine_of-machine.ensures c.in_ok-machine.ensures in
    rw same (attached_there e c.requires.sound c.args.vm.now c.args.name.now c.args.port c.requires.can)

pub turn_to-requires-clause-library : goal.turn_to-requires-clause-library
turn_to-requires-clause-library c =
    let e = c.args.store.now in
    let same = attached_one e c.requires.sound c.args.vm.now c.args.name.now c.args.port c.requires.can c.machine_of-machine.result.now
    c.in_ok-machine.machine c.machine_of-machine.ensures c.in_ok-machine.ensures in
    rw same (attached_writable e c.requires.sound c.args.vm.now c.args.name.now c.args.port c.requires.can)

pub returns-clause-plans : goal.returns-clause-plans
returns-clause-plans c files holds =
    let e = c.args.store.now in
    let same = attached_one e c.requires.sound c.args.vm.now c.args.name.now c.args.port c.requires.can c.machine_of-machine.result.now
    c.in_ok-machine.machine c.machine_of-machine.ensures c.in_ok-machine.ensures in
    IfOk-weaker c.turn_to.result (Writes (with_machine_renewed e.library c.in_ok-machine.machine))
    (Plans files e (Attach c.args.vm.now c.args.port c.args.name.now))
    (λ turn turns. attaches e c.requires.sound c.args.vm.now c.args.name.now c.args.port c.requires.can files holds turn
    (subst (λ (n : Machine). Writes (with_machine_renewed e.library n) turn) same turns)) c.turn_to.ensures

pub returns-clause-sound : goal.returns-clause-sound
returns-clause-sound c =
    let e = c.args.store.now in
    let same = attached_one e c.requires.sound c.args.vm.now c.args.name.now c.args.port c.requires.can c.machine_of-machine.result.now
    c.in_ok-machine.machine c.machine_of-machine.ensures c.in_ok-machine.ensures in
    IfOk-weaker c.turn_to.result (Writes (with_machine_renewed e.library c.in_ok-machine.machine)) (IsSoundTurn e)
    (λ turn turns. attaches_sound e c.requires.sound c.args.vm.now c.args.name.now c.args.port c.requires.can turn
    (subst (λ (n : Machine). Writes (with_machine_renewed e.library n) turn) same turns)) c.turn_to.ensures
