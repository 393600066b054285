use Rattle.std.proofs.Common.{sym, ap, ◌∙◌}
use Rattle.std.specs.Option.{option_copied}
use Rattle.vbm_slots.proofs.Detaches.{detaches_no_machine, detaches_no_slot, detaches_running}
use Rattle.vbm_slots.proofs.slots.check_detach.Goals as goal

pub returns-in_default-clause-refused : goal.returns-in_default-clause-refused
returns-in_default-clause-refused c files =
    detaches_no_machine c.args.store.now files c.args.vm.now c.args.port (sym c.find.ensures ∙ ap option_copied c.in_default.is)

pub returns-in_default-slot_at-clause-refused : goal.returns-in_default-slot_at-clause-refused
returns-in_default-slot_at-clause-refused c files =
    detaches_no_slot c.args.store.now files c.args.vm.now c.args.port c.in-Some.machine.now (sym c.find.ensures ∙ ap option_copied c.in-Some.is)
    (sym c.slot_at.ensures ∙ ap option_copied c.in_default-slot_at.is)

pub returns-then-machine-clause-refused : goal.returns-then-machine-clause-refused
returns-then-machine-clause-refused c files =
    detaches_running c.args.store.now files c.args.vm.now c.args.port c.in-Some.machine.now (sym c.find.ensures ∙ ap option_copied c.in-Some.is)
    c.in-Some-slot_at.field-0.now (sym c.slot_at.ensures ∙ ap option_copied c.in-Some-slot_at.is) c.requires.sound c.if-machine.true
