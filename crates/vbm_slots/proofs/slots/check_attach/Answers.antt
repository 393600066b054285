use Rattle.std.proofs.Common.{sym, ap, ◌∙◌}
use Rattle.std.specs.Option.{option_copied}
use Rattle.vbm_slots.proofs.Attaches.{attaches_no_machine, attaches_no_medium, attaches_refused, can_attach}
use Rattle.vbm_slots.proofs.slots.check_attach.Goals as goal

pub returns-in_default-clause-refused : goal.returns-in_default-clause-refused
returns-in_default-clause-refused c files =
    attaches_no_machine c.args.store.now files c.args.vm.now c.args.name.now c.args.port (sym c.find.ensures ∙ ap option_copied c.in_default.is)

pub returns-in_default-find-clause-refused : goal.returns-in_default-find-clause-refused
returns-in_default-find-clause-refused c files =
    attaches_no_medium c.args.store.now files c.args.vm.now c.args.name.now c.args.port c.in-Some.machine.now
    (sym c.find.ensures ∙ ap option_copied c.in-Some.is) (sym c.find-2.ensures ∙ ap option_copied c.in_default-find.is)

pub returns-in-Some-attach_refusal-clause-refused : goal.returns-in-Some-attach_refusal-clause-refused
returns-in-Some-attach_refusal-clause-refused c files =
    attaches_refused c.args.store.now files c.args.vm.now c.args.name.now c.args.port c.in-Some.machine.now
    (sym c.find.ensures ∙ ap option_copied c.in-Some.is) c.in-Some-find.medium.now (sym c.find-2.ensures ∙ ap option_copied c.in-Some-find.is)
    c.requires.sound c.in-Some-attach_refusal.refusal (sym c.attach_refusal.ensures ∙ c.in-Some-attach_refusal.is)

pub returns-in-None-clause-can : goal.returns-in-None-clause-can
returns-in-None-clause-can c =
    can_attach c.args.store.now c.requires.sound c.args.vm.now c.args.name.now c.args.port c.in-Some.machine.now
    (sym c.find.ensures ∙ ap option_copied c.in-Some.is) c.in-Some-find.medium.now (sym c.find-2.ensures ∙ ap option_copied c.in-Some-find.is)
    c.requires.port (sym c.attach_refusal.ensures ∙ c.in-None.is)
