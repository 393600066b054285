use Rattle.std.proofs.Common.{sym, ap, ◌∙◌}
use Rattle.std.specs.Option.{option_copied}
use Rattle.vbm_slots.proofs.MachinesGone.{no_parts, removes_none, removes_used, removes_running}
use Rattle.vbm_slots.proofs.machines.check_unregister_vm.Goals as goal

pub returns-in_default-clause-refused : goal.returns-in_default-clause-refused
returns-in_default-clause-refused c files =
    removes_none c.args.store.now files c.args.name.now (sym c.find.ensures ∙ ap option_copied c.in_default.is)

pub returns-then-has_parts-clause-refused : goal.returns-then-has_parts-clause-refused
returns-then-has_parts-clause-refused c files =
    removes_used c.args.store.now files c.args.name.now c.in-Some.machine.now (sym c.find.ensures ∙ ap option_copied c.in-Some.is)
    (sym c.has_parts.ensures ∙ c.if-has_parts.true)

pub returns-then-machine-clause-refused : goal.returns-then-machine-clause-refused
returns-then-machine-clause-refused c files =
    let none = no_parts c.in-Some.machine.now (sym c.has_parts.ensures ∙ c.if-has_parts.false) in
    removes_running c.args.store.now files c.args.name.now c.in-Some.machine.now (sym c.find.ensures ∙ ap option_copied c.in-Some.is)
    c.requires.sound none.0 none.1 c.if-machine.true

pub returns-clause-can : goal.returns-clause-can
returns-clause-can c =
    let none = no_parts c.in-Some.machine.now (sym c.has_parts.ensures ∙ c.if-has_parts.false) in
    record {
      machine = c.in-Some.machine.now;
      found = sym c.find.ensures ∙ ap option_copied c.in-Some.is;
      slots = none.0;
      snapshots = none.1;
      off = c.if-machine.false;
    }
