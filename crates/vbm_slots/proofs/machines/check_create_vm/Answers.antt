use Rattle.std.proofs.Common.{sym, ap, ◌∙◌, is_some, arith}
use Rattle.std.proofs.lemmas.Bool.{le-leb}
use Rattle.vbm_named.proofs.Lists.{has_found}
use Rattle.vbm_registry.specs.Grammar.{machine_entry_name}
use Rattle.vbm_world.specs.declared.limits.TheConstants.{MACHINE_LIMIT}
use Rattle.vbm_slots.proofs.MachinesMade.{some_copied, creates_taken, creates_full}
use Rattle.vbm_slots.proofs.machines.check_create_vm.Goals as goal

pub returns-then-is_some-clause-refused : goal.returns-then-is_some-clause-refused
returns-then-is_some-clause-refused c files =
    let taken = c.is_some.ensures ∙ some_copied c.find.result ∙ ap is_some c.find.ensures
    ∙ sym (has_found machine_entry_name c.args.name.now c.args.store.now.library.machines) in
    creates_taken c.args.store.now files c.args.name.now (sym taken ∙ c.if-is_some.true)

pub returns-then-len-ge-MACHINE_LIMIT-clause-refused : goal.returns-then-len-ge-MACHINE_LIMIT-clause-refused
returns-then-len-ge-MACHINE_LIMIT-clause-refused c files =
    let taken = c.is_some.ensures ∙ some_copied c.find.result ∙ ap is_some c.find.ensures
    ∙ sym (has_found machine_entry_name c.args.name.now c.args.store.now.library.machines) in
    creates_full c.args.store.now files c.args.name.now (sym taken ∙ c.if-is_some.false)
    (le-leb MACHINE_LIMIT _ (omega (arith, c.len.ensures, c.if-len-ge-MACHINE_LIMIT.true)))

pub returns-clause-can : goal.returns-clause-can
returns-clause-can c =
    let taken = c.is_some.ensures ∙ some_copied c.find.result ∙ ap is_some c.find.ensures
    ∙ sym (has_found machine_entry_name c.args.name.now c.args.store.now.library.machines) in
    record {
      new = sym taken ∙ c.if-is_some.false;
      room = omega (arith, c.len.ensures, c.if-len-ge-MACHINE_LIMIT.false);
    }
