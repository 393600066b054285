use Rattle.std.proofs.Common.{sym, ap, ◌∙◌}
use Rattle.std.specs.Option.{option_copied}
use Rattle.vbm_slots.proofs.Starts.{starts_none, starts_running, starts_locked}
use Rattle.vbm_slots.proofs.running.check_start.Goals as goal

pub returns-in_default-clause-refused : goal.returns-in_default-clause-refused
returns-in_default-clause-refused c files =
    starts_none c.args.store.now files c.args.name.now (sym c.find.ensures ∙ ap option_copied c.in_default.is)

pub returns-then-machine-clause-refused : goal.returns-then-machine-clause-refused
returns-then-machine-clause-refused c files =
    starts_running c.args.store.now files c.args.name.now c.requires.sound c.in-Some.machine.now (sym c.find.ensures ∙ ap option_copied c.in-Some.is)
    c.if-machine.true

pub returns-then-is_locked-clause-refused : goal.returns-then-is_locked-clause-refused
returns-then-is_locked-clause-refused c files =
    starts_locked c.args.store.now files c.args.name.now c.requires.sound c.in-Some.machine.now (sym c.find.ensures ∙ ap option_copied c.in-Some.is)
    c.if-machine.false (sym c.is_locked.ensures ∙ c.if-is_locked.true)
