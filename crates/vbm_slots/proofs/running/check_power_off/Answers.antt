use Rattle.std.proofs.Common.{sym, ap, ◌∙◌}
use Rattle.std.specs.Option.{option_copied}
use Rattle.vbm_slots.proofs.PowerOffs.{offs_none, offs_off}
use Rattle.vbm_slots.proofs.running.check_power_off.Goals as goal

pub returns-in_default-clause-refused : goal.returns-in_default-clause-refused
returns-in_default-clause-refused c files =
    offs_none c.args.store.now files c.args.name.now (sym c.find.ensures ∙ ap option_copied c.in_default.is)

pub returns-then-not-machine-clause-refused : goal.returns-then-not-machine-clause-refused
returns-then-not-machine-clause-refused c files =
    offs_off c.args.store.now files c.args.name.now c.requires.sound c.in-Some.machine.now (sym c.find.ensures ∙ ap option_copied c.in-Some.is)
    c.if-not-machine.true
