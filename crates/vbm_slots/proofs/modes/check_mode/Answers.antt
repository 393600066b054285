use Rattle.std.proofs.Common.{sym, ap, ◌∙◌, is_some}
use Rattle.std.specs.Option.{option_copied}
use Rattle.vbm_registry.specs.Library.{medium_entry_name}
use Rattle.vbm_named.proofs.Lists.{has_found}
use Rattle.vbm_slots.proofs.OtherModes.{sets_none, sets_used}
use Rattle.vbm_slots.proofs.modes.check_mode.Goals as goal

pub returns-in_default-clause-refused : goal.returns-in_default-clause-refused
returns-in_default-clause-refused c files mode =
    sets_none c.args.store.now files c.args.name.now mode (sym c.find.ensures ∙ ap option_copied c.in_default.is)

pub returns-then-is_in_use-clause-refused : goal.returns-then-is_in_use-clause-refused
returns-then-is_in_use-clause-refused c files mode =
    sets_used c.args.store.now files c.args.name.now mode c.in-Some.field-0.now (sym c.find.ensures ∙ ap option_copied c.in-Some.is)
    (sym c.is_in_use.ensures ∙ c.if-is_in_use.true)

pub returns-clause-can : goal.returns-clause-can
returns-clause-can c = record {
  there = has_found medium_entry_name c.args.name.now c.args.store.now.library.media ∙ ap is_some (sym c.find.ensures ∙ ap option_copied c.in-Some.is);
  free = sym c.is_in_use.ensures ∙ c.if-is_in_use.false;
}
