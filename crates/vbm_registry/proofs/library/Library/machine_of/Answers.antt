use Rattle.std.proofs.Common.{◌≡◌, true, false, sym, ap, ◌∙◌, is_some}
use Rattle.std.specs.Option.{option_copied}
use Rattle.vbm_named.proofs.Lists.{has_found}
use Rattle.vbm_registry.specs.Grammar.{machine_entry_name}
use Rattle.vbm_registry.proofs.library.Library.machine_of.Goals as goal

pub unreachable-requires : goal.unreachable-requires
unreachable-requires c =
    let none : true ≡ false = sym c.requires ∙ has_found machine_entry_name c.args.name.now c.args.self.now.machines
    ∙ ap is_some (sym c.find.ensures ∙ ap option_copied c.in_default.is) in
    absurd cc
