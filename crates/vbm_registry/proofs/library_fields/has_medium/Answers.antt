use Rattle.std.proofs.Common.{◌∙◌, ap, sym, is_some}
use Rattle.vbm_named.proofs.Lists.{has_found}
use Rattle.vbm_registry.specs.Library.{medium_entry_name}
use Rattle.vbm_registry.proofs.library_fields.has_medium.Goals as goal

pub returns-in-Some : goal.returns-in-Some
returns-in-Some c = sym (has_found medium_entry_name c.args.name.now c.args.media.now ∙ ap is_some (sym c.in-Some.ensures))

pub returns-in-None : goal.returns-in-None
returns-in-None c = sym (has_found medium_entry_name c.args.name.now c.args.media.now ∙ ap is_some (sym c.in-None.ensures))
