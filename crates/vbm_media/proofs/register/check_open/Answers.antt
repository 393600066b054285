use Rattle.std.proofs.Common.{sym, ap, ◌∙◌, is_some}
use Rattle.std.specs.Option.{option_copied}
use Rattle.vbm_registry.specs.Library.{medium_entry_name}
use Rattle.vbm_named.proofs.Lists.{has_found}
use Rattle.vbm_media.proofs.Registers.{opens_taken}
use Rattle.vbm_media.proofs.register.check_open.Goals as goal

pub check_file-requires-clause-free : goal.check_file-requires-clause-free
check_file-requires-clause-free g c =
    has_found medium_entry_name c.args.name.now c.args.store.now.library.media ∙ ap is_some (sym c.find.ensures ∙ ap option_copied c.in-None.is)

pub returns-in-Some-clause-refused : goal.returns-in-Some-clause-refused
returns-in-Some-clause-refused g c told =
    opens_taken c.args.store.now (g.D.Disk.state c.args.disk.now).files c.args.name.now c.in-Some.field-0.now
    (sym c.find.ensures ∙ ap option_copied c.in-Some.is)
