use Rattle.std.proofs.Common.{sym, ◌∙◌}
use Rattle.vbm_engine.proofs.Openings.{media_files, holds_from}
use Rattle.vbm_engine.proofs.opening.load.Goals as goal

pub returns-clause-told : goal.returns-clause-told
returns-clause-told g c = λ told.
    holds_from _ told _ _ c.load_library.ensures.reads c.in_ok-library.library c.in_ok-images.images c.in_ok-library.ensures.rules
    (c.in_ok-library.ensures.told told) (c.in_ok-images.ensures.told told)

pub returns-clause-names : goal.returns-clause-names
returns-clause-names g c = c.in_ok-images.ensures.names ∙ sym (media_files c.in_ok-library.library c.in_ok-library.ensures.rules)
