use Rattle.std.proofs.Common.{◌∙◌, ap}
use Rattle.vbm_registry.specs.PlaceRules.{keeps_places}
use Rattle.vbm_registry.specs.Grammar.{library_in}
use Rattle.vbm_registry.proofs.FileAgain.{off_again}
use Rattle.vbm_registry.proofs.encoding.encode.Goals as goal

pub returns-in-Ok-clause-again : goal.returns-in-Ok-clause-again
returns-in-Ok-clause-again c = λ built ok. ap (library_in built keeps_places) (c.from_vec.ensures ∙ c.in-Ok.ensures)
    ∙ off_again built keeps_places c.args.library.now ok
