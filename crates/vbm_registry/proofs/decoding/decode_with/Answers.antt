use Rattle.std.proofs.Common.{◌∙◌, ap, subst, arith, Result, ℕ}
use Rattle.vbm_registry.specs.declared.library.Library.{Library}
use Rattle.vbm_registry.specs.PlaceRules.{keeps_places}
use Rattle.vbm_registry.specs.Grammar.{library_in}
use Rattle.vbm_registry.specs.Given.{Decodes}
use Rattle.vbm_registry.proofs.FileAgain.{decoded, read_again}
use Rattle.vbm_registry.proofs.decoding.decode_with.Goals as goal

pub returns-clause-spelled : goal.returns-clause-spelled
returns-clause-spelled c =
    decoded c.args.built keeps_places c.args.bytes.now c.read_file.result (λ i. omega (arith, c.type_inv.bytes i)) c.read_file.ensures

pub returns-clause-only : goal.returns-clause-only
returns-clause-only c = λ l ok is. subst (λ (read : Result Library ℕ). Decodes c.read_file.result read)
    (ap (library_in c.args.built keeps_places) is ∙ read_again c.args.built keeps_places l ok) c.read_file.ensures
