use Rattle.std.proofs.Common.{◌∙◌, ap, sym, arith}
use Rattle.vbm_registry.specs.Grammar.{library_fields}
use Rattle.vbm_registry.proofs.GrammarLaws.{fields_is}
use Rattle.vbm_registry.proofs.NamesFit.{names_fit}
use Rattle.vbm_registry.proofs.decoding.read_whole.Goals as goal

pub keeps_places-requires : goal.keeps_places-requires
keeps_places-requires c =
    let built = c.args.built in
    let read = ap (λ bytes. (library_fields built).read bytes) (sym c.new-fields.ensures) ∙ c.in_ok-library.ensures in
    names_fit built c.in_ok-library.library
    ((fields_is built).takes c.args.bytes.now (c.in_ok-library.library, c.read_library.new.fields) (λ i. omega (arith, c.type_inv.bytes i)) read).fits
