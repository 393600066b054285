use Rattle.std.proofs.Common.{◌≡◌, inr, sym, ◌∙◌, arith}
use Rattle.std.proofs.lemmas.Bool.{leb-true}
use Rattle.vbm_intent.specs.Changes.{name_of}
use Rattle.vbm_intent.specs.Pieces.{change_in}
use Rattle.vbm_intent.proofs.Names.{same_name}
use Rattle.vbm_intent.proofs.span.comes_before.Goals as goal

pub returns-in-Equal : goal.returns-in-Equal
returns-in-Equal c = λ below.
    let named : name_of (change_in c.args.first.now) ≡ name_of (change_in c.args.second.now) =
    sym c.name.ensures ∙ same_name c.name.result.now c.name-2.result.now (sym c.cmp.ensures ∙ c.in-Equal.is) ∙ c.name-2.ensures in
    let less = leb-true c.of.result.to c.of-in-Equal.result.from below in
    inr (named, omega (arith, less, c.of.ensures.to, c.of-in-Equal.ensures.from))
