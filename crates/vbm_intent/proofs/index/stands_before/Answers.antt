use Rattle.std.proofs.Common.{◌≡◌, ◌<◌, inr, sym, ◌∙◌, ap, arith}
use Rattle.std.proofs.lemmas.Bool.{ltb-true}
use Rattle.vbm_intent.specs.Changes.{name_of}
use Rattle.vbm_intent.specs.Index.{change_at}
use Rattle.vbm_intent.proofs.Names.{same_name}
use Rattle.vbm_intent.proofs.index.stands_before.Goals as goal

pub returns-in-Equal : goal.returns-in-Equal
returns-in-Equal c = λ below.
    let body = c.args.body.now in
    let named : name_of (change_at body c.args.first.now) ≡ name_of (change_at body c.args.second.now) =
    ap name_of (sym c.in-Some-Some.ensures.change) ∙ sym c.name.ensures ∙ same_name c.name.result.now c.name-2.result.now (sym c.cmp.ensures ∙ c.in-Equal.is)
    ∙ c.name-2.ensures ∙ ap name_of c.in-Some-Some.ensures'.change in
    let less : c.place.result < c.place-in-Equal.result = ltb-true c.place.result c.place-in-Equal.result below in
    inr (named, omega (arith, less, c.place.ensures, c.place-in-Equal.ensures))
