use Rattle.std.proofs.Common.{◌≡◌, ℕ, ◌^◌, ◌%◌, List, length, drop, sym, ap, ◌∙◌, rules, arith}
use Rattle.std.specs.Int.{w64, from_be_bytes}
use Rattle.std.proofs.lemmas.Bool.{true≢false}
use Rattle.std.proofs.lemmas.Slice.Eq.{bytes_eq-Decides}
use Rattle.vbm_ids.specs.Identifier.{identifier_of}
use Rattle.vbm_ids.proofs.Identifiers.{number_in_of, no_number}
use Rattle.vbm_ids.proofs.number_of.Goals as goal

pub returns-else-eq-clause-exact : goal.returns-else-eq-clause-exact
returns-else-eq-clause-exact c = λ n small is.
    let size : length c.args.seed ≡ 16 = search rules in
    let same : c.counted-n.result ≡ n =
    c.counted-n.ensures.value ∙ ap (λ (id : List ℕ). from_be_bytes w64 (drop 8 id) % 2 ^ 62) is
    ∙ number_in_of c.args.seed (omega (arith, size)) c.args.kind n small in
    let made : c.args.id ≡ c.id_of.result = is ∙ sym (c.id_of.ensures.bytes ∙ ap (identifier_of c.args.seed c.args.kind) same) in
    true≢false (sym ((bytes_eq-Decides c.args.id c.id_of.result).1 made) ∙ sym c.if-eq.ensures)

pub returns-else-eq-clause-defined : goal.returns-else-eq-clause-defined
returns-else-eq-clause-defined c =
    no_number c.args.seed c.args.kind c.args.id c.counted-n.result c.id_of.result c.counted-n.ensures.value c.id_of.ensures.bytes (sym c.if-eq.ensures)
