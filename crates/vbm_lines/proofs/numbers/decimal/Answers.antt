use Rattle.std.proofs.Common.{◌≡◌, ◌≢◌, length, get_or, arith, sym, ◌∙◌}
use Rattle.std.proofs.lemmas.Bool.{eqb-true, eqb-false}
use Rattle.vbm_lines.proofs.Spelled.{spells_none-empty, spells_none-first, spells_none-zero, spells_none-text, number_parsed}
use Rattle.vbm_lines.proofs.numbers.decimal.Goals as goal

pub returns-then-is_empty : goal.returns-then-is_empty
returns-then-is_empty c = spells_none-empty c.args.word.now (eqb-true _ _ (sym c.is_empty.ensures ∙ c.if-is_empty.true))

pub returns-then-word-lt48 : goal.returns-then-word-lt48
returns-then-word-lt48 c = spells_none-first c.args.word.now c.if-word-lt48.true

pub returns-then-word-gt1 : goal.returns-then-word-gt1
returns-then-word-gt1 c = spells_none-zero c.args.word.now c.if-word-eq48.true c.if-word-gt1.true

pub returns-in-Ok : goal.returns-in-Ok
returns-in-Ok c =
    let some : length c.args.word.now ≢ 0 = eqb-false _ _ (sym c.is_empty.ensures ∙ c.if-is_empty.false) in
    let lead : get_or c.args.word.now 0 0 ≡ 48 → length c.args.word.now ≡ 1 = λ e. omega (arith, some, e, c.else-word-eq48.either) in
    let parsed = rw c.in-Ok.ensures.cases.0 at c.parse.ensures.value.0 in
    rw c.ok.ensures.value (number_parsed c.args.word.now c.parse.result parsed (omega arith) (omega (arith, c.if-word-lt48.false)) lead)

pub returns-in-Err : goal.returns-in-Err
returns-in-Err c = spells_none-text c.args.word.now c.in-Err.ensures.cases.0
