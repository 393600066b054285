use Rattle.std.proofs.Common.{◌≡◌, ◌≢◌, length, drop, sym, ◌∙◌}
use Rattle.std.specs.List.{prefix_len}
use Rattle.std.proofs.lemmas.Bool.{eqb-true, eqb-false}
use Rattle.vbm_lines.specs.Lines.{is_blank}
use Rattle.vbm_lines.proofs.Runs.{no_words, one_word}
use Rattle.vbm_lines.proofs.lines.first_word.Goals as goal

pub returns-then-is_empty : goal.returns-then-is_empty
returns-then-is_empty c =
    let rest : c.split_at.result.1.now ≡ drop (prefix_len is_blank c.args.line.now) c.args.line.now = cc in
    no_words c.args.line.now c.split_at.result.1.now rest (eqb-true _ _ (sym c.is_empty.ensures ∙ c.if-is_empty.true))

pub returns : goal.returns
returns c =
    let rest : c.split_at.result.1.now ≡ drop (prefix_len is_blank c.args.line.now) c.args.line.now = cc in
    let some : length c.split_at.result.1.now ≢ 0 = eqb-false _ _ (sym c.is_empty.ensures ∙ c.if-is_empty.false) in
    let word = one_word c.args.line.now c.split_at.result.1.now rest some in
    cc
