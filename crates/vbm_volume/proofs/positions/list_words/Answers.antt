use Rattle.std.proofs.Common.{[], ◌∷◌, ◌++◌, ap, sym, ◌∙◌}
use Rattle.std.specs.List.{filter}
use Rattle.std.proofs.lemmas.List.{append-nil, append_assoc}
use Rattle.std.proofs.lemmas.List.Elements.{filter-append}
use Rattle.vbm_volume.specs.Image.{is_position}
use Rattle.vbm_volume.specs.Positions.{is_high, positions_in}
use Rattle.vbm_volume.proofs.PositionLemmas.{positions_in-zero, positions_in-one_more}
use Rattle.vbm_volume.proofs.positions.list_words.Goals as goal

pub loop-i-init : goal.loop-i-init
loop-i-init c =
    sym (ap (λ ps. c.args.high.now.items ++ filter (is_high c.args.low_end) ps) (positions_in-zero c.args.piece.now) ∙ append-nil c.args.high.now.items)

pub loop-i-preserved : goal.loop-i-preserved
loop-i-preserved c =
    let old = c.args.high.now.items in
    let test = is_high c.args.low_end in
    let before = positions_in c.args.piece.now c.loop-i.i in
    let more = filter is_position (c.word_at.result ∷ []) in
    c.in_ok-list.ensures
    ∙ ap (λ xs. xs ++ filter test more) c.loop-i.invariant
    ∙ append_assoc old (filter test before) (filter test more)
    ∙ ap (λ xs. old ++ xs) (sym (filter-append test before more))
    ∙ ap (λ ps. old ++ filter test ps) (sym (positions_in-one_more c.args.piece.now c.loop-i.i c.word_at.result c.word_at.ensures))
