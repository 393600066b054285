use Rattle.std.proofs.Common.{All, ◌↔◌, sym, subst, arith, length-take}
use Rattle.vbm_intent.specs.Changes.{IsAllowed, Fits}
use Rattle.vbm_intent.specs.Index.{changes_at}
use Rattle.vbm_intent.proofs.Indexed.{told_iff_ok, index_told, allowed_shuffled, fits_shuffled}
use Rattle.vbm_intent.proofs.index.fit_by_index.Goals as goal

pub fit_in_order-requires-clause-allowed : goal.fit_in_order-requires-clause-allowed
fit_in_order-requires-clause-allowed g c =
    let is = index_told c.parts-count.result.1.now c.parts-count.result.0 _ c.note_places.new.index c.args.changes.now
    (omega (arith, length-take c.parts-count.result.0 c.as_chunks_mut-slots.result.0.now, c.if-slots-count.false)) c.parts-count.ensures c.note_places.ensures.changes in
    allowed_shuffled c.parts-count.result.1.now c.note_places.new.index c.sort_unstable_by.new.self c.sort_unstable_by.ensures.permutation
    (subst (All IsAllowed) (sym is) c.requires)

pub returns-clause-answer : goal.returns-clause-answer
returns-clause-answer g c = λ told.
    let body = c.parts-count.result.1.now in
    let index = c.note_places.new.index in
    let sorted = c.sort_unstable_by.new.self in
    let files = (g.D.Disk.state c.args.disk.now).files in
    let is = index_told c.parts-count.result.1.now c.parts-count.result.0 _ c.note_places.new.index c.args.changes.now
    (omega (arith, length-take c.parts-count.result.0 c.as_chunks_mut-slots.result.0.now, c.if-slots-count.false)) c.parts-count.ensures c.note_places.ensures.changes in
    told_iff_ok c.fit_in_order.result (Fits (changes_at body sorted) files) (Fits c.args.changes.now files)
    (subst (λ cs. Fits (changes_at body sorted) files ↔ Fits cs files) is
    (fits_shuffled body index sorted c.sort_unstable_by.ensures.permutation c.note_places.ensures.rising (c.all_stand_before.ensures c.if-not-all_stand_before.false) files))
    (c.fit_in_order.ensures.answer told)
