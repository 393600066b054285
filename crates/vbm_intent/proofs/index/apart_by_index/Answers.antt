use Rattle.std.proofs.Common.{All, ◌↔◌, sym, subst, arith, length-take}
use Rattle.vbm_intent.specs.Changes.{IsAllowed}
use Rattle.vbm_intent.specs.Index.{AreApartIn}
use Rattle.vbm_intent.proofs.Apart.{AllApart}
use Rattle.vbm_intent.proofs.Indexed.{told_iff, index_told, allowed_shuffled, apart_shuffled}
use Rattle.vbm_intent.proofs.index.apart_by_index.Goals as goal

pub neighbours_apart-requires : goal.neighbours_apart-requires
neighbours_apart-requires c =
    let is = index_told c.parts-count.result.1.now c.parts-count.result.0 _ c.note_places.new.index c.args.changes.now
    (omega (arith, length-take c.parts-count.result.0 c.as_chunks_mut-slots.result.0.now, c.if-slots-count.false)) c.parts-count.ensures c.note_places.ensures.changes in
    allowed_shuffled c.parts-count.result.1.now c.note_places.new.index c.sort_unstable_by.new.self c.sort_unstable_by.ensures.permutation
    (subst (All IsAllowed) (sym is) c.requires)

pub returns : goal.returns
returns c =
    let body = c.parts-count.result.1.now in
    let index = c.note_places.new.index in
    let sorted = c.sort_unstable_by.new.self in
    let is = index_told c.parts-count.result.1.now c.parts-count.result.0 _ c.note_places.new.index c.args.changes.now
    (omega (arith, length-take c.parts-count.result.0 c.as_chunks_mut-slots.result.0.now, c.if-slots-count.false)) c.parts-count.ensures c.note_places.ensures.changes in
    told_iff c.neighbours_apart.result (AreApartIn body sorted) (AllApart c.args.changes.now)
    (subst (λ cs. AreApartIn body sorted ↔ AllApart cs) is
    (apart_shuffled body index sorted c.sort_unstable_by.ensures.permutation c.note_places.ensures.rising))
    c.neighbours_apart.ensures
