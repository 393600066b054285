use Rattle.std.proofs.Common.{List, ℕ, [], ◌∷◌, ◌++◌, refl, ap, sym, subst, ◌∙◌}
use Rattle.std.specs.List.{filter}
use Rattle.std.proofs.lemmas.List.{append-nil, append_assoc}
use Rattle.vbm_volume.specs.Image.{is_position}
use Rattle.vbm_volume.specs.Positions.{AreMarked, positions_in}
use Rattle.vbm_volume.proofs.PositionLemmas.{positions_in-zero, positions_in-one_more}
use Rattle.vbm_volume.proofs.positions.mark_words.Goals as goal

pub loop-i-init : goal.loop-i-init
loop-i-init c = record {
  room = refl;
  marked = λ ps was. rw (positions_in-zero c.args.piece.now, append-nil) was;
}

pub loop-i-preserved : goal.loop-i-preserved
loop-i-preserved c = record {
  room = c.mark-twice.ensures.room ∙ c.loop-i.invariant.room;
  marked = λ ps was.
      let before : List ℕ = positions_in c.args.piece.now c.loop-i.i in
      let same = append_assoc ps before (filter is_position (c.word_at.result ∷ []))
      ∙ ap (λ qs. ps ++ qs) (sym (positions_in-one_more c.args.piece.now c.loop-i.i c.word_at.result c.word_at.ensures)) in
      subst (AreMarked c.args.low_end c.mark-twice.new.low c.mark-twice.result) same
      (c.mark-twice.ensures.marked (ps ++ before) (c.loop-i.invariant.marked ps was));
}
