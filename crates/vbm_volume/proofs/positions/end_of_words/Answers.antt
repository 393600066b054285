use Rattle.std.proofs.Common.{ap, sym, max, ◌∙◌, arith, []}
use Rattle.std.specs.List.{filter}
use Rattle.std.specs.Prelude.{◌∷◌}
use Rattle.vbm_volume.specs.Image.{is_position}
use Rattle.vbm_volume.specs.Positions.{end_of, positions_in}
use Rattle.vbm_volume.proofs.PositionLemmas.{positions_in-zero, positions_in-one_more, end_of-append}
use Rattle.vbm_volume.proofs.positions.end_of_words.Goals as goal

pub loop-i-init : goal.loop-i-init
loop-i-init c = record { end = sym (ap end_of (positions_in-zero c.args.piece.now)); fits = omega arith }

pub loop-i-preserved : goal.loop-i-preserved
loop-i-preserved c = record {
  end =
      let piece = c.args.piece.now in
      let word = c.word_at.result in
      c.end_with-end.ensures.end
      ∙ ap (λ n. max n (end_of (filter is_position (word ∷ [])))) c.loop-i.invariant.end
      ∙ sym (ap end_of (positions_in-one_more piece c.loop-i.i word c.word_at.ensures)
      ∙ end_of-append (positions_in piece c.loop-i.i) (filter is_position (word ∷ [])));
  fits = c.end_with-end.ensures.fits;
}
