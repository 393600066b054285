use Rattle.std.proofs.Common.{max, ap, sym, ◌∙◌, ◌++◌}
use Rattle.std.proofs.lemmas.List.Elements.{filter-append}
use Rattle.std.proofs.lemmas.Result.{on_ok_weaker}
use Rattle.std.specs.List.{filter}
use Rattle.vbm_volume.specs.Positions.{end_of, is_high, positions_in}
use Rattle.vbm_volume.proofs.PositionLemmas.{end_of-append}
use Rattle.vbm_volume.proofs.TallyLemmas.{filter-is_high-append}
use Rattle.vbm_volume.proofs.tally.Tally.add_words.Goals as goal

pub returns-then-end-low_end-clause-ok : goal.returns-then-end-low_end-clause-ok
returns-then-end-low_end-clause-ok c = λ ps was.
    let more = positions_in c.args.piece.now c.args.count in record {
      end = c.max-self.ensures ∙ ap (λ n. max n c.end_of_words-end.result) was.end ∙ ap (λ n. max (end_of ps) n) c.end_of_words-end.ensures.end ∙ sym (end_of-append ps more);
      low = c.mark_words-self.ensures.marked ps was.low;
      high = was.high ∙ sym (filter-is_high-append c.args.self.now.limits.low_end ps more (rw c.end_of_words-end.ensures.end at c.if-end-low_end.true));
    }

pub returns-clause-ok : goal.returns-clause-ok
returns-clause-ok c = on_ok_weaker c.list_words.result (λ listed ps was.
    let more = positions_in c.args.piece.now c.args.count in
    let test = is_high c.args.self.now.limits.low_end in record {
      end = c.max-self.ensures ∙ ap (λ n. max n c.end_of_words-end.result) was.end ∙ ap (λ n. max (end_of ps) n) c.end_of_words-end.ensures.end ∙ sym (end_of-append ps more);
      low = c.mark_words-self.ensures.marked ps was.low;
      high = listed ∙ ap (λ xs. xs ++ filter test more) was.high ∙ sym (filter-append test ps more);
    }) c.list_words.ensures
