use Rattle.std.proofs.Common.{ℕ, List, ◌+◌, ◌*◌, subst, sym}
use Rattle.vbm_blockmap.specs.Used.{IsLeast}
use Rattle.vbm_blockmap.proofs.Marking.{least_bit}
use Rattle.vbm_blockmap.proofs.used.least_unmarked.Goals as goal

pub returns-clause-least : goal.returns-clause-least
returns-clause-least c =
    let words : List ℕ = c.args.words.now in
    let from : ℕ = c.first_word_not_full-word.result in
    subst (λ (t : ℕ). IsLeast words (64 * from + t)) (sym c.trailing_ones.ensures)
    (least_bit words from c.first_word_not_full-word.ensures.full c.first_word_not_full-word.ensures.not_full)
