use Rattle.std.proofs.Common.{ℕ, List, ◌≡◌, ◌+◌, ◌*◌, ◌++◌, arith, subst, ap, ◌∙◌}
use Rattle.std.specs.List.{filter}
use Rattle.vbm_header.specs.Field.{number_at}
use Rattle.vbm_volume.specs.Image.{is_position, words_at}
use Rattle.vbm_volume.specs.Tally.{IsTally}
use Rattle.vbm_volume.proofs.Words.{words_at-same}
use Rattle.vbm_volume.proofs.map.add_piece.Goals as goal

pub returns-clause-tally : goal.returns-clause-tally
returns-clause-tally g c = λ told f ps is fits was.
    let piece : List ℕ = c.read_words.new.piece in
    let words : words_at piece 0 c.args.count ≡ words_at f c.args.at c.args.count =
    words_at-same piece f 0 c.args.at c.args.count (λ k lt.
    let here : 0 + 4 * k ≡ 4 * k = omega arith in
    ap (λ o. number_at piece o 4) here
    ∙ c.in_ok-read_words.ensures.fields told f (4 * k) 4 is (omega (arith, c.requires.room)) (omega arith)) in
    subst (λ ws. IsTally c.add_words.new.self (ps ++ filter is_position ws)) words (c.in_ok-add_words.ensures.ok ps was)
