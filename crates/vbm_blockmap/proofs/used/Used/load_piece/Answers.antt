use Rattle.std.proofs.Common.{◌≡◌, ◌*◌, length, take, arith}
use Rattle.std.proofs.lemmas.List.{length-take-le}
use Rattle.vbm_blockmap.proofs.Marking.{MarksWords-same}
use Rattle.vbm_blockmap.proofs.used.Used.load_piece.Goals as goal

pub returns-clause-marks : goal.returns-clause-marks
returns-clause-marks g c = λ told f is fits.
    let room : length (take (4 * c.args.count) c.args.piece.now) ≡ 4 * c.args.count = length-take-le (4 * c.args.count) c.args.piece.now c.requires.room in
    MarksWords-same _ _ c.args.count _ _
    (λ k lt. c.in_ok-read_words.ensures.fields told f (4 * k) 4 is (omega (arith, room, lt)) (omega (arith, lt, fits)))
    c.mark_words.ensures.marks
