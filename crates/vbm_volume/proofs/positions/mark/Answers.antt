use Rattle.vbm_volume.proofs.PositionLemmas.{AreMarked-marked}
use Rattle.vbm_volume.proofs.positions.mark.Goals as goal

pub returns-then-word-low_end-clause-marked : goal.returns-then-word-low_end-clause-marked
returns-then-word-low_end-clause-marked c = λ ps was.
    AreMarked-marked c.args.low_end c.args.low.now c.mark-is_new.new.self c.args.is_twice c.mark-is_new.result ps c.args.word
    c.if-word-low_end.true c.requires.most c.mark-is_new.ensures.fresh c.mark-is_new.ensures.more.here c.mark-is_new.ensures.more.others was
