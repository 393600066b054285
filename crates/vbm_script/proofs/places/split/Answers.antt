use Rattle.vbm_script.proofs.Marks.{split_at_mark}
use Rattle.vbm_script.proofs.places.split.Goals as goal

pub returns : goal.returns
returns c = rw (c.split_at.ensures.front, c.split_at.ensures.back, c.mark_at.ensures.at) (split_at_mark c.args.word.now)
