use Rattle.vbm_blockmap.proofs.Marking.{full_more, not_all_full}
use Rattle.vbm_blockmap.proofs.used.first_word_not_full.Goals as goal

pub loop-i-preserved : goal.loop-i-preserved
loop-i-preserved c = full_more c.args.words.now c.loop-i.i c.if-words-i.false c.loop-i.invariant

pub returns-clause-not_full : goal.returns-clause-not_full
returns-clause-not_full c = absurd (not_all_full c.args.words.now c.loop-i.i c.loop-i-test.false c.loop-i.invariant c.requires.room)

pub returns-clause-full : goal.returns-clause-full
returns-clause-full c = absurd (not_all_full c.args.words.now c.loop-i.i c.loop-i-test.false c.loop-i.invariant c.requires.room)
