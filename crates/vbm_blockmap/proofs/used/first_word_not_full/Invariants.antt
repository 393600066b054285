use Rattle.vbm_blockmap.specs.Used.{AreFull}
use Rattle.vbm_blockmap.proofs.used.first_word_not_full.Given as goal

abbrev pub invariant-loop-i : goal.invariant-loop-i
invariant-loop-i l = AreFull l.words l.i
