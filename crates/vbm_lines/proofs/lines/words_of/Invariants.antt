use Rattle.std.proofs.Common.{◌≡◌, ◌++◌, length}
use Rattle.vbm_lines.specs.Lines.{words_in}
use Rattle.vbm_lines.proofs.lines.words_of.Given as goal

abbrev pub invariant-loop-word : goal.invariant-loop-word
invariant-loop-word l = words_in l.line ≡ l.words ++ words_in l.rest

abbrev pub decreases-loop-word : goal.decreases-loop-word
decreases-loop-word l = length (words_in l.rest)
