use Rattle.vbm_image.proofs.StagedMarks.{MarksFirst}
use Rattle.vbm_image.proofs.staging.mark_staged.Given as goal

abbrev pub invariant-loop-i : goal.invariant-loop-i
invariant-loop-i l = MarksFirst l.image.pending.staged l.i l.initial.used l.used
