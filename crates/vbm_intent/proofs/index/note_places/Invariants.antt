use Rattle.std.proofs.Common.{length, ◌-◌}
use Rattle.vbm_intent.proofs.Notes.{Noted}
use Rattle.vbm_intent.proofs.index.note_places.Given as goal

abbrev pub invariant-loop-noted : goal.invariant-loop-noted
invariant-loop-noted l = Noted l.body (length l.fn.index) l.index l.noted l.rest

abbrev pub decreases-loop-noted : goal.decreases-loop-noted
decreases-loop-noted l = length l.index - l.noted
