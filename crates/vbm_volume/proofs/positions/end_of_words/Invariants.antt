use Rattle.std.proofs.Common.{◌≡◌, ◌≤◌, ◌^◌}
use Rattle.vbm_volume.specs.Positions.{end_of, positions_in}
use Rattle.vbm_volume.proofs.positions.end_of_words.Given as goal

-- the end of the positions among the words so far
abbrev pub invariant-loop-i : goal.invariant-loop-i
invariant-loop-i l = record { end : l.end ≡ end_of (positions_in l.piece l.i); fits : l.end ≤ 2 ^ 32 }
