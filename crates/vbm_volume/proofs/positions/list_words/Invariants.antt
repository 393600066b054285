use Rattle.std.proofs.Common.{◌≡◌, ◌++◌}
use Rattle.std.specs.Prelude.{filter}
use Rattle.vbm_volume.specs.Positions.{is_high, positions_in}
use Rattle.vbm_volume.proofs.positions.list_words.Given as goal

-- the positions among the words so far are listed
abbrev pub invariant-loop-i : goal.invariant-loop-i
invariant-loop-i l = l.high.items ≡ l.initial.high.items ++ filter (is_high l.low_end) (positions_in l.piece l.i)
