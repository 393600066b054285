use Rattle.std.proofs.Common.{◌≡◌, ◌++◌, ℕ, List, length}
use Rattle.vbm_volume.specs.Positions.{AreMarked, positions_in}
use Rattle.vbm_volume.proofs.positions.mark_words.Given as goal

-- the positions among the words so far are marked
abbrev pub invariant-loop-i : goal.invariant-loop-i
invariant-loop-i l = record {
  room : length l.low ≡ length l.initial.low;
  marked : (ps : List ℕ) → AreMarked l.low_end l.initial.low l.is_twice ps
      → AreMarked l.low_end l.low l.twice (ps ++ positions_in l.piece l.i);
}
