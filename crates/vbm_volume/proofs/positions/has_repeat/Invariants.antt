use Rattle.std.proofs.Common.{ℕ, ◌<◌, ◌+◌, get_or}
use Rattle.vbm_volume.proofs.positions.has_repeat.Given as goal

-- the numbers up to i rise strictly
abbrev pub invariant-loop-i : goal.invariant-loop-i
invariant-loop-i l = (k : ℕ) → k + 1 < l.i → get_or l.sorted k 0 < get_or l.sorted (k + 1) 0
