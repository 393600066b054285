use Rattle.std.proofs.Common.{◌≡◌, replicate}
use Rattle.vbm_world.proofs.guests.filled.Given as goal

abbrev pub invariant-loop-sector : goal.invariant-loop-sector
invariant-loop-sector l = l.sectors ≡ replicate l._sector (replicate 512 l.byte)
