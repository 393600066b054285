use Rattle.std.proofs.Common.{◌≡◌}
use Rattle.vbm_world.specs.Guests.{bytes_at}
use Rattle.vbm_world.proofs.guests.bytes_at.Given as goal

abbrev pub invariant-loop-i : goal.invariant-loop-i
invariant-loop-i l = l.bytes.items ≡ bytes_at l.disk l.lba l.i
