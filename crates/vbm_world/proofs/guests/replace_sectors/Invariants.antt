use Rattle.std.proofs.Common.{◌≡◌, take}
use Rattle.vbm_world.specs.Guests.{with_sectors}
use Rattle.vbm_world.proofs.guests.replace_sectors.Given as goal

abbrev pub invariant-loop-i : goal.invariant-loop-i
invariant-loop-i l = l.disk ≡ with_sectors l.initial.disk l.lba (take l.i l.sectors)
