use Rattle.std.proofs.Common.{◌≡◌, ◌*◌, take, drop}
use Rattle.vbm_volume.specs.Sectors.{first_sectors}
use Rattle.vbm_world.proofs.guests.sectors_in.Given as goal

abbrev pub invariant-loop-i : goal.invariant-loop-i
invariant-loop-i l = l.sectors ≡ first_sectors (λ k. take 512 (drop (k * 512) l.bytes)) l.i
