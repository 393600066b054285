use Rattle.std.proofs.Common.{◌≡◌, ◌-◌, ◌++◌, length, take, replicate}
use Rattle.vbm_world.specs.Clones.{laid_over}
use Rattle.vbm_world.proofs.disks.laid_over.Given as goal

abbrev pub invariant-loop-i : goal.invariant-loop-i
invariant-loop-i l = l.flat ≡ take l.i (laid_over l.disk l.sectors) ++ replicate (length l.sectors - l.i) (replicate 512 0)
