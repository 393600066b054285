use Rattle.std.proofs.Common.{◌≡◌, ◌-◌, ◌++◌, take, replicate}
use Rattle.vbm_world.proofs.disks.padded.Given as goal

abbrev pub invariant-loop-i : goal.invariant-loop-i
invariant-loop-i l = l.flat ≡ take l.i l.disk ++ replicate (l.long - l.i) (replicate 512 0)
