use Rattle.std.proofs.Common.{◌≡◌, take}
use Rattle.vbm_image.specs.Settling.{allocated_with}
use Rattle.vbm_image.proofs.settling.allocated_after.Given as goal

abbrev pub invariant-loop-i : goal.invariant-loop-i
invariant-loop-i l = l.allocated ≡ allocated_with l.image.header.allocated (take l.i l.image.pending.staged)
