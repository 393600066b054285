use Rattle.std.proofs.Common.{◌≡◌, take}
use Rattle.vbm_guest.specs.Flushing.{staged_in}
use Rattle.vbm_guest.proofs.planning.count_staged.Given as goal

abbrev pub invariant-loop-i : goal.invariant-loop-i
invariant-loop-i l = l.count ≡ staged_in (take l.i l.images.items)
