use Rattle.std.proofs.Common.{take}
use Rattle.vbm_registry.specs.Tallies.{times}
use Rattle.vbm_registry.specs.AtPlaces.{CountsChildren}
use Rattle.vbm_registry.proofs.tallies.children_of.Given as goal

abbrev pub invariant-loop-i : goal.invariant-loop-i
invariant-loop-i l = CountsChildren (times l.children) (take l.i l.inners)
