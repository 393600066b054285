use Rattle.std.proofs.Common.{◌≡◌, ℕ, take, nat_eq}
use Rattle.indexmap.specs.IndexMap.{get}
use Rattle.vbm_registry.specs.AtPlaces.{parent_at}
use Rattle.vbm_registry.proofs.stacking.parents_of.Given as goal

abbrev pub invariant-loop-i : goal.invariant-loop-i
invariant-loop-i l = (n : ℕ) → get nat_eq l.parents n ≡ parent_at (take l.i l.inners) n
