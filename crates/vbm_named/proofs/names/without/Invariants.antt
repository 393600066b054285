use Rattle.std.proofs.Common.{◌≡◌, take}
use Rattle.vbm_named.specs.Names.{without}
use Rattle.vbm_named.proofs.names.without.Given as goal

abbrev pub invariant-loop-item : goal.invariant-loop-item
invariant-loop-item g l = l.all ≡ without g.T.Named.name_of l.name (take l.item-index l.items)
