use Rattle.std.proofs.Common.{◌≡◌, ◌++◌, length}
use Rattle.vbm_named.specs.Names.{put_by}
use Rattle.vbm_named.proofs.names.with.Given as goal

abbrev pub invariant-loop-rest : goal.invariant-loop-rest
invariant-loop-rest g l = l.all ++ put_by g.T.Named.name_of l.item l.rest ≡ put_by g.T.Named.name_of l.item l.items

abbrev pub decreases-loop-rest : goal.decreases-loop-rest
decreases-loop-rest g l = length l.rest

abbrev pub invariant-loop-rest-2 : goal.invariant-loop-rest-2
invariant-loop-rest-2 g l = l.all ++ l.rest ≡ put_by g.T.Named.name_of l.fn.item l.items

abbrev pub decreases-loop-rest-2 : goal.decreases-loop-rest-2
decreases-loop-rest-2 g l = length l.rest
