use Rattle.std.proofs.Common.{◌≡◌, length}
use Rattle.vbm_store.specs.Edits.{without_all}
use Rattle.vbm_store.proofs.changed.Changed.forget_all.Given as goal

abbrev pub invariant-loop-rest : goal.invariant-loop-rest
invariant-loop-rest l = without_all l.rest l.self ≡ without_all l.names l.fn.self

abbrev pub decreases-loop-rest : goal.decreases-loop-rest
decreases-loop-rest l = length l.rest
