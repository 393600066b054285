use Rattle.vbm_machines.proofs.TreesKept.{dependents_seen}
use Rattle.vbm_machines.proofs.snapshots.dependents.Goals as goal

pub returns-clause-named : goal.returns-clause-named
returns-clause-named c = λ has seen. rw c.dependents_at.ensures (dependents_seen c.args.machine.now c.args.snapshot has seen)
