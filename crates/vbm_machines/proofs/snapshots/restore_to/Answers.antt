use Rattle.std.proofs.Common.{[]}
use Rattle.vbm_machines.proofs.TreesKept.{restored_has_tree}
use Rattle.vbm_machines.proofs.snapshots.restore_to.Goals as goal

pub returns-clause-tree : goal.returns-clause-tree
returns-clause-tree c = restored_has_tree c.args.machine.now c.args.snapshot c.requires.places c.requires.there []
