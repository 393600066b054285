use Rattle.vbm_machines.proofs.TreesKept.{left_named, left_places, left_tree}
use Rattle.vbm_machines.proofs.snapshots.remove.Goals as goal

pub returns-clause-named : goal.returns-clause-named
returns-clause-named c = left_named c.args.machine.now c.args.snapshot c.requires.places c.in_ok-machine.field-0 c.in_ok-machine.ensures

pub returns-clause-places : goal.returns-clause-places
returns-clause-places c =
    left_places c.args.machine.now c.args.snapshot c.requires.places c.in_ok-machine.field-0 c.in_ok-machine.ensures c.requires.there

pub returns-clause-tree : goal.returns-clause-tree
returns-clause-tree c =
    left_tree c.args.machine.now c.args.snapshot c.requires.places c.in_ok-machine.field-0 c.in_ok-machine.ensures c.requires.there c.requires.few
