use Rattle.std.proofs.Common.{List, map}
use Rattle.vbm_machines.specs.declared.Slot.{Slot}
use Rattle.vbm_machines.specs.Slots.{has_image, renewed, kept_place}
use Rattle.vbm_machines.proofs.TakenNamed.{taken_named, taken_places}
use Rattle.vbm_machines.proofs.TreesKept.{taken_tree}
use Rattle.vbm_machines.proofs.snapshots.take.Goals as goal

pub returns-clause-named : goal.returns-clause-named
returns-clause-named c = λ seen. rw c.in_ok-machine.ensures (taken_named c.args.name _ _ c.args.machine.now seen)

pub returns-clause-places : goal.returns-clause-places
returns-clause-places c =
    rw c.in_ok-machine.ensures (taken_places c.args.name _ _ c.args.machine.now c.requires.places c.requires.room c.requires.another)

pub returns-clause-tree : goal.returns-clause-tree
returns-clause-tree c =
    let places : List Slot = map (kept_place c.args.modes.now) c.args.machine.now.slots in
    rw c.in_ok-machine.ensures (taken_tree c.args.name places (renewed has_image c.args.fresh.now places) c.args.machine.now c.requires.another)
