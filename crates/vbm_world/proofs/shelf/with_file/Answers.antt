use Rattle.vbm_world.specs.declared.world.ShelfFile.{ShelfFile}
use Rattle.vbm_world.proofs.Stepping.{ok_is, shelf_with, shelf_with_rises}
use Rattle.vbm_world.proofs.shelf.with_file.Goals as goal

pub returns-clause-holds : goal.returns-clause-holds
returns-clause-holds c =
    let file : ShelfFile = record { name = c.args.name.now; content = c.args.content } in
    ok_is c.with.result _ _ c.with.ensures (rw c.in_ok-name.ensures (shelf_with c.args.files.now file c.requires.absent))

pub returns-clause-order : goal.returns-clause-order
returns-clause-order c =
    let file : ShelfFile = record { name = c.args.name.now; content = c.args.content } in
    ok_is c.with.result _ _ c.with.ensures
    (rw c.in_ok-name.ensures (shelf_with_rises c.args.files.now file c.requires.absent c.requires.order))
