use Rattle.vbm_world.specs.Seen.{file_name}
use Rattle.vbm_named.proofs.Lists.{rises_without}
use Rattle.vbm_world.proofs.Stepping.{ok_is, shelf_without}
use Rattle.vbm_world.proofs.shelf.without_file.Goals as goal

pub returns-clause-holds : goal.returns-clause-holds
returns-clause-holds c = ok_is c.without.result _ _ c.without.ensures (shelf_without c.args.files.now c.args.name.now)

pub returns-clause-order : goal.returns-clause-order
returns-clause-order c = ok_is c.without.result _ _ c.without.ensures (rises_without file_name c.args.name.now c.args.files.now c.requires.order)
