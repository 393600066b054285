use Rattle.vbm_world.specs.Seen.{seen}
use Rattle.vbm_world.proofs.Stepping.{not_on_shelf}
use Rattle.vbm_world.proofs.world.World.close_found.Goals as goal

pub shelf_after-requires-clause-absent : goal.shelf_after-requires-clause-absent
shelf_after-requires-clause-absent c =
    not_on_shelf (seen c.args.self.now) c.args.name.now c.args.medium.now c.requires.sound c.requires.found
