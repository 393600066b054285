use Rattle.vbm_world.specs.Seen.{seen}
use Rattle.vbm_world.proofs.GuestDisks.{found_by_name}
use Rattle.vbm_world.proofs.world.World.write_slot.Goals as goal

pub write_allowed-requires-clause-found : goal.write_allowed-requires-clause-found
write_allowed-requires-clause-found c =
    found_by_name (seen c.args.self.now) c.args.slot.now.medium c.args.medium.now c.requires.found
