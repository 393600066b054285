use Rattle.std.proofs.Common.{rules}
use Rattle.vbm_world.specs.Seen.{seen}
use Rattle.vbm_world.proofs.DeletingParts.{dependents_fit}
use Rattle.vbm_world.proofs.world.World.delete_snapshot.Goals as goal

pub delete_found-requires : goal.delete_found-requires
delete_found-requires c = record {
  few = dependents_fit (seen c.args.self.now) c.requires.sound c.args.vm.now c.in-Some.machine.now (search rules) c.in-Some-snapshot.gone.now.name;
}
