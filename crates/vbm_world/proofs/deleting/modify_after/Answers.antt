use Rattle.std.proofs.Common.{rules}
use Rattle.vbm_world.specs.Seen.{seen}
use Rattle.vbm_world.proofs.DeletingParts.{modify_drawn, modify_kept}
use Rattle.vbm_world.proofs.deleting.modify_after.Goals as goal

pub returns-in-Some : goal.returns-in-Some
returns-in-Some c = rw c.id_of.ensures.bytes (modify_drawn (seen c.args.world.now) c.args.bases.now c.args.medium.now c.in-Some.place (search rules))

pub returns-in-None : goal.returns-in-None
returns-in-None c = modify_kept (seen c.args.world.now) c.args.bases.now c.args.medium.now (search rules)
