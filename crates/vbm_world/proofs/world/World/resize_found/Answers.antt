use Rattle.std.proofs.Common.{◌≡◌, None, rules}
use Rattle.vbm_world.specs.Refusals.{first_refusal}
use Rattle.vbm_world.specs.Shapes.{resize_checks}
use Rattle.vbm_world.specs.Seen.{seen}
use Rattle.vbm_world.proofs.ClonesKeep.{none_refused}
use Rattle.vbm_world.proofs.ShapesKeep.{grows_over}
use Rattle.vbm_world.proofs.world.World.resize_found.Goals as goal

pub enlarge-requires-clause-grows : goal.enlarge-requires-clause-grows
enlarge-requires-clause-grows c =
    let checks = resize_checks (seen c.args.self.now) c.args.medium.now c.args.capacity in
    let none : first_refusal checks ≡ None = search rules in
    grows_over (seen c.args.self.now) c.requires.sound c.args.name.now c.args.medium.now c.requires.found c.args.capacity
    (none_refused checks none)
