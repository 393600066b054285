use Rattle.std.proofs.Common.{◌≡◌, length, None, rules, ap, arith}
use Rattle.vbm_world.specs.Refusals.{first_refusal}
use Rattle.vbm_world.specs.Clones.{overwrite_checks}
use Rattle.vbm_world.specs.Seen.{seen}
use Rattle.vbm_world.specs.PlacesSeen.{place_seen}
use Rattle.vbm_world.proofs.ClonesKeep.{none_refused, fits_over}
use Rattle.vbm_world.proofs.world.World.clone_over.Goals as goal

pub put_over-requires-clause-size : goal.put_over-requires-clause-size
put_over-requires-clause-size c =
    let checks = overwrite_checks (seen c.args.self.now) (place_seen c.args.place.now) c.args.target.now in
    let none : first_refusal checks ≡ None = search rules in
    let fits = fits_over (seen c.args.self.now) c.requires.sound c.args.name.now (place_seen c.args.place.now) c.args.target.now
    c.requires.found (none_refused checks none) in
    omega (arith, ap length c.in_ok-disk.ensures, fits)
