use Rattle.std.proofs.Common.{sym}
use Rattle.vbm_world.specs.Seen.{seen}
use Rattle.vbm_world.specs.PlacesSeen.{place_seen}
use Rattle.vbm_world.proofs.PlacesSound.{place_sound, place_small}
use Rattle.vbm_world.proofs.world.World.clone_new.Goals as goal

pub clone_found-requires : goal.clone_found-requires
clone_found-requires c =
    let found = place_sound (seen c.args.self.now) c.requires.sound c.args.place.now (place_seen c.in-Ok.found) (sym c.in-Ok.ensures) in
    record { size = place_small (place_seen c.in-Ok.found) found }
