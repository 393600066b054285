use Rattle.std.proofs.Common.{refl}
use Rattle.vbm_registry.proofs.LowPlaces.{low_places}
use Rattle.vbm_registry.proofs.library.Library.without_medium.Goals as goal

pub moved-requires : goal.moved-requires
moved-requires c = low_places c.args.self.now c.requires.rules

pub returns : goal.returns
returns c = rw (c.remove.ensures, c.in_ok-library.ensures, c.place_of-at.ensures.place) refl
