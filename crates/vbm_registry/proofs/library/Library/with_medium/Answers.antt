use Rattle.std.proofs.Common.{◌≡◌, refl, sym, subst}
use Rattle.vbm_named.specs.Names.{Rises}
use Rattle.vbm_named.specs.Places.{place_for}
use Rattle.vbm_registry.specs.declared.library.Library.{Library}
use Rattle.vbm_registry.specs.Library.{medium_entry_name}
use Rattle.vbm_registry.proofs.LowPlaces.{low_places}
use Rattle.vbm_registry.proofs.library.Library.with_medium.Goals as goal

pub moved-requires : goal.moved-requires
moved-requires c = low_places c.args.self.now c.requires.rules

pub insert-requires-clause-rises : goal.insert-requires-clause-rises
insert-requires-clause-rises c =
    subst (λ (l : Library). Rises medium_entry_name l.media) (sym c.in_ok-library.ensures) c.requires.rules.media_rise

pub returns : goal.returns
returns c =
    let at : c.place_for-at.result ≡ place_for medium_entry_name c.args.medium.name c.args.self.now.media =
    rw (c.place_for-at.ensures.place, c.bytes.ensures, c.as_slice.ensures) refl in
    rw (c.in_ok-insert.ensures.ok, c.in_ok-library.ensures, at) refl
