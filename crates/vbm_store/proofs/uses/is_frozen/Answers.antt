use Rattle.std.proofs.Common.{sym, ap, ◌&&◌, ◌∙◌}
use Rattle.std.specs.List.{list_any}
use Rattle.vbm_world.specs.World.{is_normal}
use Rattle.vbm_standing.specs.Meaning.{has_snapshot_of}
use Rattle.vbm_registry.specs.Named.{named}
use Rattle.vbm_registry.specs.Renumbered.{medium_place}
use Rattle.vbm_store.specs.Uses.{is_taken_at}
use Rattle.vbm_store.proofs.PlacesUsed.{all_taken}
use Rattle.vbm_store.proofs.uses.is_frozen.Goals as goal

pub returns-in-Normal : goal.returns-in-Normal
returns-in-Normal c =
    let l = c.args.library.now in
    let m = c.args.medium.now in
    c.some_is_taken.ensures
    ∙ (λ i. list_any (is_taken_at (c.place_of-place.ensures.place i)) (c.as_slice.ensures i))
    ∙ ap (λ name. list_any (is_taken_at (medium_place l name)) l.machines) c.bytes.ensures
    ∙ sym (all_taken l c.requires m.name)
    ∙ sym (ap (λ mode. is_normal mode && list_any (has_snapshot_of m.name) (named l).machines) c.in-Normal.is)
