use Rattle.std.proofs.Common.{sym, ◌∙◌}
use Rattle.std.specs.List.{list_any}
use Rattle.vbm_registry.specs.Renumbered.{uses_medium}
use Rattle.vbm_store.proofs.PlacesUsed.{uses_named}
use Rattle.vbm_store.proofs.uses.is_in_use.Goals as goal

pub returns : goal.returns
returns c =
    c.some_uses.ensures
    ∙ (λ i. list_any (uses_medium (c.place_of-place.ensures.place i)) (c.as_slice.ensures i))
    ∙ sym (uses_named c.args.library.now c.requires c.args.name.now)
