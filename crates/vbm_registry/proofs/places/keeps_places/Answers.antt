use Rattle.std.proofs.Common.{List, subst, ◌∙◌}
use Rattle.vbm_machines.specs.declared.Machine.{Machine}
use Rattle.vbm_registry.specs.Tallies.{times, slot_times}
use Rattle.vbm_registry.specs.AtPlaces.{slots_in_machines, CountsSlots, CountsChildren}
use Rattle.vbm_registry.proofs.KeptAtPlaces.{kept_at_places}
use Rattle.vbm_registry.proofs.places.keeps_places.Goals as goal

pub returns : goal.returns
returns c =
    let counted = subst (λ (ms : List Machine). CountsSlots (slot_times c.in_ok-slots.slots) (slots_in_machines ms))
    c.as_slice.ensures c.in_ok-slots.ensures in
    let born = subst (CountsChildren (times c.in_ok-children.children)) c.as_slice-2.ensures c.in_ok-children.ensures in
    c.are_kept.ensures ∙ kept_at_places c.args.library.now c.requires (slot_times c.in_ok-slots.slots) (times c.in_ok-children.children) counted born
