use Rattle.std.proofs.Common.{◌&&◌, ◌∙◌}
use Rattle.std.specs.List.{list_any}
use Rattle.vbm_machines.specs.declared.Machine.{Machine}
use Rattle.vbm_slots.specs.Running.{is_locked_at}
use Rattle.vbm_slots.proofs.LockedPlaces.{locked_by_places}
use Rattle.vbm_slots.proofs.running.is_locked.Goals as goal

pub returns : goal.returns
returns c =
    c.some_has_locked.ensures
    ∙ (λ i. list_any (λ (other : Machine). other.running && list_any (is_locked_at (c.as_slice-media.ensures i) other.slots) (c.as_slice.ensures i))
    (c.as_slice-machines.ensures i))
    ∙ locked_by_places c.args.library.now c.requires c.args.machine.now
