use Rattle.std.proofs.Common.{◌≡◌, List, refl, ap}
use Rattle.vbm_machines.specs.declared.Slot.{Slot}
use Rattle.vbm_machines.specs.Slots.{renewed, resets_at_start}
use Rattle.vbm_machines.specs.Snapshots.{machine_in}
use Rattle.vbm_machines.proofs.slots.reset.Goals as goal

pub returns-clause-named : goal.returns-clause-named
returns-clause-named c = λ seen.
    let is : c.in_ok-slots.slots ≡ renewed (resets_at_start c.args.modes.now) c.args.fresh.now c.args.machine.now.slots =
    rw (c.in_ok-slots.ensures, c.as_slice.ensures) refl in
    ap (λ (slots : List Slot). machine_in seen (record c.args.machine.now { slots = slots })) is
