use Rattle.std.proofs.Common.{◌≡◌, refl}
use Rattle.vbm_machines.specs.Slots.{new_slot, slot_entered}
use Rattle.vbm_machines.proofs.SlotsNamed.{attached_named}
use Rattle.vbm_machines.proofs.slots.attach.Goals as goal

pub returns-clause-named : goal.returns-clause-named
returns-clause-named c = λ seen keeps.
    let is : c.in_ok-slots.slots ≡ slot_entered (new_slot c.args.port c.args.medium c.args.mode c.args.number) c.args.machine.now.slots =
    rw (c.in_ok-slots.ensures, c.new_slot.ensures, c.as_slice.ensures) refl in
    attached_named seen keeps (new_slot c.args.port c.args.medium c.args.mode c.args.number) c.args.machine.now c.in_ok-slots.slots is
