use Rattle.std.proofs.Common.{◌≡◌, refl}
use Rattle.vbm_machines.specs.Slots.{slots_but}
use Rattle.vbm_machines.proofs.SlotsNamed.{detached_named}
use Rattle.vbm_machines.proofs.slots.detach.Goals as goal

pub returns-clause-named : goal.returns-clause-named
returns-clause-named c = λ seen keeps.
    let is : c.in_ok-slots.slots ≡ slots_but c.args.port c.args.machine.now.slots = rw (c.in_ok-slots.ensures, c.as_slice.ensures) refl in
    detached_named seen keeps c.args.port c.args.machine.now c.in_ok-slots.slots is
