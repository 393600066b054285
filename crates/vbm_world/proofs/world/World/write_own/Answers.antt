use Rattle.std.proofs.Common.{◌≡◌, ◌∙◌, ap, IfOk, List, Some, subst}
use Rattle.vbm_world.specs.declared.world.WorldSlot.{WorldSlot}
use Rattle.vbm_world.specs.declared.world.World.{World as Shown}
use Rattle.vbm_world.specs.Places.{with_machine, with_slot}
use Rattle.vbm_world.specs.Seen.{seen}
use Rattle.vbm_world.proofs.world.World.write_own.Goals as goal

pub returns-clause-world : goal.returns-clause-world
returns-clause-world c = subst (λ (slots : List WorldSlot). IfOk c.with_slots_of.result (λ (world : Shown).
    seen world ≡ with_machine (seen c.args.self.now) (record c.args.machine.now { slots = slots }) 0))
    (c.in_ok-slots.ensures ∙ ap (with_slot c.args.port (λ (t : WorldSlot). record t { own = Some c.args.disk.now })) c.as_slice.ensures)
    c.with_slots_of.ensures.outcome
