use Rattle.std.proofs.Common.{◌≡◌, ℕ, ◌+◌, List, map, refl, ap, ◌∙◌}
use Rattle.vbm_world.specs.declared.world.World.{World as Shown}
use Rattle.vbm_world.specs.declared.world.WorldMedium.{WorldMedium}
use Rattle.vbm_world.specs.declared.world.WorldSlot.{WorldSlot}
use Rattle.vbm_world.specs.declared.world.WorldMachine.{WorldMachine}
use Rattle.vbm_world.specs.declared.command.Answer.TheVariants.{Done}
use Rattle.vbm_named.specs.Names.{Name, change_by}
use Rattle.vbm_world.specs.World.{World, machine_name}
use Rattle.vbm_world.specs.Slots.{drawn_for}
use Rattle.vbm_world.specs.Snapshots.{kept_slot, unless_frozen, new_snapshot, with_snapshot, taken}
use Rattle.vbm_world.specs.Seen.{seen}
use Rattle.vbm_world.proofs.world.World.add_snapshot.Goals as goal

taken_seen : (w v : Shown) (m after : WorldMachine) (name : Name) (slots : List WorldSlot) (drawn : ℕ) (media : List WorldMedium)
    → slots ≡ map (kept_slot (seen w)) m.slots → drawn ≡ drawn_for slots → after ≡ with_snapshot m (new_snapshot m name slots)
    → v ≡ record w { inner = w.inner + drawn; machines = change_by machine_name after.name (λ _. after) w.machines }
    → media ≡ map (unless_frozen v.machines) v.media → seen (record v { media = media }) ≡ taken (seen w) m name
taken_seen w v m after name slots drawn media kept numbers machine world frozen = rw (frozen, world, machine, numbers, kept) refl

pub returns-clause-outcome : goal.returns-clause-outcome
returns-clause-outcome c = ap (λ (w : World). (Done, w))
    (taken_seen c.args.self.now c.in_ok-world.world c.args.machine.now c.in_ok-after.after
    c.args.name.now c.args.slots c.drawn_for-drawn.result c.in_ok-world-2.field-0 c.requires.kept (c.drawn_for-drawn.ensures ∙ ap drawn_for c.as_slice.ensures)
    c.in_ok-after.ensures c.in_ok-world.ensures c.in_ok-world-2.ensures)
