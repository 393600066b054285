-- Slots that come and go, seen in any way that sees their ports.
use Rattle.std.proofs.Common.{◌≡◌, ◌==◌, not, nat_lt, ℕ, Bool, true, false, cond, List, [], ◌∷◌, map, refl, ap, ◌∙◌}
use Rattle.vbm_world.specs.declared.world.WorldSlot.{WorldSlot}
use Rattle.vbm_world.specs.Slots.{put_slot, without_port}
use Rattle.vbm_machines.specs.declared.Slot.{Slot}
use Rattle.vbm_machines.specs.declared.Machine.{Machine}
use Rattle.vbm_machines.specs.Slots.{KeepsPorts, slot_entered, slots_but}
use Rattle.vbm_machines.specs.Snapshots.{machine_in}

module _ (seen : Slot → WorldSlot) (keeps : KeepsPorts seen) where
  entered_seen : (s : Slot) (slots : List Slot) → map seen (slot_entered s slots) ≡ put_slot (seen s) (map seen slots)
  unfolding slot_entered put_slot
  entered_seen s [] = refl
  entered_seen s (t ∷ slots) =
      step (nat_lt s.port t.port) (nat_lt (seen s).port (seen t).port) (λ i. nat_lt (keeps s i) (keeps t i)) (entered_seen s slots)
    where
      step : (b c : Bool) → c ≡ b → map seen (slot_entered s slots) ≡ put_slot (seen s) (map seen slots)
          → map seen (cond b (s ∷ t ∷ slots) (t ∷ slot_entered s slots))
          ≡ cond c (seen s ∷ seen t ∷ map seen slots) (seen t ∷ put_slot (seen s) (map seen slots))
      step true c e more = rw e refl
      step false c e more = rw e (ap (λ l. seen t ∷ l) more)

  but_seen : (port : ℕ) (slots : List Slot) → map seen (slots_but port slots) ≡ without_port port (map seen slots)
  but_seen port [] = refl
  but_seen port (s ∷ slots) = step (s.port == port) ((seen s).port == port) (λ i. keeps s i == port) (but_seen port slots)
    where
      step : (b c : Bool) → c ≡ b → map seen (slots_but port slots) ≡ without_port port (map seen slots)
          → map seen (cond (not b) (s ∷ slots_but port slots) (slots_but port slots))
          ≡ cond (not c) (seen s ∷ without_port port (map seen slots)) (without_port port (map seen slots))
      step true c e more = rw e more
      step false c e more = rw e (ap (λ l. seen s ∷ l) more)

  pub attached_named : (s : Slot) (m : Machine) (slots : List Slot) → slots ≡ slot_entered s m.slots → machine_in seen (record m { slots = slots })
      ≡ record (machine_in seen m) { slots = put_slot (seen s) (machine_in seen m).slots }
  attached_named s m slots is i = record (machine_in seen m) { slots = (ap (map seen) is ∙ entered_seen s m.slots) i }

  pub detached_named : (port : ℕ) (m : Machine) (slots : List Slot) → slots ≡ slots_but port m.slots → machine_in seen (record m { slots = slots })
      ≡ record (machine_in seen m) { slots = without_port port (machine_in seen m).slots }
  detached_named port m slots is i = record (machine_in seen m) { slots = (ap (map seen) is ∙ but_seen port m.slots) i }
