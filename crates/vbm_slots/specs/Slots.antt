-- What attaching and detaching a medium ask of the library, and what they make of it.
use Rattle.std.specs.Prelude.{◌≡◌, ℕ, ◌==◌, Bool, false, List, [], ◌∷◌, find, Some, is_some}
use Rattle.vbm_modes.specs.declared.Mode.{Mode}
use Rattle.vbm_machines.specs.declared.Machine.{Machine}
use Rattle.vbm_machines.specs.declared.Slot.{Slot}
use Rattle.vbm_machines.specs.Slots.{new_slot, slot_entered, slots_but}
use Rattle.vbm_named.specs.Names.{Name, find_by}
use Rattle.vbm_world.specs.declared.command.Answer.TheVariants.{Done}
use Rattle.vbm_world.specs.declared.command.Refusal.TheVariants.{Frozen, Running, SlotTaken, AlreadyAttached}
use Rattle.vbm_world.specs.Refusals.{Check}
use Rattle.vbm_registry.specs.declared.library.Library.{Library}
use Rattle.vbm_registry.specs.declared.media.Medium.{Medium}
use Rattle.vbm_registry.specs.Grammar.{machine_entry_name}
use Rattle.vbm_registry.specs.Named.{machine_named, medium_names, named}
use Rattle.vbm_registry.specs.Renumbered.{medium_place, has_medium_at}
use Rattle.vbm_standing.specs.Edits.{CanAttach}
use Rattle.vbm_standing.specs.Meaning.{is_frozen_in}
use Rattle.vbm_store.specs.declared.decision.Turn.{Turn}
use Rattle.vbm_store.specs.declared.images.Edit.TheVariants.{Keep}
use Rattle.vbm_store.specs.Plans.{library_changes}

-- the turn that writes a library, and no more
pub record Writes (l : Library) (turn : Turn) : Type 0 where
  pub library : turn.library ≡ l
  pub edit : turn.edit ≡ Keep
  pub changes : turn.plan.changes ≡ library_changes l
  pub answer : turn.answer ≡ Done

-- the first slot at a port
abbrev pub is_at : ℕ → Slot → Bool
is_at port s = s.port == port

-- ---- storageattach VM PORT NAME

-- The medium is frozen, the machine runs, it has a slot at the port, or it has the medium. A slot that shares the medium's disk takes no
-- number, so numbers are never short.
abbrev pub attach_checks : Library → Machine → Medium → ℕ → List Check
attach_checks l m medium port =
    (is_frozen_in (named l).machines medium, Frozen)
    ∷ (m.running, Running)
    ∷ (is_some (find (is_at port) m.slots), SlotTaken)
    ∷ (has_medium_at (medium_place l medium.name) m.slots, AlreadyAttached)
    ∷ []

-- there is the machine, off, with room at the port, and the medium, which it has not and which is not frozen
pub record CanAttachTo (l : Library) (vm : Name) (port : ℕ) (name : Name) : Type 0 where
  pub machine : Machine
  pub medium : Medium
  pub found : find_by machine_entry_name vm l.machines ≡ Some machine
  pub off : machine.running ≡ false
  pub can : CanAttach (named l) (machine_named (medium_names l.media) machine) port name medium

-- a machine with a slot of the medium of a name, which has this mode
abbrev pub machine_attached : Library → Machine → ℕ → Name → Mode → Machine
machine_attached l m port name mode = record m { slots = slot_entered (new_slot port (medium_place l name) mode l.inner) m.slots }

-- ---- storageattach VM PORT none

-- there is the machine, off, and it has a slot at the port
pub record CanDetachFrom (l : Library) (vm : Name) (port : ℕ) : Type 0 where
  pub machine : Machine
  pub slot : Slot
  pub found : find_by machine_entry_name vm l.machines ≡ Some machine
  pub there : find (is_at port) machine.slots ≡ Some slot
  pub off : machine.running ≡ false

-- a machine without the slots at a port
abbrev pub machine_detached : ℕ → Machine → Machine
machine_detached port m = record m { slots = slots_but port m.slots }
