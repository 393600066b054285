-- What starting and stopping a machine ask of the library, and what they make of it.
use Rattle.std.specs.Prelude.{◌≡◌, ℕ, ◌&&◌, ◌==◌, Bool, true, false, List, map, filter, Some}
use Rattle.std.specs.List.{list_any}
use Rattle.vbm_modes.specs.Modes.{is_locking}
use Rattle.vbm_machines.specs.declared.Machine.{Machine}
use Rattle.vbm_machines.specs.declared.Slot.{Slot}
use Rattle.vbm_named.specs.Names.{Name, find_by}
use Rattle.vbm_registry.specs.declared.library.Library.{Library}
use Rattle.vbm_registry.specs.declared.media.Medium.{Medium}
use Rattle.vbm_registry.specs.AtPlaces.{has_mode_at}
use Rattle.vbm_registry.specs.Grammar.{machine_entry_name}
use Rattle.vbm_registry.specs.Named.{NamedSlot, slot_named, medium_names}
use Rattle.vbm_registry.specs.Rules.{is_medium_of, is_held_directly, has_directly}

-- the slots of a machine of the library, by names
abbrev pub slots_of : Library → Machine → List NamedSlot
slots_of l m = map (slot_named (medium_names l.media)) m.slots

-- a slot shares the disk of a medium that is locked by whoever runs with it, and so does one of these
abbrev pub is_locked_by : List Medium → List NamedSlot → NamedSlot → Bool
is_locked_by media slots s =
    is_held_directly s.held && is_medium_of is_locking media s.medium && list_any (has_directly s.medium) slots

-- a running machine has locked a medium of the machine
abbrev pub is_locked_in : Library → Machine → Bool
is_locked_in l m =
    list_any (λ (other : Machine). other.running && list_any (is_locked_by l.media (slots_of l other)) (slots_of l m)) l.machines

-- ---- the same by the places of media

abbrev pub shares_at : ℕ → Slot → Bool
shares_at place s = is_held_directly s.held && (s.medium == place)

abbrev pub is_locked_at : List Medium → List Slot → Slot → Bool
is_locked_at media slots s = is_held_directly s.held && has_mode_at is_locking media s.medium && list_any (shares_at s.medium) slots

-- ---- the commands

-- there is the machine, off, and no other has locked its media
pub record CanStart (l : Library) (name : Name) : Type 0 where
  pub machine : Machine
  pub found : find_by machine_entry_name name l.machines ≡ Some machine
  pub off : machine.running ≡ false
  pub unlocked : is_locked_in l machine ≡ false

-- there is the machine, and it runs
pub record CanPowerOff (l : Library) (name : Name) : Type 0 where
  pub machine : Machine
  pub found : find_by machine_entry_name name l.machines ≡ Some machine
  pub on : machine.running ≡ true

abbrev pub marked : Bool → Machine → Machine
marked running m = record m { running = running }

-- the media whose disks slots share
abbrev pub shared_media : List NamedSlot → List Name
shared_media slots = map (λ (s : NamedSlot). s.medium) (filter (λ (s : NamedSlot). is_held_directly s.held) slots)
