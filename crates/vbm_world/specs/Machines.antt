-- Commands on virtual machines (VBoxManage createvm, unregistervm, list vms, startvm, controlvm poweroff).
use Rattle.std.specs.Prelude.{◌&&◌, ◌||◌, ◌==◌, not, nat_le, Bool, true, false, if◌then◌else◌, List, [], ◌∷◌, length, map, find, count_by, Option, Some, None}
use Rattle.std.specs.List.{list_any}
use Rattle.std.specs.Str.{bytes_eq}
use Rattle.vbm_modes.specs.Modes.{is_locking, is_reset}
use Rattle.vbm_volume.specs.Sectors.{FlatDisk}
use Rattle.vbm_world.specs.declared.limits.TheConstants.{MACHINE_LIMIT}
use Rattle.vbm_world.specs.declared.command.VmLine.{VmLine}
use Rattle.vbm_world.specs.declared.command.Answer.TheVariants.{Done, VmList}
use Rattle.vbm_world.specs.declared.command.Refusal.TheVariants.{NoSuchMachine, NameTaken, InUse, Running, NotRunning, Locked, Full, IdsSpent}
use Rattle.vbm_world.specs.declared.command.Which.TheVariants.{Machines}
use Rattle.vbm_world.specs.declared.world.WorldMedium.{WorldMedium}
use Rattle.vbm_world.specs.declared.world.WorldSlot.{WorldSlot}
use Rattle.vbm_world.specs.declared.world.WorldMachine.{WorldMachine}
use Rattle.vbm_named.specs.Names.{Name, has_name, put_by, without}
use Rattle.vbm_world.specs.World.{World, machine_name, is_direct, is_direct_of, is_slot_of}
use Rattle.vbm_world.specs.Places.{machine_of, slots_named, own_or_medium, with_machine}
use Rattle.vbm_world.specs.Refusals.{Check, is_short}
use Rattle.vbm_world.specs.Outcomes.{Outcome, unless_refused, found_or}

-- ---- createvm, unregistervm, list vms

abbrev pub create_vm_checks : World → Name → List Check
create_vm_checks w name = (has_name machine_name name w.machines, NameTaken) ∷ (nat_le MACHINE_LIMIT (length w.machines), Full Machines) ∷ []

-- a machine without slots and snapshots, off
abbrev pub new_machine : Name → WorldMachine
new_machine name = record { name = name; running = false; slots = []; snapshots = []; current = None }

abbrev pub create_vm : World → Name → Outcome
create_vm w name =
    unless_refused w (create_vm_checks w name) (Done, record w { machines = put_by machine_name (new_machine name) w.machines })

abbrev pub is_empty : {X : Type 0} → List X → Bool
is_empty [] = true
is_empty (x ∷ xs) = false

-- a machine that has slots or snapshots stays
abbrev pub unregister_checks : WorldMachine → List Check
unregister_checks m = (not (is_empty m.slots) || not (is_empty m.snapshots), InUse) ∷ (m.running, Running) ∷ []

abbrev pub unregister_vm : World → Name → Outcome
unregister_vm w name =
    found_or w NoSuchMachine (machine_of w name) (λ m.
    unless_refused w (unregister_checks m) (Done, record w { machines = without machine_name name w.machines }))

abbrev pub vm_line : WorldMachine → VmLine
vm_line m = record { name = m.name; running = m.running }

abbrev pub list_vms : World → Outcome
list_vms w = (VmList (map vm_line w.machines), w)

-- ---- startvm (User Manual, Special Image Write Modes)

-- a slot of this port and medium
abbrev pub is_like : WorldSlot → WorldSlot → Bool
is_like s t = (t.port == s.port) && bytes_eq t.medium s.medium

-- the disk of a slot that was found, and else the medium's
abbrev pub disk_or_medium : World → Name → Option WorldSlot → Option FlatDisk
disk_or_medium w medium None = own_or_medium w medium None
disk_or_medium w medium (Some s) = own_or_medium w medium s.own

-- A start resets an immutable medium's slot with autoreset on.
abbrev pub is_resetting : World → WorldSlot → Bool
is_resetting w s = is_slot_of (λ mode. is_reset mode s.autoreset) w s

-- Such a slot gets the disk of the current snapshot's place of its port and medium, and else the medium's.
abbrev pub reset_slot : World → (current : List WorldSlot) → WorldSlot → WorldSlot
reset_slot w current s =
    if is_resetting w s then record s { own = disk_or_medium w s.medium (find (is_like s) current) } else s

-- no medium whose disk these slots share has changed since the start
abbrev pub unchanged_by : List WorldSlot → WorldMedium → WorldMedium
unchanged_by slots m = record m { changed = if list_any (is_direct_of m.name) slots then false else m.changed }

abbrev pub started : World → WorldMachine → World
started w m =
    let slots = map (reset_slot w (slots_named m.current m.snapshots)) m.slots in
    let v = with_machine w (record m { running = true; slots = slots }) (count_by (is_resetting w) m.slots) in
    record v { media = map (unchanged_by m.slots) w.media }

-- A slot shares the disk of a medium that is locked by whoever runs with it, and so does one of these.
abbrev pub is_locked_by : World → List WorldSlot → WorldSlot → Bool
is_locked_by w slots s = is_direct s && is_slot_of is_locking w s && list_any (is_direct_of s.medium) slots

-- a running machine has locked a medium of the machine
abbrev pub is_locked : World → WorldMachine → Bool
is_locked w m = list_any (λ (other : WorldMachine). other.running && list_any (is_locked_by w other.slots) m.slots) w.machines

abbrev pub start_checks : World → WorldMachine → List Check
start_checks w m =
    (m.running, Running) ∷ (is_locked w m, Locked) ∷ (is_short w.inner (count_by (is_resetting w) m.slots), IdsSpent) ∷ []

abbrev pub start_vm : World → Name → Outcome
start_vm w name = found_or w NoSuchMachine (machine_of w name) (λ m. unless_refused w (start_checks w m) (Done, started w m))

-- ---- poweroff

abbrev pub power_off : World → Name → Outcome
power_off w name =
    found_or w NoSuchMachine (machine_of w name) (λ m.
    unless_refused w ((not m.running, NotRunning) ∷ []) (Done, with_machine w (record m { running = false }) 0))
