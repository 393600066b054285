-- Commands on snapshots (User Manual, Snapshots; VBoxManage snapshot take, restore, restorecurrent, delete, list).
use Rattle.std.specs.Prelude.{ℕ, ◌+◌, ◌&&◌, ◌||◌, not, nat_lt, nat_le, Bool, true, false, if◌then◌else◌, List, [], ◌∷◌, length, map, filter, find, count_by, Option, Some, None}
use Rattle.std.specs.List.{list_any, position_or_len}
use Rattle.std.specs.Option.{option_and_then}
use Rattle.std.specs.Str.{bytes_eq}
use Rattle.vbm_ids.specs.declared.Kind.TheVariants.{Modify}
use Rattle.vbm_ids.specs.Identifier.{identifier_of}
use Rattle.vbm_volume.specs.Sectors.{FlatDisk}
use Rattle.vbm_world.specs.declared.limits.TheConstants.{SNAPSHOT_LIMIT, PLACE_LIMIT}
use Rattle.vbm_world.specs.declared.command.SnapLine.{SnapLine}
use Rattle.vbm_world.specs.declared.command.Answer.TheVariants.{Done, SnapList}
use Rattle.vbm_world.specs.declared.command.Refusal.TheVariants.{NoSuchMachine, NoSuchSnapshot, NameTaken, Running, SharedMedium, HasChildren, Full, IdsSpent, NoCurrent}
use Rattle.vbm_world.specs.declared.command.Which.TheVariants.{Snapshots, Places}
use Rattle.vbm_world.specs.declared.world.WorldMedium.{WorldMedium}
use Rattle.vbm_world.specs.declared.world.WorldSlot.{WorldSlot}
use Rattle.vbm_world.specs.declared.world.WorldSnapshot.{WorldSnapshot}
use Rattle.vbm_world.specs.declared.world.WorldMachine.{WorldMachine}
use Rattle.vbm_named.specs.Names.{Name, has_name, put_by, without, change_by}
use Rattle.vbm_world.specs.World.{World, machine_name, snapshot_name, is_direct, has_own, has_medium, is_in_snapshot, is_normal, is_layered, is_slot_of, is_frozen}
use Rattle.vbm_world.specs.Places.{machine_of, snapshot_of, current_of, slots_named, slot_disk, is_base_of, with_machine}
use Rattle.vbm_world.specs.Refusals.{Check, is_short, snapshots_in, places_in}
use Rattle.vbm_world.specs.Outcomes.{Outcome, refused, unless_refused, found_or}
use Rattle.vbm_world.specs.Slots.{drawn_for}

-- ---- snapshot take

-- A slot as a snapshot has it: with a copy of its disk, but for a write-through or read-only medium's, whose disk it shares.
abbrev pub kept_slot : World → WorldSlot → WorldSlot
kept_slot w s = record s { own = if is_slot_of is_layered w s then slot_disk w s else None }

-- a frozen medium has no disk of its own
abbrev pub unless_frozen : List WorldMachine → WorldMedium → WorldMedium
unless_frozen machines m = record m { flat = if is_frozen machines m then None else m.flat }

-- a new snapshot of a machine, a child of the current one
abbrev pub new_snapshot : WorldMachine → Name → List WorldSlot → WorldSnapshot
new_snapshot m name slots = record { name = name; parent = m.current; slots = slots }

-- the machine with a new snapshot, which is current, and whose slots the machine has
abbrev pub with_snapshot : WorldMachine → WorldSnapshot → WorldMachine
with_snapshot m s = record m { slots = s.slots; snapshots = put_by snapshot_name s m.snapshots; current = Some s.name }

-- The machine gets the new snapshot, and from then on has its own disks where the snapshot has copies.
abbrev pub taken : World → WorldMachine → Name → World
taken w m name =
    let snapshot = new_snapshot m name (map (kept_slot w) m.slots) in
    let v = with_machine w (with_snapshot m snapshot) (drawn_for snapshot.slots) in
    record v { media = map (unless_frozen v.machines) w.media }

-- slots share the disk of a normal medium that other slots have
abbrev pub share_with : World → (slots others : List WorldSlot) → Bool
share_with w slots others = list_any (λ (s : WorldSlot). is_direct s && is_slot_of is_normal w s && has_medium s.medium others) slots

-- another machine has a normal medium whose disk the machine shares
abbrev pub is_shared_with : World → WorldMachine → WorldMachine → Bool
is_shared_with w m other = not (bytes_eq other.name m.name) && share_with w m.slots other.slots

abbrev pub take_checks : World → WorldMachine → Name → List Check
take_checks w m name =
    (has_name snapshot_name name m.snapshots, NameTaken)
    ∷ (m.running, Running)
    ∷ (list_any (is_shared_with w m) w.machines, SharedMedium)
    ∷ (nat_le SNAPSHOT_LIMIT (snapshots_in w), Full Snapshots)
    ∷ (nat_lt PLACE_LIMIT (places_in w + length m.slots), Full Places)
    ∷ (is_short w.inner (drawn_for (map (kept_slot w) m.slots)), IdsSpent)
    ∷ []

abbrev pub take_snapshot : World → (vm : Name) → Name → Outcome
take_snapshot w vm name = found_or w NoSuchMachine (machine_of w vm) (λ m. unless_refused w (take_checks w m name) (Done, taken w m name))

-- ---- snapshot restore, restorecurrent

-- The machine's slots are the snapshot's, with copies of its disks. Media whose disks are shared keep them.
abbrev pub restored : World → WorldMachine → WorldSnapshot → World
restored w m s = with_machine w (record m { slots = s.slots; current = Some s.name }) (drawn_for s.slots)

abbrev pub restore_checks : World → WorldMachine → WorldSnapshot → List Check
restore_checks w m s = (m.running, Running) ∷ (is_short w.inner (drawn_for s.slots), IdsSpent) ∷ []

abbrev pub restore_snapshot : World → (vm : Name) → Name → Outcome
restore_snapshot w vm name =
    found_or w NoSuchMachine (machine_of w vm) (λ m.
    found_or w NoSuchSnapshot (snapshot_of m name) (λ s.
    unless_refused w (restore_checks w m s) (Done, restored w m s)))

abbrev pub restored_to : World → WorldMachine → Option WorldSnapshot → Outcome
restored_to w m None = unless_refused w ((m.running, Running) ∷ []) (refused w NoCurrent)
restored_to w m (Some s) = unless_refused w (restore_checks w m s) (Done, restored w m s)

abbrev pub restore_current : World → (vm : Name) → Outcome
restore_current w vm = found_or w NoSuchMachine (machine_of w vm) (λ m. restored_to w m (current_of m))

-- ---- snapshot delete

abbrev pub is_this : Name → Option Name → Bool
is_this name None = false
is_this name (Some other) = bytes_eq other name

-- what stands on a snapshot: its children, and the machine where the snapshot is current
abbrev pub dependents : WorldMachine → Name → ℕ
dependents m name =
    count_by (λ (s : WorldSnapshot). is_this name s.parent) m.snapshots + (if is_this name m.current then 1 else 0)

-- the children of a deleted snapshot have its parent, and so has the machine
abbrev pub parent_after : WorldSnapshot → Option Name → Option Name
parent_after gone parent = if is_this gone.name parent then gone.parent else parent

abbrev pub adopted : WorldSnapshot → WorldSnapshot → WorldSnapshot
adopted gone s = record s { parent = parent_after gone s.parent }

-- the snapshots of a machine after one was deleted
abbrev pub snapshots_after : WorldMachine → WorldSnapshot → List WorldSnapshot
snapshots_after m gone = map (adopted gone) (without snapshot_name gone.name m.snapshots)

-- the slots of a snapshot with copies on the media's own files, in the order of ports
abbrev pub base_slots : World → WorldMachine → WorldSnapshot → List WorldSlot
base_slots w m gone = filter (λ (s : WorldSlot). has_own s && is_base_of w (slots_named gone.parent m.snapshots) s) gone.slots

-- those with copies in inner images
abbrev pub inner_slots : World → WorldMachine → WorldSnapshot → List WorldSlot
inner_slots w m gone = filter (λ (s : WorldSlot). has_own s && not (is_base_of w (slots_named gone.parent m.snapshots) s)) gone.slots

-- the slot of a medium
abbrev pub slot_of : Name → List WorldSlot → Option WorldSlot
slot_of name slots = find (λ (s : WorldSlot). bytes_eq s.medium name) slots

abbrev pub own_of : Name → List WorldSlot → Option FlatDisk
own_of name slots = option_and_then (λ (s : WorldSlot). s.own) (slot_of name slots)

-- A normal medium that thereby is in no snapshot any more has a disk of its own again.
abbrev pub is_thawed : WorldSnapshot → (after : List WorldMachine) → WorldMedium → Bool
is_thawed gone after m = is_normal m.mode && has_medium m.name gone.slots && not (list_any (is_in_snapshot m.name) after)

-- It is the machine's, which then shares it, or else that of the deleted snapshot.
abbrev pub thawed_disk : WorldMachine → WorldSnapshot → Name → Option FlatDisk
thawed_disk m gone name = if has_medium name m.slots then own_of name m.slots else own_of name gone.slots

-- Each medium in a base slot draws a new modification identifier, in the order of ports.
abbrev pub modify_after : World → (bases : List WorldSlot) → WorldMedium → List ℕ
modify_after w bases m =
    if has_medium m.name bases
    then identifier_of w.seed Modify (w.next + position_or_len (λ (s : WorldSlot). bytes_eq s.medium m.name) bases)
    else m.modify

abbrev pub medium_after : World → WorldMachine → WorldSnapshot → (after : List WorldMachine) → WorldMedium → WorldMedium
medium_after w m gone after medium = record medium {
  modify = modify_after w (base_slots w m gone) medium;
  flat = if is_thawed gone after medium then thawed_disk m gone medium.name else medium.flat;
}

-- the slots of the machine share the disks of media that are thawed
abbrev pub slot_after : World → WorldSnapshot → (after : List WorldMachine) → WorldSlot → WorldSlot
slot_after w gone after s =
    record s { own = if list_any (λ (m : WorldMedium). bytes_eq m.name s.medium && is_thawed gone after m) w.media then None else s.own }

-- No slot's disk and no other snapshot's changes.
abbrev pub deleted : World → WorldMachine → WorldSnapshot → World
deleted w m gone =
    let less = record m { snapshots = snapshots_after m gone; current = parent_after gone m.current } in
    let after = change_by machine_name m.name (λ _. less) w.machines in
    let machine = record less { slots = map (slot_after w gone after) m.slots } in
    let v = with_machine w machine (length (inner_slots w m gone)) in
    record v { next = w.next + length (base_slots w m gone); media = map (medium_after w m gone after) w.media }

abbrev pub delete_checks : World → WorldMachine → WorldSnapshot → List Check
delete_checks w m gone =
    (m.running, Running)
    ∷ (nat_lt 1 (dependents m gone.name), HasChildren (dependents m gone.name))
    ∷ (is_short w.next (length (base_slots w m gone)) || is_short w.inner (length (inner_slots w m gone)), IdsSpent)
    ∷ []

abbrev pub delete_snapshot : World → (vm : Name) → Name → Outcome
delete_snapshot w vm name =
    found_or w NoSuchMachine (machine_of w vm) (λ m.
    found_or w NoSuchSnapshot (snapshot_of m name) (λ gone.
    unless_refused w (delete_checks w m gone) (Done, deleted w m gone)))

-- ---- snapshot list

abbrev pub snapshot_line : WorldSnapshot → SnapLine
snapshot_line s = record { name = s.name; parent = s.parent }

abbrev pub list_snapshots : World → (vm : Name) → Outcome
list_snapshots w vm = found_or w NoSuchMachine (machine_of w vm) (λ m. (SnapList m.current (map snapshot_line m.snapshots), w))
