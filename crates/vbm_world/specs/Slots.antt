-- Commands on slots (VBoxManage storageattach, modifymedium --autoreset).
use Rattle.std.specs.Prelude.{ℕ, ◌&&◌, ◌==◌, not, nat_lt, Bool, if◌then◌else◌, List, [], ◌∷◌, filter, count_by, None, is_some}
use Rattle.vbm_modes.specs.Modes.{is_own}
use Rattle.vbm_world.specs.declared.command.Answer.TheVariants.{Done}
use Rattle.vbm_world.specs.declared.command.Refusal.TheVariants.{NoSuchMedium, NoSuchMachine, NoSuchSlot, Frozen, Running, SlotTaken, AlreadyAttached, WrongKind, IdsSpent}
use Rattle.vbm_world.specs.declared.world.WorldMedium.{WorldMedium}
use Rattle.vbm_world.specs.declared.world.WorldSlot.{WorldSlot}
use Rattle.vbm_world.specs.declared.world.WorldMachine.{WorldMachine}
use Rattle.vbm_named.specs.Names.{Name}
use Rattle.vbm_world.specs.World.{World, medium_of, has_own, has_medium, is_normal, is_immutable, is_frozen, is_slot_of}
use Rattle.vbm_world.specs.Places.{machine_of, slot_at, with_machine, with_slot}
use Rattle.vbm_world.specs.Refusals.{Check, is_short}
use Rattle.vbm_world.specs.Outcomes.{Outcome, unless_refused, found_or}

-- ---- storageattach VM PORT NAME

-- slots with one more in its place
unfoldable pub put_slot : WorldSlot → List WorldSlot → List WorldSlot
put_slot s [] = s ∷ []
put_slot s (t ∷ slots) = if nat_lt s.port t.port then s ∷ t ∷ slots else t ∷ put_slot s slots

-- The slot shares the medium's disk, or has a copy of it, by the mode. A start resets that of an immutable medium until it is told not to.
abbrev pub attached_slot : ℕ → WorldMedium → WorldSlot
attached_slot port m = record {
  port = port;
  medium = m.name;
  autoreset = is_immutable m.mode;
  own = if is_own m.mode then m.flat else None;
}

-- how many numbers of inner images slots take
abbrev pub drawn_for : List WorldSlot → ℕ
drawn_for slots = count_by has_own slots

abbrev pub attached : World → WorldMachine → ℕ → WorldMedium → World
attached w vm port m =
    with_machine w (record vm { slots = put_slot (attached_slot port m) vm.slots }) (drawn_for (attached_slot port m ∷ []))

abbrev pub attach_checks : World → WorldMachine → ℕ → WorldMedium → List Check
attach_checks w vm port m =
    (is_frozen w.machines m, Frozen)
    ∷ (vm.running, Running)
    ∷ (is_some (slot_at port vm.slots), SlotTaken)
    ∷ (has_medium m.name vm.slots, AlreadyAttached)
    ∷ (is_short w.inner (drawn_for (attached_slot port m ∷ [])), IdsSpent)
    ∷ []

abbrev pub attach_medium : World → (vm : Name) → ℕ → Name → Outcome
attach_medium w vm port name =
    found_or w NoSuchMachine (machine_of w vm) (λ m.
    found_or w NoSuchMedium (medium_of w name) (λ medium.
    unless_refused w (attach_checks w m port medium) (Done, attached w m port medium)))

-- ---- storageattach VM PORT none

abbrev pub without_port : ℕ → List WorldSlot → List WorldSlot
without_port port slots = filter (λ (s : WorldSlot). not (s.port == port)) slots

-- the machine's own disk of a normal medium is kept, since a snapshot has the medium
abbrev pub detach_checks : World → WorldMachine → WorldSlot → List Check
detach_checks w vm s = (has_own s && is_slot_of is_normal w s, Frozen) ∷ (vm.running, Running) ∷ []

-- The slot is gone, with its own disk.
abbrev pub detach_medium : World → (vm : Name) → ℕ → Outcome
detach_medium w vm port =
    found_or w NoSuchMachine (machine_of w vm) (λ m.
    found_or w NoSuchSlot (slot_at port m.slots) (λ s.
    unless_refused w (detach_checks w m s) (Done, with_machine w (record m { slots = without_port port m.slots }) 0)))

-- ---- modifymedium VM:PORT --autoreset

abbrev pub autoreset_checks : World → WorldMachine → WorldSlot → List Check
autoreset_checks w vm s = (vm.running, Running) ∷ (not (is_slot_of is_immutable w s), WrongKind) ∷ []

abbrev pub set_autoreset : World → (vm : Name) → ℕ → Bool → Outcome
set_autoreset w vm port on =
    found_or w NoSuchMachine (machine_of w vm) (λ m.
    found_or w NoSuchSlot (slot_at port m.slots) (λ s.
    unless_refused w (autoreset_checks w m s) (
      Done,
      with_machine w (record m { slots = with_slot port (λ (t : WorldSlot). record t { autoreset = on }) m.slots }) 0,
    )))
