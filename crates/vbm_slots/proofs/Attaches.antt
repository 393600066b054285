-- Attaching a medium.
use Rattle.std.proofs.Common.{◌≡◌, ℕ, ◌+◌, ◌<◌, ◌≤◌, Bool, true, false, List, [], ◌∷◌, map, Option, Some, None, refl, sym, ap, subst, ◌∙◌, arith, cond, is_some, IsTrue}
use Rattle.std.specs.Prelude.{find, ◌==◌, nat_lt}
use Rattle.std.specs.List.{list_any}
use Rattle.std.specs.Str.{bytes_eq}
use Rattle.std.proofs.lemmas.Bool.{cond_both, le-ltb}
use Rattle.vbm_ports.specs.Files.{Files}
use Rattle.vbm_ids.specs.declared.TheConstants.{NUMBER_LIMIT}
use Rattle.vbm_modes.specs.declared.Mode.{Mode}
use Rattle.vbm_modes.specs.declared.Mode.TheVariants.{Normal, Immutable, Writethrough, MultiAttach, Readonly}
use Rattle.vbm_modes.specs.Modes.{is_own, is_reset}
use Rattle.vbm_machines.specs.declared.Held.TheVariants.{Direct, Own}
use Rattle.vbm_machines.specs.declared.Machine.{Machine}
use Rattle.vbm_machines.specs.declared.Slot.{Slot}
use Rattle.vbm_machines.specs.Slots.{slot_entered, new_slot}
use Rattle.vbm_named.specs.Names.{Name, find_by, has_name}
use Rattle.vbm_named.proofs.Lists.{same_name, find_named, any_map, any_none, none_of_any, All-find}
use Rattle.vbm_world.specs.declared.command.Answer.TheVariants.{Done, Refused}
use Rattle.vbm_world.specs.declared.command.Command.TheVariants.{Attach}
use Rattle.vbm_world.specs.declared.command.Refusal.{Refusal}
use Rattle.vbm_world.specs.declared.command.Refusal.TheVariants.{NoSuchMachine, NoSuchMedium, Frozen, Running, SlotTaken, AlreadyAttached, IdsSpent}
use Rattle.vbm_world.specs.declared.limits.TheConstants.{PORT_LIMIT}
use Rattle.vbm_world.specs.declared.world.WorldMedium.{WorldMedium}
use Rattle.vbm_world.specs.Loose.{all_settled, is_refused}
use Rattle.vbm_world.specs.Outcomes.{Outcome, unless_refused, refused, refused_or}
use Rattle.vbm_world.specs.Refusals.{Check, first_refusal, is_short}
use Rattle.vbm_world.specs.Slots as world
use Rattle.vbm_world.specs.Step.{step_of}
use Rattle.vbm_world.specs.World.{World, has_medium, is_frozen, is_immutable}
use Rattle.vbm_registry.specs.declared.media.Medium.{Medium}
use Rattle.vbm_registry.specs.Entries.{machine_renewed}
use Rattle.vbm_registry.specs.Grammar.{machine_entry_name}
use Rattle.vbm_registry.specs.Library.{medium_entry_name}
use Rattle.vbm_registry.specs.Named.{NamedLibrary, NamedMachine, NamedSlot, machine_named, medium_names, name_in, named, named_machine_name, slot_named}
use Rattle.vbm_registry.specs.Renumbered.{medium_place, has_medium_at, with_machine_renewed}
use Rattle.vbm_registry.specs.Rules.{IsLibrary, has_mode, is_medium_of}
use Rattle.vbm_registry.proofs.LowPlaces.{low_places}
use Rattle.vbm_standing.specs.Edits as edits
use Rattle.vbm_standing.specs.Edits.{CanAttach, Renewal, attachment, attachment_by, library_attached, none_gone, put_first, put_named_slot, renewal_count, renewed_slots}
use Rattle.vbm_standing.specs.Meaning.{has_slot_of, is_frozen_in, medium_in, world_of}
use Rattle.vbm_standing.proofs.AttachedRules.{attached_rules, attached_store}
use Rattle.vbm_standing.proofs.AttachedWorlds.{attach-world}
use Rattle.vbm_standing.proofs.WorldParts.{frozen-same, medium_of-world}
use Rattle.vbm_store.specs.declared.store.Store.{Store}
use Rattle.vbm_store.specs.declared.decision.Turn.{Turn}
use Rattle.vbm_store.specs.Serves.{serves, changed_of, running_of, IsWritable, IsSoundStore, Holds}
use Rattle.vbm_store.specs.Steps.{Answers, Plans, IsSoundTurn}
use Rattle.vbm_slots.specs.Slots.{is_at, attach_checks, machine_attached, CanAttachTo, Writes}
use Rattle.vbm_slots.proofs.Direct.{no_inners, no_mergings, modes_shared}
use Rattle.vbm_slots.proofs.Marks.{mark_of, seen, machine_of-serves}
use Rattle.vbm_slots.proofs.Renewed.{only_machine, named_there, renewed_there, named_renewed, renewed_writable, renewed_files, edited_after, renews, renews_sound}
use Rattle.vbm_slots.proofs.SlotsSeen.{some_found, name_there, slots_have, some_slot-seen, has_medium-seen}

-- ---- the checks

abbrev by_tests : Bool → Bool → Bool → Bool → Bool → Option Refusal
by_tests frozen runs taken has short =
    first_refusal ((frozen, Frozen) ∷ (runs, Running) ∷ (taken, SlotTaken) ∷ (has, AlreadyAttached) ∷ (short, IdsSpent) ∷ [])

record AllPass (a b c d : Bool) : Type 0 where
  frozen : a ≡ false
  runs : b ≡ false
  taken : c ≡ false
  has : d ≡ false

passed : (a b c d : Bool) → by_tests a b c d false ≡ None → AllPass a b c d
passed true b c d e = absurd cc
passed false true c d e = absurd cc
passed false false true d e = absurd cc
passed false false false true e = absurd cc
passed false false false false e = record { frozen = refl; runs = refl; taken = refl; has = refl }

-- a slot that shares the medium's disk takes no number
module _ (w : World) (few : w.inner ≤ NUMBER_LIMIT) where
  takes_none : (port : ℕ) (m : WorldMedium) → is_own m.mode ≡ false → is_short w.inner (world.drawn_for (world.attached_slot port m ∷ [])) ≡ false
  takes_none port m shared =
      ap (λ c. is_short w.inner (world.drawn_for (record { port = port; medium = m.name; autoreset = is_immutable m.mode; own = cond c m.flat None } ∷ []))) shared
      ∙ le-ltb NUMBER_LIMIT (w.inner + 0) (omega (arith, few))

shared_medium : (e : Store) → IsSoundStore e → (name : Name) (medium : Medium) → find_by medium_entry_name name e.library.media ≡ Some medium
    → is_own medium.mode ≡ false
shared_medium e sound name medium found =
    All-find medium_entry_name (λ (n : Medium). is_own n.mode ≡ false) name medium e.library.media (modes_shared e.library sound.library) found

-- slots that have the medium
has_same : (e : Store) → IsSoundStore e → (name : Name) (m : Machine) (medium : Medium)
    → find_by medium_entry_name name e.library.media ≡ Some medium
    → has_slot_of name (map (slot_named (medium_names e.library.media)) m.slots) ≡ has_medium_at (medium_place e.library medium.name) m.slots
has_same e sound name m medium found =
    slots_have e.library sound.library.rules name medium found m.slots
    ∙ ap (λ (n : Name). has_medium_at (medium_place e.library n) m.slots) (sym (same_name medium.name name (find_named medium_entry_name name medium e.library.media found)))

-- ---- refusals

stopped : (w : World) (checks : List Check) (o : Outcome) (r : Refusal) → first_refusal checks ≡ Some r → unless_refused w checks o ≡ refused w r
stopped w checks o r stops = ap (λ (x : Option Refusal). refused_or w x o) stops

unstopped : (w : World) (checks : List Check) (o : Outcome) → first_refusal checks ≡ None → unless_refused w checks o ≡ o
unstopped w checks o passes = ap (λ (x : Option Refusal). refused_or w x o) passes

module _ (e : Store) (files : Files) (vm name : Name) (port : ℕ) where
  refuses : (refusal : Refusal) → (Refused refusal, serves e files) ≡ step_of (serves e files) (Attach vm port name) 0
      → Answers files e (Attach vm port name) (Refused refusal)
  refuses refusal by = (by, λ u. ap (λ (o : Outcome). cond (is_refused o.0) u all_settled) (sym by))

  pub attaches_no_machine : find_by machine_entry_name vm e.library.machines ≡ None → Answers files e (Attach vm port name) (Refused NoSuchMachine)
  attaches_no_machine none = refuses NoSuchMachine (rw (machine_of-serves e files vm, none) refl)

  module _ (m : Machine) (is : find_by machine_entry_name vm e.library.machines ≡ Some m) where
    pub attaches_no_medium : find_by medium_entry_name name e.library.media ≡ None → Answers files e (Attach vm port name) (Refused NoSuchMedium)
    attaches_no_medium none = refuses NoSuchMedium (rw (
      machine_of-serves e files vm,
      is,
      medium_of-world (changed_of e) (running_of e) (named e.library) files name,
      none,
    ) refl)

    module _ (medium : Medium) (found : find_by medium_entry_name name e.library.media ≡ Some medium) where
      abbrev it : WorldMedium
      it = medium_in (changed_of e) (named e.library) files medium

      abbrev checks : List Check
      checks = world.attach_checks (serves e files) (seen e files m) port it

      abbrev done : Outcome
      done = (Done, world.attached (serves e files) (seen e files m) port it)

      attach_step : step_of (serves e files) (Attach vm port name) 0 ≡ unless_refused (serves e files) checks done
      attach_step = rw (machine_of-serves e files vm, is, medium_of-world (changed_of e) (running_of e) (named e.library) files name, found) refl

      module _ (sound : IsSoundStore e) where
        -- the machine's checks are those of the library
        checks_same : first_refusal checks ≡ first_refusal (attach_checks e.library m medium port)
        unfolding world_of medium_in
        checks_same =
            let l = named e.library in
            let rules = sound.library.rules in
            let frozen : is_frozen (serves e files).machines it ≡ is_frozen_in l.machines medium =
            frozen-same (running_of e) l files l.machines medium it refl refl in
            let vm_is : m.name ≡ vm = same_name m.name vm (find_named machine_entry_name vm m e.library.machines is) in
            let runs : (seen e files m).running ≡ m.running =
            ap (running_of e) vm_is ∙ mark_of vm e.library.machines m (low_places e.library rules).machines is in
            let taken = some_slot-seen e files port m in
            let by_name = same_name medium.name name (find_named medium_entry_name name medium e.library.media found) in
            let has : has_medium medium.name (seen e files m).slots ≡ has_medium_at (medium_place e.library medium.name) m.slots =
            ap (λ (n : Name). has_medium n (seen e files m).slots) by_name ∙ has_medium-seen e files name m ∙ has_same e sound name m medium found in
            let short = takes_none (serves e files) rules.inner port it (shared_medium e sound name medium found) in
            λ i. by_tests (frozen i) (runs i) (taken i) (has i) (short i)

        pub attaches_refused : (refusal : Refusal) → first_refusal (attach_checks e.library m medium port) ≡ Some refusal
            → Answers files e (Attach vm port name) (Refused refusal)
        attaches_refused refusal stops = refuses refusal (sym (attach_step ∙ stopped (serves e files) checks done refusal (checks_same ∙ stops)))

        attach_done : first_refusal (attach_checks e.library m medium port) ≡ None
            → step_of (serves e files) (Attach vm port name) 0 ≡ done
        attach_done passes = attach_step ∙ unstopped (serves e files) checks done (checks_same ∙ passes)

-- ---- what is known where no check refuses

-- no number is drawn
none_drawn : (e : Store) → IsSoundStore e → (name : Name) (medium : Medium) → find_by medium_entry_name name e.library.media ≡ Some medium
    → is_medium_of is_own e.library.media name ≡ false
none_drawn e sound name medium found = ap (has_mode is_own) found ∙ shared_medium e sound name medium found

module _ (e : Store) (sound : IsSoundStore e) (vm name : Name) (port : ℕ) (m : Machine) (is : find_by machine_entry_name vm e.library.machines ≡ Some m)
    (medium : Medium) (found : find_by medium_entry_name name e.library.media ≡ Some medium) where
  abbrev places : List NamedSlot
  places = map (slot_named (medium_names e.library.media)) m.slots

  count : renewal_count (attachment e.library.media port name ∷ []) ≡ 0
  count = ap (λ c. renewal_count (attachment_by c (edits.new_slot e.library.media port name) ∷ [])) (none_drawn e sound name medium found)

  taken_same : list_any (λ (t : NamedSlot). t.port == port) places ≡ is_some (find (is_at port) m.slots)
  taken_same = any_map (slot_named (medium_names e.library.media)) (λ (t : NamedSlot). t.port == port) m.slots ∙ sym (some_found (is_at port) m.slots)

  pub can_attach : port < PORT_LIMIT → first_refusal (attach_checks e.library m medium port) ≡ None → CanAttachTo e.library vm port name
  can_attach port_is passes =
      let pass = passed (is_frozen_in (named e.library).machines medium) m.running (is_some (find (is_at port) m.slots))
      (has_medium_at (medium_place e.library medium.name) m.slots) passes in
      record {
        machine = m;
        medium = medium;
        found = is;
        off = pass.runs;
        can = record {
          found = found;
          unfrozen = pass.frozen;
          port_is = port_is;
          free = none_of_any (λ (t : NamedSlot). t.port == port) places (taken_same ∙ pass.taken);
          apart = none_of_any (λ (t : NamedSlot). bytes_eq t.medium name) places (has_same e sound name m medium found ∙ pass.has);
          drawn = omega (arith, count, sound.library.rules.inner);
        };
      }

  all_pass : m.running ≡ false → CanAttach (named e.library) (machine_named (medium_names e.library.media) m) port name medium
      → first_refusal (attach_checks e.library m medium port) ≡ None
  all_pass off can =
      let taken : is_some (find (is_at port) m.slots) ≡ false = sym taken_same ∙ any_none (λ (t : NamedSlot). t.port == port) places can.free in
      let has : has_medium_at (medium_place e.library medium.name) m.slots ≡ false =
      sym (has_same e sound name m medium found) ∙ any_none (λ (t : NamedSlot). bytes_eq t.medium name) places can.apart in
      let frozen = can.unfrozen in
      (λ i. by_tests (frozen i) (off i) (taken i) (has i) false)

-- ---- the machine with the slot

reset_mode : (mode : Mode) → is_reset mode true ≡ is_immutable mode
reset_mode Normal = refl
reset_mode Immutable = refl
reset_mode Writethrough = refl
reset_mode MultiAttach = refl
reset_mode Readonly = refl

entered_named : (names : List Name) (s : Slot) (slots : List Slot)
    → map (slot_named names) (slot_entered s slots) ≡ put_named_slot (slot_named names s) (map (slot_named names) slots)
unfolding slot_entered
entered_named names s [] = refl
entered_named names s (t ∷ slots) = cond_both (nat_lt s.port t.port) (s ∷ t ∷ slots) (t ∷ slot_entered s slots)
    (λ l. map (slot_named names) l ≡ put_named_slot (slot_named names s) (map (slot_named names) (t ∷ slots)))
    (λ before. rw before refl) (λ behind. rw behind (ap (λ l. slot_named names t ∷ l) (entered_named names s slots)))

module _ (e : Store) (sound : IsSoundStore e) (vm name : Name) (port : ℕ) (can : CanAttachTo e.library vm port name) where
  abbrev l : NamedLibrary
  l = named e.library

  abbrev names : List Name
  names = medium_names e.library.media

  abbrev m : Machine
  m = can.machine

  abbrev nm : NamedMachine
  nm = machine_named names m

  abbrev medium : Medium
  medium = can.medium

  abbrev pub with_slot : Machine
  with_slot = machine_attached e.library m port name medium.mode

  own : is_medium_of is_own l.media name ≡ false
  own = none_drawn e sound name medium can.can.found

  is : find_by machine_entry_name m.name e.library.machines ≡ Some m
  is =
      ap (λ (n : Name). find_by machine_entry_name n e.library.machines)
      (same_name m.name vm (find_named machine_entry_name vm m e.library.machines can.found)) ∙ can.found

  abbrev slot : NamedSlot
  slot = edits.new_slot l.media port name

  slot_is : slot_named names (new_slot port (medium_place e.library name) medium.mode e.library.inner) ≡ slot
  slot_is =
      let place = medium_place e.library name in
      let medium_is : name_in names place ≡ name = name_there e.library sound.library.rules name medium can.can.found in
      let auto : is_reset medium.mode true ≡ is_medium_of is_immutable l.media name = reset_mode medium.mode ∙ sym (ap (has_mode is_immutable) can.can.found) in
      let held : cond (is_own medium.mode) (Own e.library.inner) Direct ≡ Direct =
      ap (λ c. cond c (Own e.library.inner) Direct) (shared_medium e sound name medium can.can.found) in
      λ i. record { port = port; medium = medium_is i; autoreset = auto i; held = held i }

  named_with : machine_named names with_slot ≡ record nm { slots = put_named_slot slot nm.slots }
  named_with =
      let slots = entered_named names (new_slot port (medium_place e.library name) medium.mode e.library.inner) m.slots
      ∙ ap (λ s. put_named_slot s nm.slots) slot_is in
      λ i. record nm { slots = slots i }

  abbrev rs : List Renewal
  rs = attachment l.media port name ∷ []

  none_more : renewal_count rs ≡ 0
  none_more = ap (λ c. renewal_count (attachment_by c slot ∷ [])) own

  abbrev edited : NamedMachine
  edited = record nm { slots = put_first (renewed_slots l.inner rs) nm.slots }

  edited_is : edited ≡ record nm { slots = put_named_slot slot nm.slots }
  edited_is = ap (λ c. record nm { slots = put_first (renewed_slots l.inner (attachment_by c slot ∷ [])) nm.slots }) own

  attached_is : named (with_machine_renewed e.library with_slot) ≡ library_attached l nm port name
  attached_is =
      named_renewed e sound m with_slot is refl refl refl ∙ ap (machine_renewed l) (named_with ∙ sym edited_is)
      ∙ sym (only_machine l none_gone rs edited (no_inners e.library sound.library) none_more)

  plain : l.merging ≡ []
  plain = no_mergings e.library sound.library

  there : find_by named_machine_name nm.name l.machines ≡ Some nm
  there = named_there e sound m with_slot is refl refl refl

  rules : IsLibrary (library_attached l nm port name)
  rules = attached_rules l nm port name medium sound.library.rules plain there can.can

  rules_with : IsLibrary (named (with_machine_renewed e.library with_slot))
  rules_with = subst IsLibrary (sym attached_is) rules

  -- the machine that a look-up finds gets the slot
  pub attached_one : (k n : Machine) → find_by machine_entry_name vm e.library.machines ≡ Some k
      → ((x : Medium) → find_by medium_entry_name name e.library.media ≡ Some x → n ≡ machine_attached e.library k port name x.mode) → n ≡ with_slot
  attached_one k n there attached =
      let both : Some k ≡ Some m = sym there ∙ can.found in
      let same : k ≡ m = cc in
      attached medium can.can.found ∙ ap (λ (x : Machine). machine_attached e.library x port name medium.mode) same

  pub attached_there : IsTrue (has_name machine_entry_name with_slot.name e.library.machines)
  attached_there = renewed_there e sound m with_slot is refl refl refl

  pub attached_writable : IsWritable (with_machine_renewed e.library with_slot)
  attached_writable = renewed_writable e sound m with_slot is refl refl refl rules_with

  pub attaches_sound : (turn : Turn) → Writes (with_machine_renewed e.library with_slot) turn → IsSoundTurn e turn
  attaches_sound = renews_sound e sound m with_slot is refl refl refl rules_with

  pub attaches : (files : Files) → Holds e.library e.images files → (turn : Turn) → Writes (with_machine_renewed e.library with_slot) turn
      → Plans files e (Attach vm port name) turn
  attaches files holds =
      let after = renewed_files e sound m with_slot is refl refl refl files holds in
      let files_are = edited_after e sound m with_slot is refl refl refl files holds none_gone rs none_more in
      let passes = all_pass e sound vm name port m can.found medium can.can.found can.off can.can in
      renews e sound m with_slot is refl refl refl files holds (library_attached l nm port name) (Attach vm port name) attached_is rules
      (attached_store l nm port name medium sound.library.rules plain there can.can files after files_are holds.store)
      (ap (λ (v : World). (Done, v))
      (attach-world (changed_of e) (running_of e) l files after nm port name medium sound.library.rules plain there can.can.found files_are)
      ∙ sym (attach_done e files vm name port m can.found medium can.can.found sound passes))
