-- Taking a medium off.
use Rattle.std.proofs.Common.{◌≡◌, ℕ, Bool, true, false, not, List, [], Some, None, refl, sym, ap, subst, ◌∙◌, cond, IsTrue}
use Rattle.std.specs.Prelude.{find, ◌==◌}
use Rattle.std.specs.List.{AllByRecursion}
use Rattle.vbm_ports.specs.Files.{Files}
use Rattle.vbm_machines.specs.declared.Held.TheVariants.{Direct}
use Rattle.vbm_machines.specs.declared.Machine.{Machine}
use Rattle.vbm_machines.specs.declared.Slot.{Slot}
use Rattle.vbm_named.specs.Names.{Name, find_by, has_name}
use Rattle.vbm_named.proofs.Lists.{same_name, find_named, All-find, All-map, All-of_map}
use Rattle.vbm_world.specs.declared.command.Answer.TheVariants.{Done, Refused}
use Rattle.vbm_world.specs.declared.command.Command.TheVariants.{Detach}
use Rattle.vbm_world.specs.declared.command.Refusal.{Refusal}
use Rattle.vbm_world.specs.declared.command.Refusal.TheVariants.{NoSuchMachine, NoSuchSlot, Running}
use Rattle.vbm_world.specs.Loose.{all_settled, is_refused}
use Rattle.vbm_world.specs.Outcomes.{Outcome}
use Rattle.vbm_world.specs.Places.{with_machine}
use Rattle.vbm_world.specs.Slots.{without_port}
use Rattle.vbm_world.specs.Step.{step_of}
use Rattle.vbm_world.specs.World.{World, has_own}
use Rattle.vbm_registry.specs.Entries.{machine_renewed}
use Rattle.vbm_registry.specs.Grammar.{machine_entry_name}
use Rattle.vbm_registry.specs.Named.{NamedLibrary, NamedMachine, NamedSlot, machine_named, medium_names, named, named_machine_name, slot_named}
use Rattle.vbm_registry.specs.Renumbered.{with_machine_renewed}
use Rattle.vbm_registry.specs.Rules.{IsLibrary}
use Rattle.vbm_registry.proofs.LowPlaces.{low_places}
use Rattle.vbm_standing.specs.Edits.{CanDetach, library_detached, own_in, slots_at_port, slots_off_port}
use Rattle.vbm_standing.proofs.DetachedRules.{detached_rules, detached_store}
use Rattle.vbm_standing.proofs.DetachedWorlds.{filter-map, detach-world}
use Rattle.vbm_store.specs.declared.store.Store.{Store}
use Rattle.vbm_store.specs.declared.decision.Turn.{Turn}
use Rattle.vbm_store.specs.Serves.{serves, changed_of, running_of, IsWritable, IsSoundStore, Holds}
use Rattle.vbm_store.specs.Steps.{Answers, Plans, IsSoundTurn}
use Rattle.vbm_slots.specs.Slots.{is_at, machine_detached, CanDetachFrom, Writes}
use Rattle.vbm_slots.proofs.Direct.{no_inners, no_mergings, slots_direct}
use Rattle.vbm_slots.proofs.Marks.{mark_of, seen, machine_of-serves}
use Rattle.vbm_slots.proofs.Renewed.{only_machine, named_there, renewed_there, named_renewed, renewed_writable, renewed_files, edited_after, renews, renews_sound}
use Rattle.vbm_slots.proofs.SlotsSeen.{All-found, slot_seen, slot_at-seen}

-- ---- what the step does

module _ (e : Store) (files : Files) (vm : Name) (port : ℕ) where
  refuses : (refusal : Refusal) → (Refused refusal, serves e files) ≡ step_of (serves e files) (Detach vm port) 0
      → Answers files e (Detach vm port) (Refused refusal)
  refuses refusal by = (by, λ u. ap (λ (o : Outcome). cond (is_refused o.0) u all_settled) (sym by))

  pub detaches_no_machine : find_by machine_entry_name vm e.library.machines ≡ None → Answers files e (Detach vm port) (Refused NoSuchMachine)
  detaches_no_machine none = refuses NoSuchMachine (rw (machine_of-serves e files vm, none) refl)

  module _ (m : Machine) (is : find_by machine_entry_name vm e.library.machines ≡ Some m) where
    pub detaches_no_slot : find (is_at port) m.slots ≡ None → Answers files e (Detach vm port) (Refused NoSuchSlot)
    detaches_no_slot none = refuses NoSuchSlot (rw (machine_of-serves e files vm, is, slot_at-seen e files port m, none) refl)

    module _ (s : Slot) (there : find (is_at port) m.slots ≡ Some s) (sound : IsSoundStore e) where
      direct : s.held ≡ Direct
      direct = All-found (is_at port) (λ (t : Slot). t.held ≡ Direct) s m.slots
          (All-find machine_entry_name (λ (x : Machine). AllByRecursion (λ (t : Slot). t.held ≡ Direct) x.slots) vm m e.library.machines
          (slots_direct e.library sound.library) is) there

      none_own : has_own (slot_seen e files s) ≡ false
      none_own = ap (λ h. has_own (slot_seen e files (record s { held = h }))) direct

      runs : running_of e m.name ≡ m.running
      runs =
          ap (running_of e) (same_name m.name vm (find_named machine_entry_name vm m e.library.machines is))
          ∙ mark_of vm e.library.machines m (low_places e.library sound.library.rules).machines is

      pub detaches_running : m.running ≡ true → Answers files e (Detach vm port) (Refused Running)
      detaches_running on =
          let marked = runs ∙ on in
          refuses Running (rw (machine_of-serves e files vm, is, slot_at-seen e files port m, there, none_own, marked) refl)

      pub detach_done : m.running ≡ false → step_of (serves e files) (Detach vm port) 0
          ≡ (Done, with_machine (serves e files) (record (seen e files m) { slots = without_port port (seen e files m).slots }) 0)
      detach_done off =
          let marked = runs ∙ off in
          rw (machine_of-serves e files vm, is, slot_at-seen e files port m, there, none_own, marked) refl

-- ---- the machine without the slot

module _ (e : Store) (sound : IsSoundStore e) (vm : Name) (port : ℕ) (can : CanDetachFrom e.library vm port) where
  abbrev l : NamedLibrary
  l = named e.library

  abbrev names : List Name
  names = medium_names e.library.media

  abbrev m : Machine
  m = can.machine

  abbrev nm : NamedMachine
  nm = machine_named names m

  abbrev pub without_slot : Machine
  without_slot = machine_detached port m

  is : find_by machine_entry_name m.name e.library.machines ≡ Some m
  is =
      ap (λ (n : Name). find_by machine_entry_name n e.library.machines)
      (same_name m.name vm (find_named machine_entry_name vm m e.library.machines can.found)) ∙ can.found

  -- no image goes with it
  can_detach : CanDetach l nm port
  can_detach = All-of_map (slot_named names) _ m.slots (All-map (λ (s : Slot). s.held ≡ Direct) _ (λ s direct here normal. direct) m.slots
      (All-find machine_entry_name (λ (x : Machine). AllByRecursion (λ (t : Slot). t.held ≡ Direct) x.slots) vm m e.library.machines
      (slots_direct e.library sound.library) can.found))

  abbrev edited : NamedMachine
  edited = record nm { slots = slots_off_port port nm.slots }

  named_without : machine_named names without_slot ≡ edited
  named_without =
      let slots = sym (filter-map (slot_named names) (λ (s : NamedSlot). not (s.port == port)) m.slots) in λ i. record nm { slots = slots i }

  abbrev gone : ℕ → Bool
  gone = own_in (slots_at_port port nm.slots)

  detached_is : named (with_machine_renewed e.library without_slot) ≡ library_detached l nm port
  detached_is =
      named_renewed e sound m without_slot is refl refl refl ∙ ap (machine_renewed l) named_without
      ∙ sym (only_machine l gone [] edited (no_inners e.library sound.library) refl)

  plain : l.merging ≡ []
  plain = no_mergings e.library sound.library

  there : find_by named_machine_name nm.name l.machines ≡ Some nm
  there = named_there e sound m without_slot is refl refl refl

  rules : IsLibrary (library_detached l nm port)
  rules = detached_rules l nm port sound.library.rules plain there can_detach

  rules_without : IsLibrary (named (with_machine_renewed e.library without_slot))
  rules_without = subst IsLibrary (sym detached_is) rules

  -- the machine that a look-up finds loses it
  pub detached_one : (k n : Machine) → find_by machine_entry_name vm e.library.machines ≡ Some k → n ≡ machine_detached port k → n ≡ without_slot
  detached_one k n there detached =
      let both : Some k ≡ Some m = sym there ∙ can.found in
      let same : k ≡ m = cc in
      detached ∙ ap (machine_detached port) same

  pub detached_there : IsTrue (has_name machine_entry_name without_slot.name e.library.machines)
  detached_there = renewed_there e sound m without_slot is refl refl refl

  pub detached_writable : IsWritable (with_machine_renewed e.library without_slot)
  detached_writable = renewed_writable e sound m without_slot is refl refl refl rules_without

  pub detaches_sound : (turn : Turn) → Writes (with_machine_renewed e.library without_slot) turn → IsSoundTurn e turn
  detaches_sound = renews_sound e sound m without_slot is refl refl refl rules_without

  pub detaches : (files : Files) → Holds e.library e.images files → (turn : Turn) → Writes (with_machine_renewed e.library without_slot) turn
      → Plans files e (Detach vm port) turn
  detaches files holds =
      let after = renewed_files e sound m without_slot is refl refl refl files holds in
      let files_are = edited_after e sound m without_slot is refl refl refl files holds gone [] refl in
      renews e sound m without_slot is refl refl refl files holds (library_detached l nm port) (Detach vm port) detached_is rules
      (detached_store l nm port sound.library.rules plain there can_detach files after files_are holds.store)
      (ap (λ (v : World). (Done, v))
      (detach-world (changed_of e) (running_of e) l files after nm port sound.library.rules plain there files_are)
      ∙ sym (detach_done e files vm port m can.found can.slot can.there sound can.off))
