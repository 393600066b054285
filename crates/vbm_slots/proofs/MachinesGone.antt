-- Removing a machine.
use Rattle.std.proofs.Common.{◌≡◌, true, false, ◌||◌, not, List, [], ◌∷◌, length, map, Some, None, refl, sym, ap, subst, ◌∙◌, cond, arith}
use Rattle.std.specs.Prelude.{nat_lt}
use Rattle.std.specs.Option.{option_map}
use Rattle.std.proofs.lemmas.Bool.{or_parts, lt-ltb, ltb-false}
use Rattle.std.proofs.lemmas.List.{nil_from_length}
use Rattle.vbm_ports.specs.Files.{Files}
use Rattle.vbm_intent.specs.declared.change.Change.{Change}
use Rattle.vbm_intent.specs.declared.log.Log.{Log}
use Rattle.vbm_named.specs.Names.{Name, find_by, without, Rises}
use Rattle.vbm_named.proofs.Lists.{same_name, find_named, find_map, All-without}
use Rattle.vbm_world.specs.declared.command.Answer.TheVariants.{Done, Refused}
use Rattle.vbm_world.specs.declared.command.Command.TheVariants.{UnregisterVm}
use Rattle.vbm_world.specs.declared.command.Refusal.{Refusal}
use Rattle.vbm_world.specs.declared.command.Refusal.TheVariants.{NoSuchMachine, InUse, Running}
use Rattle.vbm_world.specs.Loose.{all_settled, is_refused}
use Rattle.vbm_world.specs.Machines.{is_empty}
use Rattle.vbm_world.specs.Outcomes.{Outcome}
use Rattle.vbm_world.specs.Step.{step_of}
use Rattle.vbm_world.specs.World.{World, machine_name}
use Rattle.vbm_machines.specs.declared.Machine.{Machine}
use Rattle.vbm_registry.specs.declared.library.Library.{Library}
use Rattle.vbm_registry.specs.Entries.{machine_gone}
use Rattle.vbm_registry.specs.Grammar.{machine_entry_name}
use Rattle.vbm_registry.specs.Named.{NamedMachine, machine_named, medium_names, slot_named, snapshot_named, snapshot_names, named, named_machine_name}
use Rattle.vbm_registry.specs.Renumbered.{without_machine_entry}
use Rattle.vbm_registry.specs.Rules.{IsLibrary}
use Rattle.vbm_registry.proofs.LowPlaces.{low_places}
use Rattle.vbm_registry.proofs.RenumberedLaws.{named-without_machine}
use Rattle.vbm_standing.specs.Faults.{IsStore}
use Rattle.vbm_standing.specs.Meaning.{slot_in, snapshot_in, world_of}
use Rattle.vbm_standing.proofs.MachineRules.{machine_gone_rules}
use Rattle.vbm_standing.proofs.MachineWorlds.{world-without_machine}
use Rattle.vbm_standing.proofs.MediaStores.{store-with_machines}
use Rattle.vbm_store.specs.declared.store.Store.{Store}
use Rattle.vbm_store.specs.declared.images.Edit.TheVariants.{Keep}
use Rattle.vbm_store.specs.Edits.{store_after}
use Rattle.vbm_store.specs.Plans.{library_changes}
use Rattle.vbm_store.specs.Serves.{serves, changed_of, running_of, running_in, IsWritable, IsSoundStore, Holds}
use Rattle.vbm_store.specs.Steps.{Answers, Manages}
use Rattle.vbm_slots.specs.Machines.{has_parts, CanUnregisterVm}
use Rattle.vbm_slots.proofs.Marks.{marks_without, mark_of, seen, machine_of-serves}
use Rattle.vbm_slots.proofs.Written.{now, now_images, writes}

-- the entries of machines are in the order of their names
pub entries_rise : (l : Library) → IsLibrary (named l) → Rises machine_entry_name l.machines
entries_rise l is = (low_places l is).machines

-- ---- refusals

some_seen : {X Y Z : Type 0} (f : X → Y) (g : Y → Z) (xs : List X) → not (is_empty (map g (map f xs))) ≡ nat_lt 0 (length xs)
some_seen f g [] = refl
some_seen f g (x ∷ xs) = sym (lt-ltb 0 (length (x ∷ xs)) (omega arith))

nothing : {X : Type 0} (xs : List X) → nat_lt 0 (length xs) ≡ false → xs ≡ []
nothing xs none = nil_from_length xs (omega (arith, ltb-false 0 (length xs) none))

-- a machine that has neither has no slots, and no snapshots
pub no_parts : (m : Machine) → has_parts m ≡ false → (m.slots ≡ []) × (m.snapshots ≡ [])
no_parts m none =
    let both = or_parts (nat_lt 0 (length m.slots)) (nat_lt 0 (length m.snapshots)) none in
    (nothing m.slots both.0, nothing m.snapshots both.1)

module _ (e : Store) (files : Files) (name : Name) where
  refuses : (refusal : Refusal) → (Refused refusal, serves e files) ≡ step_of (serves e files) (UnregisterVm name) 0
      → Answers files e (UnregisterVm name) (Refused refusal)
  refuses refusal by = (by, λ u. ap (λ (o : Outcome). cond (is_refused o.0) u all_settled) (sym by))

  pub removes_none : find_by machine_entry_name name e.library.machines ≡ None → Answers files e (UnregisterVm name) (Refused NoSuchMachine)
  removes_none none = refuses NoSuchMachine (rw (machine_of-serves e files name, none) refl)

  module _ (m : Machine) (is : find_by machine_entry_name name e.library.machines ≡ Some m) where
    parts_seen : (not (is_empty (seen e files m).slots) || not (is_empty (seen e files m).snapshots)) ≡ has_parts m
    parts_seen = λ i. some_seen (slot_named (medium_names e.library.media)) (slot_in (named e.library) files) m.slots i
        || some_seen (snapshot_named (medium_names e.library.media) (snapshot_names m.snapshots)) (snapshot_in (named e.library) files) m.snapshots i

    pub removes_used : has_parts m ≡ true → Answers files e (UnregisterVm name) (Refused InUse)
    removes_used used = refuses InUse (rw (machine_of-serves e files name, is, parts_seen, used) refl)

    pub removes_running : IsSoundStore e → m.slots ≡ [] → m.snapshots ≡ [] → m.running ≡ true
        → Answers files e (UnregisterVm name) (Refused Running)
    removes_running sound slots snapshots on =
        let same : m.name ≡ name = same_name m.name name (find_named machine_entry_name name m e.library.machines is) in
        let runs : running_of e m.name ≡ true =
        ap (running_of e) same ∙ mark_of name e.library.machines m (entries_rise e.library sound.library.rules) is ∙ on in
        refuses Running (rw (machine_of-serves e files name, is, slots, snapshots, runs) refl)

-- ---- the store without the machine

module _ (e : Store) (name : Name) (sound : IsSoundStore e) (can : CanUnregisterVm e.library name) where
  abbrev pub left : Library
  left = without_machine_entry e.library name

  abbrev m : Machine
  m = can.machine

  abbrev nm : NamedMachine
  nm = machine_named (medium_names e.library.media) m

  same : m.name ≡ name
  same = same_name m.name name (find_named machine_entry_name name m e.library.machines can.found)

  named_left : named left ≡ machine_gone (named e.library) m.name
  named_left = named-without_machine e.library name ∙ ap (machine_gone (named e.library)) (sym same)

  there : find_by named_machine_name m.name (named e.library).machines ≡ Some nm
  there =
      find_map (machine_named (medium_names e.library.media)) machine_entry_name named_machine_name (λ x. refl) m.name e.library.machines
      ∙ ap (option_map (machine_named (medium_names e.library.media)))
      (ap (λ n. find_by machine_entry_name n e.library.machines) same ∙ can.found)

  no_slots : nm.slots ≡ []
  no_slots = ap (map (slot_named (medium_names e.library.media))) can.slots

  no_snapshots : nm.snapshots ≡ []
  no_snapshots = ap (map (snapshot_named (medium_names e.library.media) (snapshot_names m.snapshots))) can.snapshots

  pub left_writable : IsWritable left
  left_writable =
      let is = sound.library.built in
      record {
        rules = subst IsLibrary (sym named_left) (machine_gone_rules (named e.library) nm sound.library.rules there no_slots no_snapshots);
        built = record {
          modes = is.modes;
          inners = is.inners;
          machines = λ off. ap (without machine_entry_name name) (is.machines off);
          each = All-without machine_entry_name _ name e.library.machines is.each;
          making = is.making;
          merging = is.merging;
        };
      }

  left_runs : running_in left.machines ≡ running_in e.library.machines
  left_runs = marks_without name e.library.machines m (entries_rise e.library sound.library.rules) can.found can.off

  module _ (files : Files) (holds : Holds e.library e.images files) (log : Log) where
    abbrev after : Files
    after = now e left files sound holds

    left_serves : serves (store_after e left Keep log) after
        ≡ (let w = serves e files in record w { machines = without machine_name name w.machines })
    left_serves =
        (λ i. world_of (changed_of e) (left_runs i) (named_left i) after)
        ∙ world-without_machine (changed_of e) (running_of e) (named e.library) files after nm sound.library.rules
        (now_images e left files sound holds) there no_snapshots
        ∙ (λ i. let w = serves e files in record w { machines = without machine_name (same i) w.machines })

    left_by : (Done, serves (store_after e left Keep log) after) ≡ step_of (serves e files) (UnregisterVm name) 0
    left_by =
        let runs : running_of e m.name ≡ false =
        ap (running_of e) same ∙ mark_of name e.library.machines m (entries_rise e.library sound.library.rules) can.found ∙ can.off in
        rw (machine_of-serves e files name, can.found, can.slots, can.snapshots, runs) (ap (λ (v : World). (Done, v)) left_serves)

    left_store : IsStore (named left) after
    left_store = subst (λ n. IsStore n after) (sym named_left)
        (store-with_machines (named e.library) files after (without named_machine_name m.name (named e.library).machines)
        sound.library.rules holds.store (now_images e left files sound holds))

    pub removes : (k : Library) (changes : List Change) → k ≡ left → changes ≡ library_changes left
        → Manages files e (UnregisterVm name) changes (store_after e k Keep log) Done
    removes k changes k_is changes_are =
        rw (k_is, changes_are) (writes e left files sound holds (UnregisterVm name) Done log left_writable refl left_store left_by)
