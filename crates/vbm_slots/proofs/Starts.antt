-- Starting a machine. No slot is reset: only those of immutable media are, and this mode is not built.
use Rattle.std.proofs.Common.{◌≡◌, ◌+◌, ◌<◌, Bool, true, false, cond, List, [], ◌∷◌, map, length, Option, Some, None, IsTrue, refl, sym, ap, ◌∙◌, arith}
use Rattle.std.specs.Prelude.{find, count_by}
use Rattle.std.specs.List.{AllByRecursion}
use Rattle.std.specs.Option.{option_map}
use Rattle.std.proofs.lemmas.Bool.{cond-false, le-ltb}
use Rattle.std.proofs.lemmas.List.Sums.{sum_by-cons}
use Rattle.std.proofs.lemmas.Simd.{map-map}
use Rattle.vbm_ports.specs.Files.{Files}
use Rattle.vbm_intent.specs.declared.change.Change.{Change}
use Rattle.vbm_intent.specs.declared.log.Log.{Log}
use Rattle.vbm_ids.specs.declared.TheConstants.{NUMBER_LIMIT}
use Rattle.vbm_modes.specs.declared.Mode.{Mode}
use Rattle.vbm_modes.specs.declared.Mode.TheVariants.{Normal, Immutable, Writethrough, MultiAttach, Readonly}
use Rattle.vbm_modes.specs.Modes.{is_reset}
use Rattle.vbm_machines.specs.declared.Machine.{Machine}
use Rattle.vbm_machines.specs.declared.Slot.{Slot}
use Rattle.vbm_machines.specs.Renumbering.{EachSlot}
use Rattle.vbm_named.specs.Names.{Name, find_by}
use Rattle.vbm_named.proofs.Lists.{same_name, find_named, All-find, All-every, All-of_map}
use Rattle.vbm_world.specs.declared.command.Answer.TheVariants.{Done, Refused}
use Rattle.vbm_world.specs.declared.command.Command.TheVariants.{StartVm}
use Rattle.vbm_world.specs.declared.command.Refusal.{Refusal}
use Rattle.vbm_world.specs.declared.command.Refusal.TheVariants.{NoSuchMachine, Running, Locked, IdsSpent}
use Rattle.vbm_world.specs.declared.world.WorldSlot.{WorldSlot}
use Rattle.vbm_world.specs.Loose.{all_settled, is_refused}
use Rattle.vbm_world.specs.Machines.{is_like, disk_or_medium, is_resetting, reset_slot, unchanged_by, started, is_locked, start_checks}
use Rattle.vbm_world.specs.Outcomes.{Outcome, unless_refused, found_or}
use Rattle.vbm_world.specs.Places.{slots_named, with_machine}
use Rattle.vbm_world.specs.Refusals.{is_short}
use Rattle.vbm_world.specs.Step.{step_of}
use Rattle.vbm_world.specs.World.{World}
use Rattle.vbm_registry.specs.declared.features.TheConstants.{BUILT}
use Rattle.vbm_registry.specs.declared.media.Medium.{Medium}
use Rattle.vbm_registry.specs.declared.library.Library.{Library}
use Rattle.vbm_registry.specs.Built.{is_built_mode}
use Rattle.vbm_registry.specs.Grammar.{machine_entry_name}
use Rattle.vbm_registry.specs.Library.{medium_entry_name}
use Rattle.vbm_registry.specs.Named.{NamedSlot, NamedLibrary, merging_named, medium_names, named}
use Rattle.vbm_registry.specs.Rules.{has_mode, IsLibrary}
use Rattle.vbm_registry.proofs.LowPlaces.{low_places, IsWithin, places_within}
use Rattle.vbm_standing.specs.Meaning.{slot_in, world_of}
use Rattle.vbm_standing.proofs.StartedWorlds.{world-still}
use Rattle.vbm_image.specs.Image.{image_name}
use Rattle.vbm_store.specs.declared.store.Store.{Store}
use Rattle.vbm_store.specs.declared.images.Edit.TheVariants.{Unchanged}
use Rattle.vbm_store.specs.Edits.{without_all, store_after}
use Rattle.vbm_store.specs.Serves.{serves, changed_of, running_of, running_in, image_files, IsWritable, IsSoundStore, Holds}
use Rattle.vbm_store.specs.Steps.{Answers, Manages}
use Rattle.vbm_slots.specs.Running.{slots_of, is_locked_in, CanStart, shared_media}
use Rattle.vbm_slots.proofs.Forgotten.{changed_started}
use Rattle.vbm_slots.proofs.Locks.{mode_same, locked_same}
use Rattle.vbm_slots.proofs.Marks.{mark_of, seen, machine_of-serves}
use Rattle.vbm_slots.proofs.MachinesMarked.{remarked, named_remarked, remarked_writable, remarked_images, world_remarked, next, remarks}

-- ---- no slot is reset

built_not_reset : (mode : Mode) (auto : Bool) → IsTrue (is_built_mode BUILT mode) → is_reset mode auto ≡ false
built_not_reset Normal auto built = refl
built_not_reset Immutable auto built = absurd cc
built_not_reset Writethrough auto built = refl
built_not_reset MultiAttach auto built = refl
built_not_reset Readonly auto built = refl

none_counted : {X : Type 0} (p : X → Bool) (xs : List X) → AllByRecursion (λ x. p x ≡ false) xs → count_by p xs ≡ 0
none_counted p [] none = refl
none_counted p (x ∷ xs) none = sum_by-cons (λ y. cond (p y) 1 0) x xs ∙ (λ i. cond (none.0 i) 1 0 + none_counted p xs none.1 i)

module _ (e : Store) (files : Files) (sound : IsSoundStore e) where
  abbrev l : NamedLibrary
  l = named e.library

  abbrev w : World
  w = serves e files

  plain : l.merging ≡ []
  plain = ap (map (merging_named (medium_names e.library.media))) (sound.library.built.merging refl)

  stays : (s : NamedSlot) → is_resetting w (slot_in l files s) ≡ false
  stays s = mode_same e files plain (λ mode. is_reset mode s.autoreset) s ∙ of (find_by medium_entry_name s.medium l.media) refl
    where
      of : (o : Option Medium) → find_by medium_entry_name s.medium l.media ≡ o → has_mode (λ mode. is_reset mode s.autoreset) o ≡ false
      of None is = refl
      of (Some m) is = built_not_reset m.mode s.autoreset
          (All-find medium_entry_name (λ (x : Medium). IsTrue (is_built_mode BUILT x.mode)) s.medium m e.library.media sound.library.built.modes is)

  slots_stay : (current : List WorldSlot) (slots : List NamedSlot)
      → map (reset_slot w current) (map (slot_in l files) slots) ≡ map (slot_in l files) slots
  slots_stay current slots = map-map (reset_slot w current) (slot_in l files) slots ∙ ap (λ f. map f slots) (λ i s.
      cond-false (is_resetting w (slot_in l files s))
      (record (slot_in l files s) { own = disk_or_medium w s.medium (find (is_like (slot_in l files s)) current) }) (slot_in l files s) (stays s) i)

  none_reset : (slots : List NamedSlot) → count_by (is_resetting w) (map (slot_in l files) slots) ≡ 0
  none_reset slots = none_counted (is_resetting w) (map (slot_in l files) slots)
      (All-of_map (slot_in l files) (λ v. is_resetting w v ≡ false) slots (All-every _ stays slots))

  inner_is : w.inner ≡ l.inner
  unfolding world_of
  inner_is = refl

  enough : (slots : List NamedSlot) → is_short w.inner (count_by (is_resetting w) (map (slot_in l files) slots)) ≡ false
  enough slots =
      (λ i. is_short (inner_is i) (none_reset slots i)) ∙ le-ltb NUMBER_LIMIT (l.inner + 0) (omega (arith, sound.library.rules.inner))

-- ---- refusals

module _ (e : Store) (files : Files) (name : Name) where
  refuses : (refusal : Refusal) → (Refused refusal, serves e files) ≡ step_of (serves e files) (StartVm name) 0
      → Answers files e (StartVm name) (Refused refusal)
  refuses refusal by = (by, λ u. ap (λ (o : Outcome). cond (is_refused o.0) u all_settled) (sym by))

  pub starts_none : find_by machine_entry_name name e.library.machines ≡ None → Answers files e (StartVm name) (Refused NoSuchMachine)
  starts_none none = refuses NoSuchMachine (rw (machine_of-serves e files name, none) refl)

  module _ (sound : IsSoundStore e) (m : Machine) (is : find_by machine_entry_name name e.library.machines ≡ Some m) where
    -- what its mark and the locks lead to
    step_by : (runs locked : Bool) → m.running ≡ runs → is_locked_in e.library m ≡ locked → step_of (serves e files) (StartVm name) 0
        ≡ unless_refused (serves e files) ((runs, Running) ∷ (locked, Locked) ∷ []) (Done, started (serves e files) (seen e files m))
    step_by runs locked mark locks =
        let v = serves e files in
        let rises = (low_places e.library sound.library.rules).machines in
        let same : m.name ≡ name = same_name m.name name (find_named machine_entry_name name m e.library.machines is) in
        let running : running_of e m.name ≡ runs = ap (running_of e) same ∙ mark_of name e.library.machines m rises is ∙ mark in
        let kept : is_locked v (seen e files m) ≡ locked = locked_same e files (plain e files sound) rises m ∙ locks in
        let short = enough e files sound (slots_of e.library m) in
        ap (λ o. found_or v NoSuchMachine o (λ x. unless_refused v (start_checks v x) (Done, started v x)))
        (machine_of-serves e files name ∙ ap (option_map (seen e files)) is)
        ∙ (λ i. unless_refused v ((running i, Running) ∷ (kept i, Locked) ∷ (short i, IdsSpent) ∷ []) (Done, started v (seen e files m)))

    pub starts_running : m.running ≡ true → Answers files e (StartVm name) (Refused Running)
    starts_running mark = refuses Running (sym (step_by true (is_locked_in e.library m) mark refl))

    pub starts_locked : m.running ≡ false → is_locked_in e.library m ≡ true → Answers files e (StartVm name) (Refused Locked)
    starts_locked mark locks = refuses Locked (sym (step_by false true mark locks))

-- ---- the store after it

-- the media of the machine's slots are listed
pub slots_within : (l : Library) (name : Name) → IsLibrary (named l) → (m : Machine) → find_by machine_entry_name name l.machines ≡ Some m
    → AllByRecursion (λ (s : Slot). s.medium < length l.media) m.slots
slots_within l name is m found = (All-find machine_entry_name (EachSlot (IsWithin l is)) name m l.machines (places_within l is) found).slots

module _ (e : Store) (name : Name) (sound : IsSoundStore e) (can : CanStart e.library name) where
  abbrev m : Machine
  m = can.machine

  abbrev pub running : Library
  running = remarked e name m true sound can.found

  pub start_sound : (k : Library) → k ≡ running → IsWritable k × (map image_name e.images ≡ image_files (named k)) × Unit {0}
  start_sound k k_is = rw k_is (remarked_writable e name m true sound can.found, remarked_images e name m true sound can.found, tt)

  -- the media whose disks the machine's slots share
  abbrev pub shared : List Name
  shared = shared_media (slots_of e.library m)

  module _ (files : Files) (holds : Holds e.library e.images files) (log : Log) where
    abbrev after : Store
    after = next e name m true sound can.found files holds (without_all shared e.changed) log

    abbrev slots : List WorldSlot
    slots = (seen e files m).slots

    -- nothing but the mark and the media's flags is another
    started_plainly : started (serves e files) (seen e files m)
        ≡ (let x = with_machine (serves e files) (record (seen e files m) { running = true }) 0 in record x { media = map (unchanged_by slots) x.media })
    started_plainly =
        let current = slots_named (seen e files m).current (seen e files m).snapshots in
        let stay = slots_stay e files sound current (slots_of e.library m) in
        let drawn = none_reset e files sound (slots_of e.library m) in
        λ i. let x = with_machine (serves e files) (record (seen e files m) { running = true; slots = stay i }) (drawn i) in
        record x { media = map (unchanged_by slots) x.media }

    running_serves : serves after files ≡ started (serves e files) (seen e files m)
    running_serves =
        (λ i. world_of (changed_started e files (plain e files sound) (slots_of e.library m) running log i) (running_in running.machines)
        (named_remarked e name m true sound can.found i) files)
        ∙ world-still (named e.library) files (changed_of e) (running_in running.machines) slots
        ∙ ap (λ (x : World). record x { media = map (unchanged_by slots) x.media }) (world_remarked e name m true sound can.found files (changed_of e))
        ∙ sym started_plainly

    running_by : (Done, serves after files) ≡ step_of (serves e files) (StartVm name) 0
    running_by = ap (λ (v : World). (Done, v)) running_serves ∙ sym (step_by e files name sound m can.found false false can.off can.unlocked)

    pub starts : (k : Library) (names : List Name) (changes : List Change) → k ≡ running → names ≡ shared → changes ≡ []
        → Manages files e (StartVm name) changes (store_after e k (Unchanged names) log) Done
    starts k names changes k_is names_are changes_are =
        rw (k_is, names_are, changes_are)
        (remarks e name m true sound can.found files holds (StartVm name) (without_all shared e.changed) log running_by)
