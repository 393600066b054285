-- A machine of the library gets another mark, of whether it runs: no file tells it, and nothing else is another.
use Rattle.std.proofs.Common.{◌≡◌, ◌+◌, Bool, true, false, cond, ◌&&◌, ◌||◌, List, [], ◌∷◌, map, Some, Ok, is_some, add-zero, refl, sym, ap, subst, ◌∙◌}
use Rattle.std.specs.List.{AllByRecursion}
use Rattle.std.specs.Str.{bytes_eq}
use Rattle.std.proofs.lemmas.Bool.{cond_both}
use Rattle.std.proofs.Math.Bool.{and-true, and-false}
use Rattle.vbm_ports.specs.Files.{Files}
use Rattle.vbm_intent.specs.declared.log.Log.{Log}
use Rattle.vbm_machines.specs.declared.Machine.{Machine}
use Rattle.vbm_named.specs.Names.{Name, find_by, has_name, change_by}
use Rattle.vbm_named.proofs.Lists.{same_name, name_refl, name_sym, All-every, All-map, All-of_map, All-find, find_named, has_found}
use Rattle.vbm_world.specs.declared.command.Command.{Command}
use Rattle.vbm_world.specs.declared.command.Answer.TheVariants.{Done}
use Rattle.vbm_world.specs.declared.world.WorldMachine.{WorldMachine}
use Rattle.vbm_world.specs.Places.{with_machine}
use Rattle.vbm_world.specs.Step.{step_of}
use Rattle.vbm_world.specs.World.{machine_name}
use Rattle.vbm_registry.specs.declared.features.TheConstants.{BUILT}
use Rattle.vbm_registry.specs.declared.library.Library.{Library}
use Rattle.vbm_registry.specs.Built.{IsMachineBuilt}
use Rattle.vbm_registry.specs.Grammar.{machine_entry_name, entry_off, library_off}
use Rattle.vbm_registry.specs.Named.{NamedLibrary, NamedMachine, machine_named, medium_names, named, named_machine_name}
use Rattle.vbm_registry.specs.Renumbered.{with_machine_renewed}
use Rattle.vbm_registry.specs.Rules.{IsLibrary}
use Rattle.vbm_registry.proofs.LowPlaces.{low_places}
use Rattle.vbm_registry.proofs.RenumberedLaws.{named-with_machine_renewed}
use Rattle.vbm_standing.specs.Faults.{IsStore}
use Rattle.vbm_standing.specs.Meaning.{machine_in, medium_in, shelf_in, world_of}
use Rattle.vbm_standing.proofs.WorldParts.{machines-changed}
use Rattle.vbm_image.specs.Image.{image_name}
use Rattle.vbm_store.specs.declared.store.Store.{Store}
use Rattle.vbm_store.specs.Serves.{serves, running_of, running_in, head_in, image_files, IsWritable, IsSoundStore, Holds}
use Rattle.vbm_store.specs.Steps.{Manages}
use Rattle.vbm_store.proofs.Decisions.{kept_or}
use Rattle.vbm_store.proofs.Keeping.{kept_images}
use Rattle.vbm_store.proofs.Turning.{manages}
use Rattle.vbm_slots.specs.Running.{marked}
use Rattle.vbm_slots.proofs.Marks.{is_on, entry_is, seen}

-- ---- the list of machines

pub one_found : (name : Name) (ms : List Machine) (x y : Machine) → find_by machine_entry_name name ms ≡ Some x → find_by machine_entry_name name ms ≡ Some y
    → x ≡ y
one_found name ms x y first second = let both : Some x ≡ Some y = sym first ∙ second in cc

-- what is found has its own name
found_itself : (name : Name) (ms : List Machine) (m : Machine) → find_by machine_entry_name name ms ≡ Some m → find_by machine_entry_name m.name ms ≡ Some m
found_itself name ms m found = ap (λ n. find_by machine_entry_name n ms) (same_name m.name name (find_named machine_entry_name name m ms found)) ∙ found

pub has_itself : (name : Name) (ms : List Machine) (m : Machine) → find_by machine_entry_name name ms ≡ Some m → has_name machine_entry_name m.name ms ≡ true
has_itself name ms m found = has_found machine_entry_name m.name ms ∙ ap is_some (found_itself name ms m found)

module _ (m : Machine) (on : Bool) where
  -- with the mark
  abbrev again : List Machine → List Machine
  again ms = change_by machine_entry_name m.name (λ _. marked on m) ms

  -- the machine stands alone under its name
  abbrev IsOnly : List Machine → Type 0
  IsOnly ms = AllByRecursion (λ (x : Machine). bytes_eq x.name m.name ≡ true → x ≡ m) ms

  -- what does not see the mark sees the same
  unseen : {Y : Type 0} (f : Machine → Y) → f (marked on m) ≡ f m → (ms : List Machine) → IsOnly ms → map f (again ms) ≡ map f ms
  unseen f same [] all = refl
  unseen f same (x ∷ xs) all = λ i. one x (bytes_eq x.name m.name) all.0 i ∷ unseen f same xs all.1 i
    where
      one : (x : Machine) (b : Bool) → (b ≡ true → x ≡ m) → f (cond b (marked on m) x) ≡ f x
      one x true is = same ∙ ap f (sym (is refl))
      one x false is = refl

  every : (P : Machine → Type 0) → P (marked on m) → (ms : List Machine) → AllByRecursion P ms → AllByRecursion P (again ms)
  every P here ms all =
      All-of_map (λ x. cond (bytes_eq x.name m.name) (marked on m) x) P ms
      (All-map P _ (λ x p. cond_both (bytes_eq x.name m.name) (marked on m) x P (λ e. here) (λ e. p)) ms all)

  mark_self : (ms : List Machine) → running_in (again ms) m.name ≡ (on && has_name machine_entry_name m.name ms)
  mark_self [] = sym (and-false on)
  mark_self (x ∷ xs) = ap (λ b. is_on m.name (cond (bytes_eq x.name m.name) (marked on m) x) || b) (mark_self xs)
      ∙ one (bytes_eq x.name m.name) refl (has_name machine_entry_name m.name xs)
    where
      self : (on rest : Bool) → (on && true || on && rest) ≡ (on && true)
      self true rest = refl
      self false rest = refl

      one : (b : Bool) → bytes_eq x.name m.name ≡ b → (rest : Bool)
          → (is_on m.name (cond b (marked on m) x) || on && rest) ≡ (on && (b || rest))
      one true here rest = ap (λ t. on && t || on && rest) (name_refl m.name) ∙ self on rest
      one false other rest = ap (λ t. x.running && t || on && rest) other ∙ ap (λ t. t || on && rest) (and-false x.running)

  mark_other : (n : Name) → bytes_eq m.name n ≡ false → (ms : List Machine) → IsOnly ms → running_in (again ms) n ≡ running_in ms n
  mark_other n apart [] all = refl
  mark_other n apart (x ∷ xs) all = λ i. one x (bytes_eq x.name m.name) all.0 i || mark_other n apart xs all.1 i
    where
      none : (b : Bool) → (b && bytes_eq m.name n) ≡ false
      none b = ap (λ t. b && t) apart ∙ and-false b

      one : (x : Machine) (b : Bool) → (b ≡ true → x ≡ m) → is_on n (cond b (marked on m) x) ≡ is_on n x
      one x true is = none on ∙ sym (ap (is_on n) (is refl) ∙ none m.running)
      one x false is = refl

-- ---- the store

module _ (e : Store) (name : Name) (m : Machine) (on : Bool) (sound : IsSoundStore e)
    (found : find_by machine_entry_name name e.library.machines ≡ Some m) where
  abbrev l : NamedLibrary
  l = named e.library

  abbrev ms : List Machine
  ms = e.library.machines

  abbrev nm : NamedMachine
  nm = machine_named (medium_names e.library.media) m

  -- the library with the mark
  abbrev pub remarked : Library
  remarked = with_machine_renewed e.library (marked on m)

  only : IsOnly m on ms
  only = entry_is m.name ms m (low_places e.library sound.library.rules).machines (found_itself name ms m found)

  -- the library by names has no marks
  pub named_remarked : named remarked ≡ l
  named_remarked =
      let machines = unseen m on (machine_named (medium_names e.library.media)) refl ms only in λ i. record l { machines = machines i }

  off_remarked : library_off remarked ≡ library_off e.library
  off_remarked = let machines = unseen m on entry_off refl ms only in λ i. record e.library { machines = machines i }

  pub remarked_writable : IsWritable remarked
  remarked_writable =
      let is = sound.library.built in
      let own = All-find machine_entry_name (IsMachineBuilt BUILT) name m ms is.each found in
      record {
        rules = subst IsLibrary (sym named_remarked) sound.library.rules;
        built = record {
          modes = is.modes;
          inners = is.inners;
          machines = λ off. ap (again m on) (is.machines off);
          each = every m on (IsMachineBuilt BUILT) (record { slots = own.slots; snapshots = own.snapshots }) ms is.each;
          making = is.making;
          merging = is.merging;
        };
      }

  pub remarked_images : map image_name e.images ≡ image_files (named remarked)
  remarked_images = sound.images ∙ ap image_files (sym named_remarked)

  -- ---- the world

  runs_self : running_in remarked.machines m.name ≡ on
  runs_self = mark_self m on ms ∙ ap (λ b. on && b) (has_itself name ms m found) ∙ and-true on

  runs_other : (n : Name) → bytes_eq n m.name ≡ false → running_in remarked.machines n ≡ running_of e n
  runs_other n other = mark_other m on n (name_sym m.name n ∙ other) ms only

  module _ (files : Files) where
    abbrev v : WorldMachine
    v = record (seen e files m) { running = on }

    here : machine_in (running_in remarked.machines) l files nm ≡ v
    here = λ i. record (seen e files m) { running = runs_self i }

    others : AllByRecursion (λ (n : NamedMachine). bytes_eq n.name nm.name ≡ false
        → machine_in (running_in remarked.machines) l files n ≡ machine_in (running_of e) l files n) l.machines
    others = All-every _ (λ n other. (λ i. record (machine_in (running_of e) l files n) { running = runs_other n.name other i })) l.machines

    machines_seen : map (machine_in (running_in remarked.machines) l files) l.machines
        ≡ change_by machine_name v.name (λ _. v) (map (machine_in (running_of e) l files) l.machines)
    machines_seen =
        let kept : change_by named_machine_name nm.name (λ _. nm) l.machines ≡ l.machines =
        ap (λ (k : NamedLibrary). k.machines) (sym (named-with_machine_renewed e.library (marked on m)) ∙ named_remarked) in
        ap (map (machine_in (running_in remarked.machines) l files)) (sym kept)
        ∙ machines-changed (running_of e) (running_in remarked.machines) l l files files nm v l.machines here refl others

    -- The machine's own mark is another, in the world too.
    pub world_remarked : (changed : Name → Bool) → world_of changed (running_in remarked.machines) l files
        ≡ with_machine (world_of changed (running_of e) l files) v 0
    unfolding world_of
    world_remarked changed =
        let machines = machines_seen in
        let inner : l.inner ≡ l.inner + 0 = sym (add-zero l.inner) in
        λ i. record {
          seed = l.seed;
          next = l.next;
          inner = inner i;
          media = map (medium_in changed l files) l.media;
          machines = machines i;
          shelf = shelf_in l files;
        }

    -- ---- the turn

    module _ (holds : Holds e.library e.images files) where
      holds_remarked : Holds remarked e.images files
      holds_remarked = record {
        read = holds.read ∙ ap Ok (sym off_remarked);
        store = subst (λ n. IsStore n files) (sym named_remarked) holds.store;
        headers = holds.headers ∙ ap (λ n. map (head_in files) (image_files n)) (sym named_remarked);
      }

      -- the store after it, with these media changed since a start
      abbrev pub next : List Name → Log → Store
      next changed log = record { library = remarked; changed = changed; images = e.images; log = log }

      -- nothing is committed
      pub remarks : (c : Command) (changed : List Name) (log : Log) → (Done, serves (next changed log) files) ≡ step_of (serves e files) c 0
          → Manages files e c [] (next changed log) Done
      remarks c changed log by =
          manages files e c [] (next changed log) Done (record { library = remarked_writable; images = remarked_images; form = sound.form; unstaged = sound.unstaged }) (λ n. tt) holds_remarked by
          (kept_images e.library remarked files files sound.library.rules (λ n is. kept_or (files n) false)) (λ n inner unlisted none. none)
