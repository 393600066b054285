-- A machine in the place of the one of its name, where no inner image is new or goes and it runs as before.
use Rattle.std.proofs.Common.{◌≡◌, ℕ, ◌+◌, Bool, true, ◌&&◌, ◌||◌, List, [], ◌∷◌, ◌++◌, Some, refl, sym, ap, subst, ◌∙◌, arith, inl, inr, is_some, IsTrue}
use Rattle.std.specs.List.{AllByRecursion, list_any}
use Rattle.std.specs.Option.{option_map}
use Rattle.std.specs.Str.{bytes_eq}
use Rattle.std.proofs.lemmas.Bool.{cases_Bool, cond_both}
use Rattle.vbm_ports.specs.Files.{Files}
use Rattle.vbm_machines.specs.declared.Machine.{Machine}
use Rattle.vbm_named.specs.Names.{Name, find_by, has_name, change_by}
use Rattle.vbm_named.proofs.Lists.{find_map, has_found, All-map, All-find, All-of_map}
use Rattle.vbm_world.specs.declared.command.Answer.TheVariants.{Done}
use Rattle.vbm_world.specs.declared.command.Command.{Command}
use Rattle.vbm_world.specs.Step.{step_of}
use Rattle.vbm_registry.specs.declared.features.TheConstants.{BUILT}
use Rattle.vbm_registry.specs.declared.library.Library.{Library}
use Rattle.vbm_registry.specs.Built.{IsMachineBuilt}
use Rattle.vbm_registry.specs.Entries.{inners_left, machine_renewed}
use Rattle.vbm_registry.specs.Grammar.{machine_entry_name}
use Rattle.vbm_registry.specs.Named.{NamedInner, NamedLibrary, NamedMachine, machine_named, medium_names, named, named_machine_name}
use Rattle.vbm_registry.specs.Renumbered.{with_machine_renewed}
use Rattle.vbm_registry.specs.Rules.{IsLibrary}
use Rattle.vbm_registry.proofs.RenumberedLaws.{named-with_machine_renewed}
use Rattle.vbm_registry.proofs.LowPlaces.{low_places}
use Rattle.vbm_standing.specs.EditedFiles.{AreEdited, IsNewInner}
use Rattle.vbm_standing.specs.Edits.{Renewal, Keep, Renew, new_inners, renewal_count, renewed_library}
use Rattle.vbm_standing.specs.Faults.{IsStore}
use Rattle.vbm_standing.specs.Meaning.{world_of}
use Rattle.vbm_standing.proofs.MachineWorlds.{images-same}
use Rattle.vbm_store.specs.declared.store.Store.{Store}
use Rattle.vbm_store.specs.declared.decision.Turn.{Turn}
use Rattle.vbm_store.specs.Serves.{serves, changed_of, running_of, running_in, IsWritable, IsSoundStore, Holds}
use Rattle.vbm_store.specs.Steps.{Plans, IsSoundTurn}
use Rattle.vbm_slots.specs.Slots.{Writes}
use Rattle.vbm_slots.proofs.Marks.{is_on, entry_is}
use Rattle.vbm_slots.proofs.Written.{now, now_images, writes}

-- ---- no inner image is new or goes

none_new : (n : ℕ) (rs : List Renewal) → renewal_count rs ≡ 0 → new_inners n rs ≡ []
none_new n [] count = refl
none_new n (Keep s ∷ rs) count = none_new n rs count
none_new n (Renew s over ∷ rs) count = absurd (omega (arith, count))

pub only_machine : (l : NamedLibrary) (gone : ℕ → Bool) (rs : List Renewal) (m : NamedMachine) → l.inners ≡ [] → renewal_count rs ≡ 0
    → renewed_library l gone rs m ≡ machine_renewed l m
only_machine l gone rs m none count =
    let drawn : l.inner + renewal_count rs ≡ l.inner = omega (arith, count) in
    let inners : inners_left gone l.inners ++ new_inners l.inner rs ≡ l.inners =
    ap (λ (xs : List NamedInner). inners_left gone xs ++ new_inners l.inner rs) none ∙ none_new l.inner rs count ∙ sym none in
    λ i. record (machine_renewed l m) { inner = drawn i; inners = inners i }

-- ---- marks

any_change : {X : Type 0} (nx : X → Name) (p : X → Bool) (name : Name) (y : X) (xs : List X)
    → AllByRecursion (λ x. bytes_eq (nx x) name ≡ true → p y ≡ p x) xs
    → list_any p (change_by nx name (λ _. y) xs) ≡ list_any p xs
any_change nx p name y [] all = refl
any_change nx p name y (x ∷ xs) all = elim (cases_Bool (bytes_eq (nx x) name)) [
  | inl here ↦ let first = all.0 here in let rest = any_change nx p name y xs all.1 in rw here (λ i. first i || rest i)
  | inr other ↦ rw other (ap (λ b. p x || b) (any_change nx p name y xs all.1))
]

-- ---- the library, and the store

module _ (e : Store) (sound : IsSoundStore e) (m n : Machine) (is : find_by machine_entry_name m.name e.library.machines ≡ Some m)
    (name_is : n.name ≡ m.name) (runs : n.running ≡ m.running) (snapshots : n.snapshots ≡ m.snapshots) where
  abbrev pub renewed : Library
  renewed = with_machine_renewed e.library n

  pub named_there : find_by named_machine_name m.name (named e.library).machines ≡ Some (machine_named (medium_names e.library.media) m)
  named_there =
      find_map (machine_named (medium_names e.library.media)) machine_entry_name named_machine_name (λ x. refl) m.name e.library.machines
      ∙ ap (option_map (machine_named (medium_names e.library.media))) is

  pub renewed_there : IsTrue (has_name machine_entry_name n.name e.library.machines)
  renewed_there = has_found machine_entry_name n.name e.library.machines ∙ ap (λ x. is_some (find_by machine_entry_name x e.library.machines)) name_is ∙ ap is_some is

  pub named_renewed : named renewed ≡ machine_renewed (named e.library) (machine_named (medium_names e.library.media) n)
  named_renewed = named-with_machine_renewed e.library n

  renewed_runs : running_in renewed.machines ≡ running_in e.library.machines
  renewed_runs = λ i other. any_change machine_entry_name (is_on other) n.name n e.library.machines (All-map _ _
      (λ x one same. as_before other x (one (ap (bytes_eq x.name) (sym name_is) ∙ same)))
      e.library.machines (entry_is m.name e.library.machines m (low_places e.library sound.library.rules).machines is)) i
    where
      as_before : (other : Name) (x : Machine) → x ≡ m → is_on other n ≡ is_on other x
      as_before other x same = (λ i. runs i && bytes_eq (name_is i) other) ∙ sym (ap (is_on other) same)

  pub renewed_writable : IsLibrary (named renewed) → IsWritable renewed
  renewed_writable rules =
      let built = sound.library.built in
      let old : IsMachineBuilt BUILT m = All-find machine_entry_name (IsMachineBuilt BUILT) m.name m e.library.machines built.each is in
      record {
        rules = rules;
        built = record {
          modes = built.modes;
          inners = built.inners;
          machines = λ off. absurd cc;
          each = All-of_map _ (IsMachineBuilt BUILT) e.library.machines (All-map _ _ (λ (x : Machine) of.
              cond_both (bytes_eq x.name n.name) n x (IsMachineBuilt BUILT)
              (λ here. record { slots = λ off. absurd cc; snapshots = λ off. snapshots ∙ old.snapshots off }) (λ other. of)) e.library.machines built.each);
          making = built.making;
          merging = built.merging;
        };
      }

  module _ (files : Files) (holds : Holds e.library e.images files) where
    abbrev pub renewed_files : Files
    renewed_files = now e renewed files sound holds

    -- no image's file is another
    pub edited_after : (gone : ℕ → Bool) (rs : List Renewal) → renewal_count rs ≡ 0 → AreEdited (named e.library) gone rs files renewed_files
    edited_after gone rs count =
        let l = named e.library in
        let same = now_images e renewed files sound holds in
        record {
          same = λ image listed stays. images-same l sound.library.rules files renewed_files same image listed;
          made = subst (AllByRecursion (IsNewInner l.seed renewed_files)) (sym (none_new l.inner rs count)) tt;
          media = same.media;
        }

    -- the turn to the library with the machine
    pub renews : (k : NamedLibrary) (c : Command) → named renewed ≡ k → IsLibrary k → IsStore k renewed_files
        → (Done, world_of (changed_of e) (running_of e) k renewed_files) ≡ step_of (serves e files) c 0
        → (turn : Turn) → Writes renewed turn → Plans files e c turn
    renews k c k_is rules store by turn turns log =
        rw (turns.library, turns.edit, turns.changes, turns.answer) (writes e renewed files sound holds c Done log
        (renewed_writable (subst IsLibrary (sym k_is) rules)) refl (subst (λ l. IsStore l renewed_files) (sym k_is) store)
        ((λ i. (Done, world_of (changed_of e) (renewed_runs i) (k_is i) renewed_files)) ∙ by))

  pub renews_sound : IsLibrary (named renewed) → (turn : Turn) → Writes renewed turn → IsSoundTurn e turn
  renews_sound rules turn turns = rw (turns.library, turns.edit) (renewed_writable rules, sound.images, tt)
