-- Making a machine.
use Rattle.std.proofs.Common.{◌≡◌, ◌<◌, true, false, List, length, Option, Some, None, is_some, option_copied, Bor, refl, sym, ap, subst, ◌∙◌, cond, arith, IsTrue}
use Rattle.std.specs.Prelude.{nat_le}
use Rattle.std.proofs.lemmas.Bool.{lt-leb}
use Rattle.std.proofs.lemmas.List.{length-map}
use Rattle.vbm_ports.specs.Files.{Files}
use Rattle.vbm_ports.specs.Names.{is_short_name}
use Rattle.vbm_intent.specs.declared.change.Change.{Change}
use Rattle.vbm_intent.specs.declared.log.Log.{Log}
use Rattle.vbm_named.specs.Names.{Name, has_name, put_by}
use Rattle.vbm_named.proofs.Lists.{All-put, has_map}
use Rattle.vbm_world.specs.declared.limits.TheConstants.{MACHINE_LIMIT}
use Rattle.vbm_world.specs.declared.command.Answer.TheVariants.{Done, Refused}
use Rattle.vbm_world.specs.declared.command.Command.TheVariants.{CreateVm}
use Rattle.vbm_world.specs.declared.command.Refusal.{Refusal}
use Rattle.vbm_world.specs.declared.command.Refusal.TheVariants.{NameTaken, Full}
use Rattle.vbm_world.specs.declared.command.Which.TheVariants.{Machines}
use Rattle.vbm_world.specs.Loose.{all_settled, is_refused}
use Rattle.vbm_world.specs.Machines.{new_machine}
use Rattle.vbm_world.specs.Outcomes.{Outcome}
use Rattle.vbm_world.specs.Step.{step_of}
use Rattle.vbm_world.specs.World.{World, machine_name}
use Rattle.vbm_registry.specs.declared.features.TheConstants.{BUILT}
use Rattle.vbm_registry.specs.declared.library.Library.{Library}
use Rattle.vbm_registry.specs.Built.{IsMachineBuilt}
use Rattle.vbm_registry.specs.Entries.{fresh_machine, machine_put}
use Rattle.vbm_registry.specs.Grammar.{machine_entry_name}
use Rattle.vbm_registry.specs.Named.{machine_named, medium_names, named, named_machine_name}
use Rattle.vbm_registry.specs.Renumbered.{with_machine_entry}
use Rattle.vbm_registry.specs.Rules.{IsLibrary}
use Rattle.vbm_registry.proofs.ListLaws.{any_put}
use Rattle.vbm_registry.proofs.RenumberedLaws.{named-with_machine}
use Rattle.vbm_standing.specs.Faults.{IsStore}
use Rattle.vbm_standing.specs.Meaning.{machine_in, world_of}
use Rattle.vbm_standing.proofs.MachineRules.{machine_put_rules}
use Rattle.vbm_standing.proofs.MachineWorlds.{world-with_machine}
use Rattle.vbm_standing.proofs.MediaStores.{store-with_machines}
use Rattle.vbm_store.specs.declared.store.Store.{Store}
use Rattle.vbm_store.specs.declared.images.Edit.TheVariants.{Keep}
use Rattle.vbm_store.specs.Edits.{store_after}
use Rattle.vbm_store.specs.Plans.{library_changes}
use Rattle.vbm_store.specs.Serves.{serves, changed_of, running_of, running_in, IsWritable, IsSoundStore, Holds}
use Rattle.vbm_store.specs.Steps.{Answers, Manages}
use Rattle.vbm_slots.specs.Machines.{new_entry, CanCreateVm}
use Rattle.vbm_slots.proofs.Marks.{is_on, no_mark, has_machine-serves}
use Rattle.vbm_slots.proofs.Written.{now, now_images, writes}

-- ---- refusals

pub some_copied : {X : Type 0} (o : Option (Bor X)) → is_some o ≡ is_some (option_copied o)
some_copied None = refl
some_copied (Some x) = refl

length-serves : (e : Store) (files : Files) → length (serves e files).machines ≡ length e.library.machines
unfolding world_of
length-serves e files =
    length-map (named e.library).machines (machine_in (running_of e) (named e.library) files)
    ∙ length-map e.library.machines (machine_named (medium_names e.library.media))

module _ (e : Store) (files : Files) (name : Name) where
  refuses : (refusal : Refusal) → (Refused refusal, serves e files) ≡ step_of (serves e files) (CreateVm name) 0
      → Answers files e (CreateVm name) (Refused refusal)
  refuses refusal by = (by, λ u. ap (λ (o : Outcome). cond (is_refused o.0) u all_settled) (sym by))

  pub creates_taken : has_name machine_entry_name name e.library.machines ≡ true → Answers files e (CreateVm name) (Refused NameTaken)
  creates_taken taken = refuses NameTaken (rw (has_machine-serves e files name, taken) refl)

  pub creates_full : has_name machine_entry_name name e.library.machines ≡ false → nat_le MACHINE_LIMIT (length e.library.machines) ≡ true
      → Answers files e (CreateVm name) (Refused (Full Machines))
  creates_full new full = refuses (Full Machines) (rw (has_machine-serves e files name, new, length-serves e files, full) refl)

-- ---- the store with the machine

module _ (e : Store) (name : Name) (sound : IsSoundStore e) (short : IsTrue (is_short_name name)) (can : CanCreateVm e.library name) where
  abbrev pub made : Library
  made = with_machine_entry e.library (new_entry name)

  named_made : named made ≡ machine_put (named e.library) (fresh_machine name)
  named_made = named-with_machine e.library (new_entry name)

  new_named : has_name named_machine_name name (named e.library).machines ≡ false
  new_named =
      has_map (machine_named (medium_names e.library.media)) machine_entry_name named_machine_name (λ x. refl) name e.library.machines ∙ can.new

  made_rules : IsLibrary (named made)
  made_rules =
      let room : length (named e.library).machines < MACHINE_LIMIT =
      omega (arith, length-map e.library.machines (machine_named (medium_names e.library.media)), can.room) in
      subst IsLibrary (sym named_made) (machine_put_rules (named e.library) (fresh_machine name) sound.library.rules refl refl refl short new_named room)

  pub made_writable : IsWritable made
  made_writable =
      let is = sound.library.built in
      record {
        rules = made_rules;
        built = record {
          modes = is.modes;
          inners = is.inners;
          machines = λ off. absurd cc;
          each = All-put machine_entry_name (IsMachineBuilt BUILT) (new_entry name) e.library.machines
              (record { slots = λ off. refl; snapshots = λ off. refl }) is.each;
          making = is.making;
          merging = is.merging;
        };
      }

  made_runs : running_in made.machines ≡ running_in e.library.machines
  made_runs = λ i n. any_put machine_entry_name (is_on n) (new_entry name) e.library.machines i

  module _ (files : Files) (holds : Holds e.library e.images files) (log : Log) where
    abbrev after : Files
    after = now e made files sound holds

    made_serves : serves (store_after e made Keep log) after
        ≡ (let w = serves e files in record w { machines = put_by machine_name (new_machine name) w.machines })
    made_serves =
        (λ i. world_of (changed_of e) (made_runs i) (named_made i) after)
        ∙ world-with_machine (changed_of e) (running_of e) (named e.library) files after name sound.library.rules
        (now_images e made files sound holds) (no_mark name e.library.machines can.new)

    made_by : (Done, serves (store_after e made Keep log) after) ≡ step_of (serves e files) (CreateVm name) 0
    made_by =
        let room = lt-leb MACHINE_LIMIT (length e.library.machines) can.room in
        rw (has_machine-serves e files name, can.new, length-serves e files, room) (ap (λ (v : World). (Done, v)) made_serves)

    made_store : IsStore (named made) after
    made_store = subst (λ n. IsStore n after) (sym named_made)
        (store-with_machines (named e.library) files after (put_by named_machine_name (fresh_machine name) (named e.library).machines)
        sound.library.rules holds.store (now_images e made files sound holds))

    pub creates : (k : Library) (changes : List Change) → k ≡ made → changes ≡ library_changes made
        → Manages files e (CreateVm name) changes (store_after e k Keep log) Done
    creates k changes k_is changes_are =
        rw (k_is, changes_are) (writes e made files sound holds (CreateVm name) Done log made_writable refl made_store made_by)
