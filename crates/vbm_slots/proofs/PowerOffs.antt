-- Powering a machine off.
use Rattle.std.proofs.Common.{◌≡◌, Bool, true, false, not, cond, List, [], ◌∷◌, map, Some, None, refl, sym, ap, ◌∙◌}
use Rattle.std.specs.Option.{option_map}
use Rattle.vbm_ports.specs.Files.{Files}
use Rattle.vbm_intent.specs.declared.change.Change.{Change}
use Rattle.vbm_intent.specs.declared.log.Log.{Log}
use Rattle.vbm_machines.specs.declared.Machine.{Machine}
use Rattle.vbm_named.specs.Names.{Name, find_by}
use Rattle.vbm_named.proofs.Lists.{same_name, find_named}
use Rattle.vbm_world.specs.declared.command.Answer.TheVariants.{Done, Refused}
use Rattle.vbm_world.specs.declared.command.Command.TheVariants.{PowerOff}
use Rattle.vbm_world.specs.declared.command.Refusal.{Refusal}
use Rattle.vbm_world.specs.declared.command.Refusal.TheVariants.{NoSuchMachine, NotRunning}
use Rattle.vbm_world.specs.declared.world.WorldMachine.{WorldMachine}
use Rattle.vbm_world.specs.Loose.{all_settled, is_refused}
use Rattle.vbm_world.specs.Outcomes.{Outcome, unless_refused, found_or}
use Rattle.vbm_world.specs.Places.{with_machine}
use Rattle.vbm_world.specs.Step.{step_of}
use Rattle.vbm_world.specs.World.{World}
use Rattle.vbm_registry.specs.declared.library.Library.{Library}
use Rattle.vbm_registry.specs.Grammar.{machine_entry_name}
use Rattle.vbm_registry.specs.Named.{named}
use Rattle.vbm_registry.proofs.LowPlaces.{low_places}
use Rattle.vbm_standing.specs.Meaning.{world_of}
use Rattle.vbm_image.specs.Image.{image_name}
use Rattle.vbm_store.specs.declared.store.Store.{Store}
use Rattle.vbm_store.specs.declared.images.Edit.TheVariants.{Keep}
use Rattle.vbm_store.specs.Edits.{store_after}
use Rattle.vbm_store.specs.Serves.{serves, changed_of, running_of, running_in, image_files, IsWritable, IsSoundStore, Holds}
use Rattle.vbm_store.specs.Steps.{Answers, Manages}
use Rattle.vbm_slots.specs.Running.{CanPowerOff}
use Rattle.vbm_slots.proofs.Marks.{mark_of, seen, machine_of-serves}
use Rattle.vbm_slots.proofs.MachinesMarked.{remarked, named_remarked, remarked_writable, remarked_images, world_remarked, next, remarks}

module _ (e : Store) (files : Files) (name : Name) where
  abbrev w : World
  w = serves e files

  -- the machine of the world, off
  abbrev off : WorldMachine → Outcome
  off v = (Done, with_machine w (record v { running = false }) 0)

  refuses : (refusal : Refusal) → (Refused refusal, w) ≡ step_of w (PowerOff name) 0 → Answers files e (PowerOff name) (Refused refusal)
  refuses refusal by = (by, λ u. ap (λ (o : Outcome). cond (is_refused o.0) u all_settled) (sym by))

  pub offs_none : find_by machine_entry_name name e.library.machines ≡ None → Answers files e (PowerOff name) (Refused NoSuchMachine)
  offs_none none = refuses NoSuchMachine (rw (machine_of-serves e files name, none) refl)

  module _ (sound : IsSoundStore e) (m : Machine) (is : find_by machine_entry_name name e.library.machines ≡ Some m) where
    -- what its mark leads to
    step_by : (runs : Bool) → m.running ≡ runs
        → step_of w (PowerOff name) 0 ≡ unless_refused w ((not runs, NotRunning) ∷ []) (off (seen e files m))
    step_by runs mark =
        let same : m.name ≡ name = same_name m.name name (find_named machine_entry_name name m e.library.machines is) in
        let running : running_of e m.name ≡ runs =
        ap (running_of e) same ∙ mark_of name e.library.machines m (low_places e.library sound.library.rules).machines is ∙ mark in
        ap (λ o. found_or w NoSuchMachine o (λ v. unless_refused w ((not v.running, NotRunning) ∷ []) (off v)))
        (machine_of-serves e files name ∙ ap (option_map (seen e files)) is)
        ∙ ap (λ b. unless_refused w ((not b, NotRunning) ∷ []) (off (seen e files m))) running

    pub offs_off : m.running ≡ false → Answers files e (PowerOff name) (Refused NotRunning)
    offs_off mark = refuses NotRunning (sym (step_by false mark))

module _ (e : Store) (name : Name) (sound : IsSoundStore e) (can : CanPowerOff e.library name) where
  abbrev pub left : Library
  left = remarked e name can.machine false sound can.found

  pub off_sound : (k : Library) → k ≡ left → IsWritable k × (map image_name e.images ≡ image_files (named k)) × Unit {0}
  off_sound k k_is =
      rw k_is (remarked_writable e name can.machine false sound can.found, remarked_images e name can.machine false sound can.found, tt)

  module _ (files : Files) (holds : Holds e.library e.images files) (log : Log) where
    left_by : (Done, serves (next e name can.machine false sound can.found files holds e.changed log) files) ≡ step_of (serves e files) (PowerOff name) 0
    left_by =
        ap (λ (v : World). (Done, v)) ((λ i. world_of (changed_of e) (running_in left.machines) (named_remarked e name can.machine false sound can.found i) files)
        ∙ world_remarked e name can.machine false sound can.found files (changed_of e))
        ∙ sym (step_by e files name sound can.machine can.found true can.on)

    pub powers_off : (k : Library) (changes : List Change) → k ≡ left → changes ≡ []
        → Manages files e (PowerOff name) changes (store_after e k Keep log) Done
    powers_off k changes k_is changes_are =
        rw (k_is, changes_are) (remarks e name can.machine false sound can.found files holds (PowerOff name) e.changed log left_by)
