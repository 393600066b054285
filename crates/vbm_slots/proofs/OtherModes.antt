-- Another mode of a medium.
use Rattle.std.proofs.Common.{◌≡◌, true, false, List, ◌++◌, map, Option, Some, None, refl, sym, ap, subst, ◌∙◌, cond, is_some, IsTrue}
use Rattle.std.specs.List.{list_any}
use Rattle.std.proofs.lemmas.Bool.{cond_both}
use Rattle.std.proofs.lemmas.Simd.{map-map}
use Rattle.vbm_ports.specs.Files.{Files}
use Rattle.vbm_intent.specs.declared.change.Change.{Change}
use Rattle.vbm_intent.specs.declared.log.Log.{Log}
use Rattle.vbm_modes.specs.declared.Mode.{Mode}
use Rattle.vbm_modes.specs.declared.Mode.TheVariants.{Normal, Immutable, Writethrough, MultiAttach, Readonly}
use Rattle.vbm_modes.specs.Modes.{is_own}
use Rattle.vbm_named.specs.Names.{Name, is_named, find_by}
use Rattle.vbm_named.proofs.Lists.{All-every, All-change, has_found}
use Rattle.vbm_world.specs.declared.command.Answer.TheVariants.{Done, Refused}
use Rattle.vbm_world.specs.declared.command.Command.TheVariants.{SetMode}
use Rattle.vbm_world.specs.declared.command.Refusal.{Refusal}
use Rattle.vbm_world.specs.declared.command.Refusal.TheVariants.{NoSuchMedium, InUse}
use Rattle.vbm_world.specs.declared.world.WorldMedium.{WorldMedium}
use Rattle.vbm_world.specs.Loose.{all_settled, is_refused}
use Rattle.vbm_world.specs.Outcomes.{Outcome}
use Rattle.vbm_world.specs.Places.{with_medium}
use Rattle.vbm_world.specs.Step.{step_of}
use Rattle.vbm_world.specs.World.{World}
use Rattle.vbm_registry.specs.declared.features.TheConstants.{BUILT}
use Rattle.vbm_registry.specs.declared.library.Library.{Library}
use Rattle.vbm_registry.specs.declared.media.Medium.{Medium}
use Rattle.vbm_registry.specs.Built.{is_built_mode}
use Rattle.vbm_registry.specs.Entries.{is_using, library_with_mode, IsUnused}
use Rattle.vbm_registry.specs.Library.{medium_entry_name}
use Rattle.vbm_registry.specs.Named.{NamedInner, named}
use Rattle.vbm_registry.specs.Renumbered.{with_mode_entry}
use Rattle.vbm_registry.specs.Rules.{IsLibrary}
use Rattle.vbm_registry.proofs.ListLaws.{map-same}
use Rattle.vbm_registry.proofs.RenumberedLaws.{named-with_mode}
use Rattle.vbm_standing.specs.ChainDisks.{inner_file}
use Rattle.vbm_standing.specs.Faults.{IsStore}
use Rattle.vbm_standing.specs.Meaning.{world_of}
use Rattle.vbm_standing.proofs.MediaRules.{unused-if, mode-rules}
use Rattle.vbm_standing.proofs.MediaStores.{store-with_mode}
use Rattle.vbm_standing.proofs.MediaWorlds.{SameOthers, named-listed, world-with_mode}
use Rattle.vbm_standing.proofs.WorldLookups.{in_use-world}
use Rattle.vbm_standing.proofs.WorldParts.{medium_of-world}
use Rattle.vbm_store.specs.declared.store.Store.{Store}
use Rattle.vbm_store.specs.declared.images.Edit.TheVariants.{Keep}
use Rattle.vbm_store.specs.Edits.{store_after}
use Rattle.vbm_store.specs.Plans.{library_changes}
use Rattle.vbm_store.specs.Serves.{serves, changed_of, running_of, image_files, IsWritable, IsSoundStore, Holds}
use Rattle.vbm_store.specs.Steps.{Answers, Manages}
use Rattle.vbm_slots.specs.Modes.{CanSetMode}
use Rattle.vbm_slots.proofs.Written.{now, now_images, writes}

-- ---- refusals

module _ (e : Store) (files : Files) (name : Name) (mode : Mode) where
  refuses : (refusal : Refusal) → (Refused refusal, serves e files) ≡ step_of (serves e files) (SetMode name mode) 0
      → Answers files e (SetMode name mode) (Refused refusal)
  refuses refusal by = (by, λ u. ap (λ (o : Outcome). cond (is_refused o.0) u all_settled) (sym by))

  pub sets_none : find_by medium_entry_name name e.library.media ≡ None → Answers files e (SetMode name mode) (Refused NoSuchMedium)
  sets_none none = refuses NoSuchMedium (rw (medium_of-world (changed_of e) (running_of e) (named e.library) files name, none) refl)

  pub sets_used : (m : Medium) → find_by medium_entry_name name e.library.media ≡ Some m
      → list_any (is_using name) (named e.library).machines ≡ true → Answers files e (SetMode name mode) (Refused InUse)
  sets_used m is used = refuses InUse (rw (
    medium_of-world (changed_of e) (running_of e) (named e.library) files name,
    is,
    in_use-world (changed_of e) (running_of e) (named e.library) files name,
    used,
  ) refl)

-- ---- the store with the mode

-- each mode of which slots share the disk is built
shared_built : (mode : Mode) → is_own mode ≡ false → IsTrue (is_built_mode BUILT mode)
shared_built Normal shared = refl
shared_built Immutable shared = absurd cc
shared_built Writethrough shared = refl
shared_built MultiAttach shared = absurd cc
shared_built Readonly shared = refl

module _ (e : Store) (name : Name) (mode : Mode) (sound : IsSoundStore e) (can : CanSetMode e.library name) (shared : is_own mode ≡ false) where
  abbrev pub set : Library
  set = with_mode_entry e.library name mode

  abbrev with_it : Medium → Medium
  with_it m = record m { mode = mode }

  named_set : named set ≡ library_with_mode (named e.library) name mode
  named_set = named-with_mode e.library name mode

  unused : IsUnused (named e.library) name
  unused = unused-if (named e.library) sound.library.rules name can.free

  pub set_writable : IsWritable set
  set_writable =
      let is = sound.library.built in
      record {
        rules = subst IsLibrary (sym named_set) (mode-rules (named e.library) name mode sound.library.rules unused);
        built = record {
          modes = All-change medium_entry_name name with_it (λ m. refl) (λ (m : Medium). IsTrue (is_built_mode BUILT m.mode))
              (λ m same of. shared_built mode shared) e.library.media is.modes;
          inners = is.inners;
          machines = is.machines;
          each = is.each;
          making = is.making;
          merging = is.merging;
        };
      }

  keeps : (m : Medium) → (cond (is_named medium_entry_name name m) (with_it m) m).name ≡ m.name
  keeps m = cond_both (is_named medium_entry_name name m) (with_it m) m (λ (n : Medium). n.name ≡ m.name) (λ e. refl) (λ e. refl)

  -- no image comes or goes
  pub set_images : image_files (named set) ≡ image_files (named e.library)
  set_images =
      ap image_files named_set
      ∙ ap (λ names. names ++ map (λ (x : NamedInner). inner_file e.library.seed x.number) (named e.library).inners)
      (map-map medium_entry_name _ e.library.media
      ∙ map-same _ _ e.library.media (All-every _ keeps e.library.media))

  module _ (files : Files) (holds : Holds e.library e.images files) (log : Log) where
    abbrev after : Files
    after = now e set files sound holds

    others : SameOthers (named e.library) name files after
    others =
        let same = now_images e set files sound holds in
        record { media = λ n is differs. same.media n is; inners = same.inners }

    set_serves : serves (store_after e set Keep log) after ≡ with_medium (serves e files) name (λ (m : WorldMedium). record m { mode = mode })
    set_serves =
        (λ i. world_of (changed_of e) (running_of e) (named_set i) after)
        ∙ world-with_mode (changed_of e) (running_of e) (named e.library) files after name mode sound.library.rules unused others
        ((now_images e set files sound holds).media name (named-listed (named e.library) sound.library.rules name can.there))

    set_by : (m : Medium) → find_by medium_entry_name name e.library.media ≡ Some m
        → (Done, serves (store_after e set Keep log) after) ≡ step_of (serves e files) (SetMode name mode) 0
    set_by m is = rw (
      medium_of-world (changed_of e) (running_of e) (named e.library) files name,
      is,
      in_use-world (changed_of e) (running_of e) (named e.library) files name,
      can.free,
    ) (ap (λ (v : World). (Done, v)) set_serves)

    set_store : IsStore (named set) after
    set_store = subst (λ n. IsStore n after) (sym named_set)
        (store-with_mode (named e.library) files after name mode sound.library.rules holds.store (now_images e set files sound holds))

    pub sets : (k : Library) (changes : List Change) → k ≡ set → changes ≡ library_changes set
        → Manages files e (SetMode name mode) changes (store_after e k Keep log) Done
    sets k changes k_is changes_are =
        rw (k_is, changes_are) (of (find_by medium_entry_name name e.library.media) refl)
      where
        of : (o : Option Medium) → find_by medium_entry_name name e.library.media ≡ o
            → Manages files e (SetMode name mode) (library_changes set) (store_after e set Keep log) Done
        of None is = let no : true ≡ false = sym can.there ∙ has_found medium_entry_name name e.library.media ∙ ap is_some is in absurd cc
        of (Some m) is = writes e set files sound holds (SetMode name mode) Done log set_writable set_images set_store (set_by m is)
