-- Closing a medium.
use Rattle.std.proofs.Common.{◌≡◌, ℕ, ◌^◌, ◌≤◌, Bool, true, false, ◌&&◌, List, [], ◌∷◌, ◌++◌, map, Option, Some, None, refl, sym, ap, subst, ◌∙◌, arith, cond, is_some, IsTrue}
use Rattle.std.specs.List.{list_any}
use Rattle.std.specs.Option.{option_map}
use Rattle.std.specs.Str.{bytes_eq}
use Rattle.std.proofs.Math.Bool.{and-false}
use Rattle.vbm_ports.specs.Files.{Files}
use Rattle.vbm_ports.specs.Names.{is_medium_name}
use Rattle.vbm_ports.proofs.NameLemmas.{store_name_short}
use Rattle.vbm_image.specs.Image.{image_name}
use Rattle.vbm_intent.specs.declared.change.Change.{Change}
use Rattle.vbm_intent.specs.declared.log.Log.{Log}
use Rattle.vbm_intent.specs.declared.change.Change.TheVariants.{Remove}
use Rattle.vbm_intent.specs.Changes.{of_file, file_after, changed, FitsFile, Fits}
use Rattle.vbm_intent.specs.Plan.{body_size}
use Rattle.vbm_registry.specs.declared.media.Medium.{Medium}
use Rattle.vbm_registry.specs.declared.library.Library.{Library}
use Rattle.vbm_registry.specs.Entries.{is_using, IsUnused}
use Rattle.vbm_registry.specs.Library.{library_name, medium_entry_name}
use Rattle.vbm_registry.specs.Named.{NamedLibrary, named as library_named}
use Rattle.vbm_registry.specs.Renumbered.{without_medium_entry}
use Rattle.vbm_standing.specs.ChainDisks.{inner_file}
use Rattle.vbm_standing.specs.Headers.{shelved_file}
use Rattle.vbm_standing.specs.Meaning.{medium_in, shelf_in, world_of}
use Rattle.vbm_standing.specs.Faults.{IsMediumFile}
use Rattle.vbm_standing.proofs.InnerFileNames.{inner_named_so}
use Rattle.vbm_standing.proofs.MediaRules.{unused-if}
use Rattle.vbm_standing.proofs.MediaWorlds.{SameOthers, named-listed, unmerged-into, unused-free}
use Rattle.vbm_standing.proofs.WorldLookups.{in_use-world, is_off_shelf, medium-shelved}
use Rattle.vbm_standing.proofs.WorldParts.{medium_of-world}
use Rattle.vbm_standing.proofs.Worlds.{with_shelved_none}
use Rattle.vbm_named.specs.Names.{Name, find_by, without}
use Rattle.vbm_world.specs.World.{World, medium_name, with_shelved}
use Rattle.vbm_world.specs.Outcomes.{Outcome}
use Rattle.vbm_world.specs.Media.{shelved}
use Rattle.vbm_world.specs.Step.{step_of}
use Rattle.vbm_world.specs.Loose.{all_settled, is_refused}
use Rattle.vbm_world.specs.declared.command.Answer.TheVariants.{Done, Refused}
use Rattle.vbm_world.specs.declared.command.Command.TheVariants.{CloseMedium}
use Rattle.vbm_world.specs.declared.command.Refusal.{Refusal}
use Rattle.vbm_world.specs.declared.command.Refusal.TheVariants.{NoSuchMedium, InUse}
use Rattle.vbm_named.proofs.Lists.{name_refl, name_sym, same_name, All-every, All-find, has_found, find_named}
use Rattle.vbm_store.specs.declared.store.Store.{Store}
use Rattle.vbm_store.specs.declared.images.Edit.TheVariants as edits
use Rattle.vbm_store.specs.Edits.{store_after}
use Rattle.vbm_media.specs.Closes.{CanClose, removal}
use Rattle.vbm_store.specs.Plans.{library_changes}
use Rattle.vbm_store.specs.Serves.{serves, changed_of, running_of, image_files, IsWritable, IsSoundStore, Holds}
use Rattle.vbm_store.specs.Kept.{KeepsBytes}
use Rattle.vbm_store.specs.Steps.{Manages, Answers}
use Rattle.vbm_store.proofs.Keeping.{kept_images}
use Rattle.vbm_store.proofs.Turning.{manages}
use Rattle.vbm_store.proofs.Decisions.{medium_not_library, inner_not_library, image_not_library, kept_or}
use Rattle.vbm_store.proofs.Edits.{sound_after}
use Rattle.vbm_store.proofs.GoneMedia.{inner_other, gone_writable, gone_images, gone_holds, gone_serves}
use Rattle.vbm_store.proofs.Planned.{library_frame, library_fits}
use Rattle.vbm_store.proofs.Pushing.{medium_store}

-- ---- the removal

module _ (name : Name) (delete : Bool) (named : IsTrue (is_medium_name name)) where
  pub removal_apart : of_file library_name (removal name delete) ≡ []
  removal_apart = elim delete as (λ d. of_file library_name (removal name d) ≡ []) [
    | true ↦ rw (name_sym name library_name ∙ medium_not_library name named) refl
    | false ↦ refl
  ]

  pub removal_small : body_size (removal name delete) ≤ 2 ^ 22
  removal_small =
      let short = store_name_short name (medium_store name named) in
      elim delete as (λ d. body_size (removal name d) ≤ 2 ^ 22) [ true ↦ omega (arith, short) | false ↦ omega arith ]

  removed : (files : Files) (n : Name) → changed (removal name delete) files n ≡ cond (delete && bytes_eq name n) None (files n)
  removed files n = elim delete as (λ d. changed (removal name d) files n ≡ cond (d && bytes_eq name n) None (files n)) [
    | true ↦ elim (bytes_eq name n) as (λ b. file_after (cond b (Remove name ∷ []) []) (files n) ≡ cond b None (files n)) [ true ↦ refl | false ↦ refl ]
    | false ↦ refl
  ]

  removal_fits : (files : Files) → Fits (removal name delete) files
  removal_fits files n = elim delete as (λ d. FitsFile (of_file n (removal name d)) (files n)) [
    | true ↦ elim (bytes_eq name n) as (λ b. FitsFile (cond b (Remove name ∷ []) []) (files n)) [ true ↦ (omega arith, tt) | false ↦ tt ]
    | false ↦ tt
  ]

none_or : (file : Option (List ℕ)) (b : Bool) → file ≡ None → cond b None file ≡ None
none_or file true none = refl
none_or file false none = none

-- ---- refusals

module _ (e : Store) (files : Files) (name : Name) (delete : Bool) where
  refuses : (refusal : Refusal) → (Refused refusal, serves e files) ≡ step_of (serves e files) (CloseMedium name delete) 0
      → Answers files e (CloseMedium name delete) (Refused refusal)
  refuses refusal by = (by, λ u. ap (λ (o : Outcome). cond (is_refused o.0) u all_settled) (sym by))

  pub closes_none : find_by medium_entry_name name e.library.media ≡ None → Answers files e (CloseMedium name delete) (Refused NoSuchMedium)
  closes_none none = refuses NoSuchMedium
      (rw (medium_of-world (changed_of e) (running_of e) (library_named e.library) files name, none) refl)

  pub closes_used : (m : Medium) → find_by medium_entry_name name e.library.media ≡ Some m
      → list_any (is_using name) (library_named e.library).machines ≡ true → Answers files e (CloseMedium name delete) (Refused InUse)
  closes_used m is used = refuses InUse (rw (
    medium_of-world (changed_of e) (running_of e) (library_named e.library) files name,
    is,
    in_use-world (changed_of e) (running_of e) (library_named e.library) files name,
    used,
  ) refl)

-- ---- the store without the medium

unused_name : (l : Library) (name : Name) → IsWritable l → CanClose l name → IsUnused (library_named l) name
unused_name l name is can = unused-if (library_named l) is.rules name can.free

pub closed_writable : (l : Library) (name : Name) → IsWritable l → CanClose l name → IsWritable (without_medium_entry l name)
closed_writable l name is can = gone_writable l name is can.there (unused_name l name is can)

pub images_less : (e : Store) (name : Name) → IsSoundStore e → CanClose e.library name
    → map image_name (without image_name name e.images) ≡ image_files (library_named (without_medium_entry e.library name))
images_less e name sound can = gone_images e.library name sound.library can.there (unused_name e.library name sound.library can) e.images sound.images

module _ (e : Store) (files : Files) (name : Name) (delete : Bool) (holds : Holds e.library e.images files) (sound : IsSoundStore e)
    (can : CanClose e.library name) where
  abbrev l : NamedLibrary
  l = library_named e.library

  abbrev left : Library
  left = without_medium_entry e.library name

  abbrev plan : List Change
  plan = removal name delete ++ library_changes left

  abbrev now : Files
  now = changed plan files

  named : IsTrue (is_medium_name name)
  named = named-listed l sound.library.rules name can.there

  unused : IsUnused l name
  unused = unused_name e.library name sound.library can

  apart : of_file library_name (removal name delete) ≡ []
  apart = removal_apart name delete named

  now_file : (n : Name) → bytes_eq library_name n ≡ false → now n ≡ cond (delete && bytes_eq name n) None (files n)
  now_file n other = library_frame (removal name delete) left files n other ∙ removed name delete named files n

  now_other : (n : Name) → bytes_eq library_name n ≡ false → bytes_eq name n ≡ false → now n ≡ files n
  now_other n other differs = now_file n other ∙ rw (differs, and-false delete) refl

  others : SameOthers l name files now
  others = record {
    media = λ n is differs. now_other n (medium_not_library n is) (name_sym name n ∙ differs);
    inners = All-every _ (λ x. now_other (inner_file l.seed x.number) (inner_not_library (inner_file l.seed x.number) (inner_named_so l.seed x.number))
        (name_sym name (inner_file l.seed x.number) ∙ inner_other name l.seed x.number named)) l.inners;
  }

  now_here : now name ≡ cond delete None (files name)
  now_here =
      now_file name (medium_not_library name named)
      ∙ rw (name_refl name) (elim delete as (λ d. cond (d && true) None (files name) ≡ cond d None (files name)) [ true ↦ refl | false ↦ refl ])

  module _ (m : Medium) (is : find_by medium_entry_name name e.library.media ≡ Some m) where
    now_shelf : with_shelved (shelf_in l files) name (option_map shelved_file (now name)) ≡ cond delete (shelf_in l files)
        (with_shelved (shelf_in l files) name (shelved (medium_in (changed_of e) l files m) (medium_in (changed_of e) l files m).flat))
    now_shelf =
        let shelf = shelf_in l files in
        let same : m.name ≡ name = same_name m.name name (find_named medium_entry_name name m e.library.media is) in
        let none : IsUnused l m.name = subst (IsUnused l) (sym same) unused in
        let own = All-find medium_entry_name (IsMediumFile l files) name m e.library.media holds.store.media is in
        let before : shelved (medium_in (changed_of e) l files m) (medium_in (changed_of e) l files m).flat ≡ option_map shelved_file (files name) =
        medium-shelved (changed_of e) l files m own (unmerged-into l m.name sound.library.rules none) (unused-free l m none)
        ∙ ap (λ n. option_map shelved_file (files n)) same in
        ap (λ o. with_shelved shelf name (option_map shelved_file o)) now_here
        ∙ elim delete as (λ d. with_shelved shelf name (option_map shelved_file (cond d None (files name))) ≡ cond d shelf
        (with_shelved shelf name (shelved (medium_in (changed_of e) l files m) (medium_in (changed_of e) l files m).flat))) [
          | true ↦ with_shelved_none shelf name (is_off_shelf l files name can.there)
          | false ↦ ap (with_shelved shelf name) (sym before)
        ]

    now_by : (log : Log) → (Done, serves (store_after e left (edits.Remove name) log) now) ≡ step_of (serves e files) (CloseMedium name delete) 0
    unfolding world_of
    now_by log =
        let w = serves e files in
        rw (medium_of-world (changed_of e) (running_of e) l files name, is, in_use-world (changed_of e) (running_of e) l files name, can.free)
        (ap (λ (v : World). (Done, v)) (gone_serves e name sound.library can.there unused files now others log
        ∙ ap (λ s. record w { media = without medium_name name w.media; shelf = s }) now_shelf))

    closes_some : (log : Log) → Manages files e (CloseMedium name delete) plan (store_after e left (edits.Remove name) log) Done
    closes_some log = manages files e (CloseMedium name delete) plan (store_after e left (edits.Remove name) log) Done
        (sound_after e left (edits.Remove name) log sound (closed_writable e.library name sound.library can) (images_less e name sound can) tt)
        (library_fits (removal name delete) left files apart (removal_fits name delete named files))
        (gone_holds e name sound.library can.there unused files now others (removal name delete) refl apart holds)
        (now_by log)
        (kept_images e.library left files now sound.library.rules
        (λ n is. subst (KeepsBytes (files n)) (sym (now_file n (image_not_library n is))) (kept_or (files n) (delete && bytes_eq name n))))
        (λ n inner unlisted none. now_file n (inner_not_library n inner) ∙ none_or (files n) (delete && bytes_eq name n) none)

  pub closes : (k : Library) (n : Name) (changes : List Change) → k ≡ left → n ≡ name → changes ≡ plan → (log : Log)
      → Manages files e (CloseMedium name delete) changes (store_after e k (edits.Remove n) log) Done
  closes k n changes k_is n_is changes_are log =
      rw (k_is, n_is, changes_are) (of (find_by medium_entry_name name e.library.media) refl)
    where
      of : (o : Option Medium) → find_by medium_entry_name name e.library.media ≡ o
          → Manages files e (CloseMedium name delete) plan (store_after e left (edits.Remove name) log) Done
      of None is = let no : true ≡ false = sym can.there ∙ has_found medium_entry_name name e.library.media ∙ ap is_some is in absurd cc
      of (Some m) is = closes_some m is log
