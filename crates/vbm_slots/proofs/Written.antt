-- Turns that write the library alone: all images stay.
use Rattle.std.proofs.Common.{◌≡◌, false, [], map, refl, sym, ap, subst, ◌∙◌}
use Rattle.std.specs.Str.{bytes_eq}
use Rattle.vbm_ports.specs.Files.{Files}
use Rattle.vbm_intent.specs.declared.log.Log.{Log}
use Rattle.vbm_intent.specs.Changes.{changed}
use Rattle.vbm_named.specs.Names.{Name}
use Rattle.vbm_named.proofs.Lists.{All-every}
use Rattle.vbm_registry.specs.declared.library.Library.{Library}
use Rattle.vbm_registry.specs.Library.{library_name}
use Rattle.vbm_registry.specs.Named.{named}
use Rattle.vbm_registry.proofs.ListLaws.{map-same}
use Rattle.vbm_standing.specs.ChainDisks.{inner_file, image_file}
use Rattle.vbm_standing.specs.Faults.{IsStore}
use Rattle.vbm_standing.specs.Stands.{library_file, read_library}
use Rattle.vbm_standing.proofs.HeaderFacts.{header_frame}
use Rattle.vbm_standing.proofs.InnerFileNames.{inner_named_so}
use Rattle.vbm_standing.proofs.MachineWorlds.{SameImages, images-same}
use Rattle.vbm_world.specs.declared.command.Command.{Command}
use Rattle.vbm_world.specs.declared.command.Answer.{Answer}
use Rattle.vbm_world.specs.Step.{step_of}
use Rattle.vbm_store.specs.declared.store.Store.{Store}
use Rattle.vbm_store.specs.declared.images.Edit.TheVariants.{Keep}
use Rattle.vbm_store.specs.Edits.{store_after}
use Rattle.vbm_store.specs.Plans.{library_changes}
use Rattle.vbm_store.specs.Kept.{KeepsBytes, AreKept}
use Rattle.vbm_store.specs.Serves.{serves, head_in, image_files, IsWritable, IsSoundStore, Holds}
use Rattle.vbm_store.specs.Steps.{HasNoStrays, Manages}
use Rattle.vbm_store.proofs.Decisions.{medium_not_library, inner_not_library, image_not_library, kept_or}
use Rattle.vbm_store.proofs.Keeping.{kept_images}
use Rattle.vbm_store.proofs.Planned.{library_made, library_frame, library_fits, written_again}
use Rattle.vbm_store.proofs.Readiness.{each_image}
use Rattle.vbm_store.proofs.Edits.{sound_after}
use Rattle.vbm_store.proofs.Turning.{manages}

module _ (e : Store) (k : Library) (files : Files) (sound : IsSoundStore e) (holds : Holds e.library e.images files) where
  abbrev pub now : Files
  now = changed (library_changes k) files

  now_other : (n : Name) → bytes_eq library_name n ≡ false → now n ≡ files n
  now_other n other = library_frame [] k files n other

  -- no image's file is another
  pub now_images : SameImages (named e.library) files now
  now_images = record {
    media = λ n is. now_other n (medium_not_library n is);
    inners = All-every _ (λ x. now_other (inner_file e.library.seed x.number)
        (inner_not_library (inner_file e.library.seed x.number) (inner_named_so e.library.seed x.number))) (named e.library).inners;
  }

  now_kept : AreKept e.library files k now
  now_kept = kept_images e.library k files now sound.library.rules
      (λ n is. subst (KeepsBytes (files n)) (sym (now_other n (image_not_library n is))) (kept_or (files n) false))

  now_strays : HasNoStrays k files now
  now_strays name inner unlisted none = now_other name (inner_not_library name inner) ∙ none

  now_headers : map (head_in now) (image_files (named e.library)) ≡ map (head_in files) (image_files (named e.library))
  now_headers =
      let l = named e.library in
      map-same _ _ (image_files l) (each_image l sound.library.rules (λ name. head_in now name ≡ head_in files name)
      (λ image listed. ap (λ h. record { name = image_file l.seed image; header = h })
      (header_frame files now (image_file l.seed image) (images-same l sound.library.rules files now now_images image listed))))

  now_holds : IsWritable k → image_files (named k) ≡ image_files (named e.library) → IsStore (named k) now → Holds k e.images now
  now_holds written same store = record {
    read = ap library_file (library_made [] k files refl) ∙ ap read_library (written_again k written);
    store = store;
    headers = holds.headers ∙ sym now_headers ∙ ap (map (head_in now)) (sym same);
  }

  -- the turn of a command that writes the library
  pub writes : (c : Command) (a : Answer) (log : Log) → IsWritable k → image_files (named k) ≡ image_files (named e.library)
      → IsStore (named k) now → (a, serves (store_after e k Keep log) now) ≡ step_of (serves e files) c 0
      → Manages files e c (library_changes k) (store_after e k Keep log) a
  writes c a log written same store by =
      manages files e c (library_changes k) (store_after e k Keep log) a
      (sound_after e k Keep log sound written (sound.images ∙ sym same) tt)
      (library_fits [] k files refl (λ n. tt)) (now_holds written same store) by now_kept now_strays
