-- A store with one medium less.
use Rattle.std.proofs.Common.{◌≡◌, ℕ, true, false, not, List, [], ◌++◌, map, refl, sym, ap, subst, ◌∙◌, IsTrue}
use Rattle.std.specs.List.{AllByRecursion}
use Rattle.std.specs.Option.{option_map}
use Rattle.std.specs.Str.{bytes_eq}
use Rattle.std.proofs.lemmas.Bool.{false_from_ne_true}
use Rattle.std.proofs.lemmas.List.Elements.{filter-append}
use Rattle.vbm_ports.specs.Files.{Files}
use Rattle.vbm_ports.specs.Names.{is_medium_name}
use Rattle.vbm_image.specs.declared.image.Image.{Image}
use Rattle.vbm_image.specs.Image.{image_name}
use Rattle.vbm_intent.specs.declared.change.Change.{Change}
use Rattle.vbm_intent.specs.declared.log.Log.{Log}
use Rattle.vbm_intent.specs.Changes.{of_file, changed}
use Rattle.vbm_machines.specs.Renumbering.{itself}
use Rattle.vbm_named.specs.Names.{Name, is_named, has_name, without}
use Rattle.vbm_named.specs.Places.{closed_up}
use Rattle.vbm_named.proofs.Lists.{name_sym, same_name, All-every, All-map, All-join, All-of_map, All-without, others-without, without_none, without_map}
use Rattle.vbm_world.specs.World.{medium_name, with_shelved}
use Rattle.vbm_registry.specs.declared.media.Medium.{Medium}
use Rattle.vbm_registry.specs.declared.library.Library.{Library}
use Rattle.vbm_registry.specs.Library.{library_name, medium_entry_name}
use Rattle.vbm_registry.specs.Entries.{medium_gone, IsUnused}
use Rattle.vbm_registry.specs.Named.{NamedInner, named}
use Rattle.vbm_registry.specs.Renumbered.{medium_place, without_medium_entry}
use Rattle.vbm_registry.specs.Rules.{IsLibrary}
use Rattle.vbm_registry.proofs.ListLaws.{map-same, All-append}
use Rattle.vbm_registry.proofs.RenumberedLaws.{named-without_medium}
use Rattle.vbm_standing.specs.ChainDisks.{inner_file}
use Rattle.vbm_standing.specs.Headers.{shelved_file}
use Rattle.vbm_standing.specs.Meaning.{world_of}
use Rattle.vbm_standing.specs.Faults.{IsStore}
use Rattle.vbm_standing.specs.Stands.{library_file, read_library}
use Rattle.vbm_standing.proofs.HeaderFacts.{header_frame}
use Rattle.vbm_standing.proofs.InnerFiles.{inner_not_medium}
use Rattle.vbm_standing.proofs.MediaRules.{gone-rules}
use Rattle.vbm_standing.proofs.MediaStores.{store-without_medium}
use Rattle.vbm_standing.proofs.MediaWorlds.{SameOthers, named-listed, world-without_medium}
use Rattle.vbm_store.specs.declared.store.Store.{Store}
use Rattle.vbm_store.specs.declared.images.Edit.TheVariants.{Remove}
use Rattle.vbm_store.specs.Edits.{store_after}
use Rattle.vbm_store.specs.Plans.{library_changes}
use Rattle.vbm_store.specs.Serves.{serves, changed_of, running_of, head_name, head_of, head_in, image_files, IsWritable, Holds}
use Rattle.vbm_store.proofs.Marks.{changed_alike, still_marked, running_moved}
use Rattle.vbm_store.proofs.Planned.{written_again, library_made}
use Rattle.vbm_store.proofs.PutMedia.{built_moved}

-- no inner image has the name of a medium
pub inner_other : (name seed : List ℕ) (n : ℕ) → IsTrue (is_medium_name name) → bytes_eq (inner_file seed n) name ≡ false
inner_other name seed n is = false_from_ne_true (bytes_eq (inner_file seed n) name) (λ same.
    let clash : true ≡ false = sym is ∙ ap is_medium_name (sym (same_name (inner_file seed n) name same)) ∙ inner_not_medium seed n in absurd cc)

-- ---- the library

module _ (l : Library) (name : Name) (is : IsWritable l) (there : has_name medium_entry_name name l.media ≡ true) (unused : IsUnused (named l) name) where
  abbrev pub gone_library : Library
  gone_library = without_medium_entry l name

  pub named_gone : named gone_library ≡ medium_gone (named l) name
  named_gone = named-without_medium l name is.rules there unused

  pub gone_writable : IsWritable gone_library
  gone_writable = record {
    rules = subst IsLibrary (sym named_gone) (gone-rules (named l) name is.rules unused);
    built = built_moved (closed_up (medium_place l name)) l l.next (without medium_entry_name name l.media) is.built
        (All-without medium_entry_name _ name l.media is.built.modes);
  }

  -- ---- the images

  named_so : IsTrue (is_medium_name name)
  named_so = named-listed (named l) is.rules name there

  gone_files : image_files (named gone_library) ≡ without itself name (image_files (named l))
  gone_files =
      let inners = map (λ (x : NamedInner). inner_file l.seed x.number) (named l).inners in
      let left = without_none itself name inners (All-of_map (λ (x : NamedInner). inner_file l.seed x.number) _ (named l).inners
      (All-every _ (λ x. inner_other name l.seed x.number named_so) (named l).inners)) in
      ap image_files named_gone
      ∙ (λ i. without_map medium_entry_name medium_entry_name itself (λ x. refl) name l.media i ++ sym left i)
      ∙ sym (filter-append (λ n. not (is_named itself name n)) (map medium_entry_name l.media) inners)

  pub gone_images : (images : List Image) → map image_name images ≡ image_files (named l)
      → map image_name (without image_name name images) ≡ image_files (named gone_library)
  gone_images images are =
      without_map image_name image_name itself (λ x. refl) name images ∙ ap (without itself name) are ∙ sym gone_files

  module _ (files now : Files) (others : SameOthers (named l) name files now) where
    -- the files of the images that are left are the same
    left_same : AllByRecursion (λ n. head_in files n ≡ head_in now n) (image_files (medium_gone (named l) name))
    left_same =
        let at : (n : Name) → now n ≡ files n → head_in files n ≡ head_in now n =
        λ n e. ap (λ h. record { name = n; header = h }) (sym (header_frame files now n e)) in
        All-append _ _ _
        (All-of_map medium_entry_name _ (without medium_entry_name name l.media) (All-left l.media is.rules.media))
        (All-of_map (λ (x : NamedInner). inner_file l.seed x.number) _ (named l).inners
        (All-map _ _ (λ x e. at (inner_file l.seed x.number) e) (named l).inners others.inners))
      where
        All-left : (ms : List Medium) → AllByRecursion (λ (m : Medium). IsTrue (is_medium_name m.name)) ms
            → AllByRecursion (λ (m : Medium). head_in files m.name ≡ head_in now m.name) (without medium_entry_name name ms)
        All-left ms each = All-join _ _ _
            (λ m named apart. ap (λ h. record { name = m.name; header = h }) (sym (header_frame files now m.name (others.media m.name named apart))))
            (without medium_entry_name name ms) (All-without medium_entry_name _ name ms each) (others-without medium_entry_name name ms)

    gone_headers : (images : List Image) → map head_of images ≡ map (head_in files) (image_files (named l))
        → map head_of (without image_name name images) ≡ map (head_in now) (image_files (named gone_library))
    gone_headers images are =
        without_map head_of image_name head_name (λ x. refl) name images
        ∙ ap (without head_name name) are
        ∙ sym (without_map (head_in files) itself head_name (λ n. refl) name (image_files (named l)))
        ∙ ap (map (head_in files)) (sym gone_files ∙ ap image_files named_gone)
        ∙ map-same _ _ (image_files (medium_gone (named l) name)) left_same
        ∙ ap (λ n. map (head_in now) (image_files n)) (sym named_gone)

-- ---- the store

module _ (e : Store) (name : Name) (is : IsWritable e.library) (there : has_name medium_entry_name name e.library.media ≡ true)
    (unused : IsUnused (named e.library) name) (files now : Files)
    (others : SameOthers (named e.library) name files now) where
  abbrev gone : Library
  gone = gone_library e.library name is there unused

  abbrev pub gone_store : Log → Store
  gone_store log = store_after e gone (Remove name) log

  pub gone_holds : (cs : List Change) → now ≡ changed (cs ++ library_changes gone) files → of_file library_name cs ≡ []
      → Holds e.library e.images files → Holds gone (without image_name name e.images) now
  gone_holds cs made alone holds = record {
    read = ap (λ (g : Files). library_file (g library_name)) made ∙ ap library_file (library_made cs gone files alone)
        ∙ ap read_library (written_again gone (gone_writable e.library name is there unused));
    store = subst (λ n. IsStore n now) (sym (named_gone e.library name is there unused))
        (store-without_medium (named e.library) files now name is.rules holds.store unused others);
    headers = gone_headers e.library name is there unused files now others e.images holds.headers;
  }

  pub gone_serves : (log : Log) → serves (gone_store log) now
      ≡ (let w = serves e files in
      record w { media = without medium_name name w.media; shelf = with_shelved w.shelf name (option_map shelved_file (now name)) })
  gone_serves log =
      let marks = changed_of (gone_store log) in
      (λ i. world_of marks (running_moved (closed_up (medium_place e.library name)) e.library.machines i) (named_gone e.library name is there unused i) now)
      ∙ changed_alike (changed_of e) marks (running_of e) (medium_gone (named e.library) name) now (All-map _ _
      (λ n apart. still_marked name n.name e.changed (name_sym name n.name ∙ apart)) (without medium_entry_name name e.library.media)
      (others-without medium_entry_name name e.library.media))
      ∙ world-without_medium (changed_of e) (running_of e) (named e.library) files now name is.rules unused there others
