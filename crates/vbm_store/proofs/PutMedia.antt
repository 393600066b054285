-- A store with one medium more.
use Rattle.std.proofs.Common.{◌≡◌, ℕ, ◌<◌, ◌≤◌, true, false, cond, List, [], ◌∷◌, ◌++◌, map, length, Some, None, Ok, refl, sym, ap, subst, ◌∙◌, arith, IsTrue}
use Rattle.std.specs.Prelude.{IfSome, nat_lt}
use Rattle.std.specs.List.{AllByRecursion, list_any}
use Rattle.std.specs.Str.{bytes_eq}
use Rattle.std.proofs.lemmas.Bool.{and_parts, lt-ltb, false_from_ne_true}
use Rattle.std.proofs.lemmas.Bool.Decides.{nat_tests}
use Rattle.vbm_ports.specs.Files.{Files}
use Rattle.vbm_ports.specs.Names.{is_name_character, is_medium_name}
use Rattle.vbm_volume.specs.Image.{image_of}
use Rattle.vbm_volume.specs.Sectors.{flat_of_base}
use Rattle.vbm_ids.specs.declared.TheConstants.{NUMBER_LIMIT}
use Rattle.vbm_image.specs.declared.image.Image.{Image}
use Rattle.vbm_image.specs.Image.{image_name}
use Rattle.vbm_modes.specs.declared.Mode.TheVariants.{Normal}
use Rattle.vbm_intent.specs.declared.change.Change.{Change}
use Rattle.vbm_intent.specs.declared.log.Log.{Log}
use Rattle.vbm_intent.specs.Changes.{of_file, changed}
use Rattle.vbm_machines.specs.Renumbering.{itself}
use Rattle.vbm_named.specs.Names.{Name, is_before, is_named, has_name, put_by}
use Rattle.vbm_named.specs.Places.{shifted, place_for}
use Rattle.vbm_named.proofs.Lists.{same_name, name_sym, All-every, All-map, All-of_map, All-put, none_of_any, put_map}
use Rattle.vbm_world.specs.declared.limits.TheConstants.{MEDIA_LIMIT}
use Rattle.vbm_world.specs.declared.world.WorldMedium.{WorldMedium}
use Rattle.vbm_world.specs.World.{medium_name, with_shelved}
use Rattle.vbm_registry.specs.declared.media.Medium.{Medium}
use Rattle.vbm_registry.specs.declared.library.Library.{Library}
use Rattle.vbm_registry.specs.declared.features.TheConstants.{BUILT}
use Rattle.vbm_registry.specs.Library.{library_name, medium_entry_name}
use Rattle.vbm_registry.specs.Built.{is_built_mode, IsMachineBuilt, IsBuilt}
use Rattle.vbm_registry.specs.Entries.{medium_put}
use Rattle.vbm_registry.specs.Named.{ImageName, OfMedium, OfInner, NamedInner, named}
use Rattle.vbm_registry.specs.Renumbered.{inner_moved, slot_moved, snapshot_moved, machine_moved, merging_moved, library_moved, with_medium_entry}
use Rattle.vbm_registry.specs.Rules.{IsLibrary}
use Rattle.vbm_registry.proofs.ListLaws.{map-same}
use Rattle.vbm_registry.proofs.RenumberedLaws.{named-medium_entry}
use Rattle.vbm_standing.specs.ChainDisks.{inner_file, image_file}
use Rattle.vbm_standing.specs.EditedFiles.{HasImage}
use Rattle.vbm_standing.specs.Headers.{header_in, variant_of}
use Rattle.vbm_standing.specs.Meaning.{medium_in, world_of}
use Rattle.vbm_standing.specs.Faults.{id_in, IsMediumFile, IsStore}
use Rattle.vbm_standing.specs.Stands.{library_file, read_library}
use Rattle.vbm_standing.proofs.HeaderFacts.{header_frame}
use Rattle.vbm_standing.proofs.MediaRules.{IsOtherImage, unused-new, put-rules}
use Rattle.vbm_standing.proofs.MediaStores.{store-with_medium}
use Rattle.vbm_standing.proofs.MediaWorlds.{SameOthers, others-same, unmerged-into, unused-free, unused-medium, world-with_medium}
use Rattle.vbm_store.specs.declared.store.Store.{Store}
use Rattle.vbm_store.specs.declared.images.Edit.TheVariants.{Put}
use Rattle.vbm_store.specs.Edits.{store_after}
use Rattle.vbm_store.specs.Plans.{library_changes}
use Rattle.vbm_store.specs.Serves.{serves, changed_of, running_of, head_name, head_of, head_in, image_files, IsWritable, Holds}
use Rattle.vbm_store.proofs.Marks.{changed_alike, forgotten, still_marked, running_moved}
use Rattle.vbm_store.proofs.Planned.{written_again, library_made}
use Rattle.vbm_store.proofs.Readiness.{each_image}

-- ---- the order of images

character_low : (c : ℕ) → is_name_character c ≡ true → c < 123
character_low c is = grind (arith, nat_tests)

-- the images of media are before the inner ones
pub before_inner : (name seed : List ℕ) (n : ℕ) → IsTrue (is_medium_name name) → is_before name (inner_file seed n) ≡ true
unfolding is_medium_name inner_file
before_inner [] seed n is = refl
before_inner (c ∷ rest) seed n is =
    let all = and_parts _ _ (and_parts _ _ is).0 in
    let low : nat_lt c 123 ≡ true = lt-ltb c 123 (character_low c (and_parts _ _ all.1).0) in
    rw low refl

-- an item that is before all of the second list comes into the first
put-first : {X : Type 0} (nx : X → Name) (x : X) (xs ys : List X) → AllByRecursion (λ y. is_before (nx x) (nx y) ≡ true) ys
    → put_by nx x (xs ++ ys) ≡ put_by nx x xs ++ ys
unfolding put_by
put-first nx x [] [] before = refl
put-first nx x [] (y ∷ ys) before = rw before.0 refl
put-first {X = X} nx x (z ∷ xs) ys before = elim (is_before (nx x) (nx z)) as (λ b.
    cond b (x ∷ z ∷ (xs ++ ys)) (z ∷ put_by nx x (xs ++ ys)) ≡ cond b (x ∷ z ∷ xs) (z ∷ put_by nx x xs) ++ ys) [
      | true ↦ refl
      | false ↦ ap (λ (rest : List X). z ∷ rest) (put-first nx x xs ys before)
    ]

-- ---- the parts that are in use, where places are others

pub built_moved : (to : ℕ → ℕ) (l : Library) (next : ℕ) (media : List Medium) → IsBuilt BUILT l
    → AllByRecursion (λ (m : Medium). IsTrue (is_built_mode BUILT m.mode)) media → IsBuilt BUILT (record (library_moved to l) { next = next; media = media })
built_moved to l next media is modes = record {
  modes = modes;
  inners = λ off. ap (map (inner_moved to)) (is.inners off);
  machines = λ off. ap (map (machine_moved to)) (is.machines off);
  each = All-of_map (machine_moved to) (IsMachineBuilt BUILT) l.machines (All-map _ _ (λ m of. record {
    slots = λ off. ap (map (slot_moved to)) (of.slots off);
    snapshots = λ off. ap (map (snapshot_moved to)) (of.snapshots off);
  }) l.machines is.each);
  making = is.making;
  merging = λ off. ap (map (merging_moved to)) (is.merging off);
}

-- ---- the library

module _ (l : Library) (m : Medium) (next : ℕ) where
  abbrev pub put_library : Library
  put_library = with_medium_entry (record l { next = next }) m

  pub named_put : named put_library ≡ medium_put (record (named l) { next = next }) m
  named_put = named-medium_entry (record l { next = next }) m

  pub put_writable : IsWritable l → l.making ≡ None → has_name medium_entry_name m.name l.media ≡ false → IsTrue (is_medium_name m.name)
      → m.mode ≡ Normal → length l.media < MEDIA_LIMIT → l.next ≤ next → next ≤ NUMBER_LIMIT → IsWritable put_library
  put_writable is unmade new named_so normal room grows few = record {
    rules = subst IsLibrary (sym named_put) (put-rules (named l) m next l.making is.rules new named_so room grows few
        (subst (λ o. IfSome o (λ name. (l.making ≡ Some name) × (bytes_eq m.name name ≡ false))) (sym unmade) tt));
    built = built_moved (shifted (place_for medium_entry_name m.name l.media)) l next (put_by medium_entry_name m l.media) is.built
        (All-put medium_entry_name _ m l.media (ap (is_built_mode BUILT) normal) is.built.modes);
  }

  -- ---- the images

  module _ (named_so : IsTrue (is_medium_name m.name)) where
    put_files : image_files (named put_library) ≡ put_by itself m.name (image_files (named l))
    put_files =
        let inners = map (λ (x : NamedInner). inner_file l.seed x.number) (named l).inners in
        ap image_files named_put
        ∙ ap (λ names. names ++ inners) (put_map medium_entry_name medium_entry_name itself (λ x. refl) m l.media)
        ∙ sym (put-first itself m.name (map medium_entry_name l.media) inners
        (All-of_map (λ (x : NamedInner). inner_file l.seed x.number) _ (named l).inners
        (All-every _ (λ x. before_inner m.name l.seed x.number named_so) (named l).inners)))

    pub put_images : (image : Image) (images : List Image) → image.name ≡ m.name → map image_name images ≡ image_files (named l)
        → map image_name (put_by image_name image images) ≡ image_files (named put_library)
    put_images image images same are =
        put_map image_name image_name itself (λ x. refl) image images ∙ (λ i. put_by itself (same i) (are i)) ∙ sym put_files

    module _ (is : IsLibrary (named l)) (new : has_name medium_entry_name m.name l.media ≡ false) (files now : Files)
        (others : SameOthers (named l) m.name files now) where
      other_image : (image : ImageName) → HasImage (named l) image → HasImage (named l) image × IsOtherImage m.name image
      other_image (OfMedium name) has = (
        has,
        false_from_ne_true (bytes_eq name m.name) (λ same.
            let clash : true ≡ false = sym has ∙ ap (λ n. has_name medium_entry_name n l.media) (same_name name m.name same) ∙ new in absurd cc),
      )
      other_image (OfInner n) has = (has, refl)

      same_headers : map (head_in files) (image_files (named l)) ≡ map (head_in now) (image_files (named l))
      same_headers = map-same _ _ (image_files (named l)) (each_image (named l) is (λ name. head_in files name ≡ head_in now name)
          (λ image has. ap (λ h. record { name = image_file l.seed image; header = h }) (sym (header_frame files now (image_file l.seed image)
          (others-same (named l) m.name is (unused-new (named l) is m.name new) files now others image (other_image image has))))))

      put_headers : (image : Image) (images : List Image) → head_of image ≡ head_in now m.name
          → map head_of images ≡ map (head_in files) (image_files (named l))
          → map head_of (put_by image_name image images) ≡ map (head_in now) (image_files (named put_library))
      put_headers image images same are =
          put_map head_of image_name head_name (λ x. refl) image images
          ∙ (λ i. put_by head_name (same i) (are i))
          ∙ ap (put_by head_name (head_in now m.name)) same_headers
          ∙ sym (put_map (head_in now) itself head_name (λ n. refl) m.name (image_files (named l)))
          ∙ ap (map (head_in now)) (sym put_files)

-- ---- the store

-- A medium comes whose file is accepted, and whose identifier no other has. Other files that the library names are as before.
pub record IsComing (e : Store) (m : Medium) (next : ℕ) (image : Image) (files now : Files) (f : List ℕ) : Type 0 where
  pub library : IsWritable (put_library e.library m next)
  pub new : has_name medium_entry_name m.name e.library.media ≡ false
  pub named_so : IsTrue (is_medium_name m.name)
  pub others : SameOthers (named e.library) m.name files now
  pub grows : e.library.next ≤ next
  pub same : image.name ≡ m.name
  pub there : now m.name ≡ Some f
  pub accepted : image_of f ≡ Ok image.header
  pub file : IsMediumFile (record (named e.library) { next = next }) now m
  pub own : list_any (λ (n : Medium). bytes_eq (id_in files n) (id_in now m)) e.library.media ≡ false

module _ (e : Store) (m : Medium) (next : ℕ) (image : Image) (files now : Files) (f : List ℕ) (is : IsLibrary (named e.library))
    (of : IsComing e m next image files now f) (header : header_in now m.name ≡ image.header) where
  abbrev put : Library
  put = put_library e.library m next

  abbrev pub put_store : Log → Store
  put_store log = store_after e put (Put image) log

  pub put_holds : (cs : List Change) (from : Files) → now ≡ changed (cs ++ library_changes put) from → of_file library_name cs ≡ []
      → Holds e.library e.images files → Holds put (put_by image_name image e.images) now
  put_holds cs from made alone holds = record {
    read = ap (λ (g : Files). library_file (g library_name)) made ∙ ap library_file (library_made cs put from alone)
        ∙ ap read_library (written_again put of.library);
    store = subst (λ n. IsStore n now) (sym (named_put e.library m next))
        (store-with_medium (named e.library) files now m next e.library.making is holds.store of.new of.others of.grows of.file of.own);
    headers = put_headers e.library m next of.named_so is of.new files now of.others image e.images
        (λ i. record { name = of.same i; header = sym header i }) holds.headers;
  }

  -- the medium in the world: it has the disk of its file, and has not changed
  abbrev pub put_medium : WorldMedium
  put_medium = record {
    name = m.name;
    id = image.header.id;
    modify = image.header.modify;
    changed = false;
    mode = m.mode;
    variant = variant_of image.header.image_type;
    capacity = image.header.capacity;
    flat = Some (flat_of_base f image.header);
  }

  pub put_serves : (log : Log) → serves (put_store log) now
      ≡ (let w = serves e files in record w { next = next; media = put_by medium_name put_medium w.media; shelf = with_shelved w.shelf m.name None })
  put_serves log =
      let marks = changed_of (put_store log) in
      let k = medium_put (record (named e.library) { next = next }) m in
      let unused = unused-new (named e.library) is m.name of.new in
      let unmarked : marks m.name ≡ false = ap (λ n. marks n) (sym of.same) ∙ forgotten image.name e.changed in
      let medium : medium_in marks k now m ≡ put_medium =
      unused-medium marks k now m f image.header (unmerged-into (named e.library) m.name is unused) (unused-free (named e.library) m unused)
      of.there of.accepted ∙ ap (λ c. record put_medium { changed = c }) unmarked in
      let before : world_of marks (running_of e) (named e.library) files ≡ serves e files =
      changed_alike (changed_of e) marks (running_of e) (named e.library) files (All-map _ _ (λ n apart. still_marked image.name n.name e.changed
      (ap (λ name. bytes_eq name n.name) of.same ∙ name_sym m.name n.name ∙ apart)) e.library.media
      (none_of_any (is_named medium_entry_name m.name) e.library.media of.new)) in
      (λ i. world_of marks (running_moved (shifted (place_for medium_entry_name m.name e.library.media)) e.library.machines i)
      (named_put e.library m next i) now)
      ∙ world-with_medium marks (running_of e) (named e.library) files now m next e.library.making is of.new of.others (λ n other. refl)
      ∙ (λ i. record (before i) {
        next = next;
        media = put_by medium_name (medium i) (before i).media;
        shelf = with_shelved (before i).shelf m.name None;
      })
