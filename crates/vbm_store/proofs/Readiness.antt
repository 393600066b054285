-- Stores whose files a crash left: what they stand for, and when a disk is ready.
use Rattle.std.proofs.Common.{◌≡◌, ◌≢◌, ◌⊎◌, ℕ, Bool, true, false, cond, ◌||◌, List, [], ◌∷◌, map, reverse, Option, Some, None, Ok, refl, sym, ap, subst, ◌∙◌, arith, inl, inr, ⊎_elim, IsTrue}
use Rattle.std.specs.List.{AllByRecursion}
use Rattle.std.specs.Str.{bytes_eq}
use Rattle.std.proofs.Math.Bool.{or-true}
use Rattle.std.proofs.lemmas.Bool.{cases_Bool, false_from_ne_true}
use Rattle.std.proofs.lemmas.Simd.{map-map}
use Rattle.vbm_ports.specs.Files.{Files}
use Rattle.vbm_ports.specs.Disk.{DiskState, Passes, IsCoherent}
use Rattle.vbm_ports.specs.Crash.{Only}
use Rattle.vbm_ports.specs.Names.{is_medium_name, is_inner_name}
use Rattle.vbm_intent.specs.Changes.{log_name}
use Rattle.vbm_intent.specs.Log.{IsShut, IsShutInAll, SameBesidesLog, RedoesTo}
use Rattle.vbm_header.specs.declared.Header.{Header}
use Rattle.vbm_header.specs.Header.{is_differencing}
use Rattle.vbm_image.specs.declared.image.Image.{Image}
use Rattle.vbm_volume.specs.Like.{IsLikeFile}
use Rattle.vbm_volume.proofs.Likes.{like_refl, like_image}
use Rattle.vbm_named.specs.Names.{Name, has_name}
use Rattle.vbm_named.proofs.Lists.{name_refl, same_name, All-every, All-map, All-join, All-both, All-of_map}
use Rattle.vbm_world.specs.World.{World, medium_off, machine_off, off}
use Rattle.vbm_world.specs.Loose.{Unsettled, IsLoosely}
use Rattle.vbm_world.proofs.Worlds.{loosely_refl, loosely_trans}
use Rattle.vbm_ids.specs.Identifier.{is_foreign}
use Rattle.vbm_registry.specs.declared.media.Medium.{Medium}
use Rattle.vbm_registry.specs.declared.library.Inner.{Inner}
use Rattle.vbm_registry.specs.declared.library.Library.{Library}
use Rattle.vbm_registry.specs.Library.{library_name, medium_entry_name}
use Rattle.vbm_registry.specs.Grammar.{library_off}
use Rattle.vbm_registry.specs.Named.{ImageName, OfMedium, OfInner, NamedInner, NamedLibrary, medium_names, inner_named, named}
use Rattle.vbm_registry.specs.Rules.{has_number, IsLibrary}
use Rattle.vbm_registry.proofs.ListLaws.{map-same, All-append, All-reverse, All-of_reverse, All-from_map}
use Rattle.vbm_registry.proofs.DecodedRules.{named_off}
use Rattle.vbm_standing.specs.ChainDisks.{inner_file, image_file}
use Rattle.vbm_standing.specs.EditedFiles.{HasImage}
use Rattle.vbm_standing.specs.Headers.{header_in}
use Rattle.vbm_standing.specs.Meaning.{machine_in, medium_in, shelf_in, is_made, world_of, none_runs, none_changed}
use Rattle.vbm_standing.specs.Faults.{id_in, is_linked_whole, IsAccepted, IsMediumFile, IsInnerFile, HaveOwnIds, IsStore}
use Rattle.vbm_standing.specs.Stands.{library_file, library_of, held_by, Stands, redone}
use Rattle.vbm_standing.proofs.ChainFrames.{parents-in}
use Rattle.vbm_standing.proofs.EditedStores.{each-number}
use Rattle.vbm_standing.proofs.InnerFiles.{inner_not_medium}
use Rattle.vbm_standing.proofs.InnerFileNames.{inner_named_so}
use Rattle.vbm_standing.proofs.LeafImages.{All-number}
use Rattle.vbm_standing.proofs.LikeChains.{header-like, AreLikeImages}
use Rattle.vbm_standing.proofs.LooseSlots.{world-loosely}
use Rattle.vbm_standing.proofs.MachineWorlds.{SameImages}
use Rattle.vbm_standing.proofs.MediaWorlds.{each-listed}
use Rattle.vbm_standing.proofs.Redone.{stands_shut}
use Rattle.vbm_standing.proofs.Stores.{held_if_store, medium_not_log, library_not_log}
use Rattle.vbm_store.specs.declared.store.Store.{Store}
use Rattle.vbm_store.specs.Listed.{is_inner_of, is_listed}
use Rattle.vbm_store.specs.Keeps.{Whole, Listed, Free, KeepsFile, KeepsEach, AllKeep, is_whole, kind_of}
use Rattle.vbm_store.specs.Serves.{rests, serves, changed_of, running_of, head_in, image_files, IsSoundStore, Holds, FitsDisk, touched, IsReady, StandsLoosely}

-- ---- names

pub inner_not_log : (name : Name) → IsTrue (is_inner_name name) → name ≢ log_name
unfolding is_inner_name
inner_not_log name inner e = let t : false ≡ true = ap is_inner_name (sym e) ∙ inner in absurd cc

-- a fact on the names of all items holds of one that some item has
pub All-has : {X : Type 0} (nx : X → Name) (Q : Name → Type 0) (name : Name) (xs : List X) → AllByRecursion (λ x. Q (nx x)) xs
    → has_name nx name xs ≡ true → Q name
All-has nx Q name [] all has = absurd cc
All-has nx Q name (x ∷ xs) all has = elim (cases_Bool (bytes_eq (nx x) name)) [
  | inl is ↦ subst Q (same_name (nx x) name is) all.0
  | inr other ↦ All-has nx Q name xs all.1 (rw other at has)
]

or_one : (b c : Bool) → c ≡ true → (b || c) ≡ true
or_one true c e = refl
or_one false c e = e

each-has : {X : Type 0} (nx : X → Name) (xs : List X) → AllByRecursion (λ x. has_name nx (nx x) xs ≡ true) xs
each-has nx [] = tt
each-has nx (x ∷ xs) = (
  ap (λ b. b || has_name nx (nx x) xs) (name_refl (nx x)),
  All-map _ _ (λ y is. or_one (bytes_eq (nx x) (nx y)) _ is) xs (each-has nx xs),
)

-- ---- the files of a library's images

abbrev inner_name : List ℕ → Inner → Name
inner_name seed x = inner_file seed x.number

-- a listed file is that of a medium or of an inner image
pub either : (a b : Bool) → (a || b) ≡ true → (a ≡ true) ⊎ (b ≡ true)
either true b is = inl refl
either false b is = inr is

module _ (l : Library) where
  medium_listed : (name : Name) → has_name medium_entry_name name l.media ≡ true → is_listed l name ≡ true
  medium_listed name has = ap (λ b. b || is_inner_of l name) has

  inner_listed : (n : ℕ) → has_number n (reverse (named l).inners) ≡ true → is_listed l (inner_file l.seed n) ≡ true
  inner_listed n has = or_one (has_name medium_entry_name (inner_file l.seed n) l.media) _
      (All-number (λ k. is_inner_of l (inner_file l.seed k) ≡ true) (reverse (named l).inners) n
      (All-reverse _ (named l).inners (All-of_map (inner_named (medium_names l.media)) _ l.inners (each-has (inner_name l.seed) l.inners))) has)

  -- the file of a listed image is listed
  pub image_listed : (image : ImageName) → HasImage (named l) image → is_listed l (image_file l.seed image) ≡ true
  image_listed (OfMedium name) has = medium_listed name has
  image_listed (OfInner n) has = inner_listed n has

  -- what holds of the files of all images holds of each listed file
  pub each_listed : (Q : Name → Type 0) → AllByRecursion (λ (m : Medium). Q m.name) l.media
      → AllByRecursion (λ (x : NamedInner). Q (inner_file l.seed x.number)) (named l).inners → (name : Name) → is_listed l name ≡ true → Q name
  each_listed Q media inners name listed = ⊎_elim
      (λ has. All-has medium_entry_name Q name l.media media has)
      (λ has. All-has (inner_name l.seed) Q name l.inners (All-from_map (inner_named (medium_names l.media)) _ l.inners inners) has)
      (either (has_name medium_entry_name name l.media) (is_inner_of l name) listed)

-- what holds of the file of each listed image holds of all
pub each_image : (l : NamedLibrary) → IsLibrary l → (P : Name → Type 0) → ((image : ImageName) → HasImage l image → P (image_file l.seed image))
    → AllByRecursion P (image_files l)
each_image l is P of = All-append P _ _
    (All-of_map medium_entry_name P l.media (All-map _ _ (λ m listed. of (OfMedium m.name) listed) l.media (each-listed l is)))
    (All-of_map (λ (x : NamedInner). inner_file l.seed x.number) P l.inners
    (All-map _ _ (λ x listed. of (OfInner x.number) listed) l.inners (All-of_reverse _ l.inners (each-number (reverse l.inners)))))

-- a listed file has the name of a medium, or of an inner image
abbrev pub is_image_name : Name → Bool
is_image_name name = is_medium_name name || is_inner_name name

or_left : (a b : Bool) → a ≡ true → (a || b) ≡ true
or_left a b is = ap (λ c. c || b) is

pub listed_named : (l : Library) → IsLibrary (named l) → (name : Name) → is_listed l name ≡ true → IsTrue (is_image_name name)
listed_named l is = each_listed l (λ n. IsTrue (is_image_name n))
    (All-map _ _ (λ m of. or_left (is_medium_name m.name) (is_inner_name m.name) of) l.media is.media)
    (All-every _ (λ x. or_one (is_medium_name (inner_file l.seed x.number)) _ (inner_named_so l.seed x.number)) (named l).inners)

pub unlisted : (l : Library) → IsLibrary (named l) → (name : Name) → is_image_name name ≡ false → is_listed l name ≡ false
unlisted l is name none = false_from_ne_true (is_listed l name) (λ listed.
    let no : true ≡ false = sym (listed_named l is name listed) ∙ none in absurd cc)

-- no file with a medium's name is an inner image's
pub off_inners : (l : Library) (name : Name) → IsTrue (is_medium_name name) → is_inner_of l name ≡ false
off_inners l name is = false_from_ne_true (is_inner_of l name) (λ inner.
    let none = All-has (inner_name l.seed) (λ n. is_medium_name n ≡ false) name l.inners (All-every _ (λ x. inner_not_medium l.seed x.number) l.inners) inner in
    let no : true ≡ false = sym is ∙ none in absurd cc)

library_named : is_image_name library_name ≡ false
unfolding is_medium_name is_inner_name
library_named = refl

pub image_not_log : (name : Name) → IsTrue (is_image_name name) → name ≢ log_name
image_not_log name is = ⊎_elim (medium_not_log name) (inner_not_log name) (either (is_medium_name name) (is_inner_name name) is)

-- ---- the log aside

pub same_images : (l : NamedLibrary) (a b : Files) → SameBesidesLog b a → SameImages l a b
same_images l a b same = record {
  media = λ name named. same name (medium_not_log name named);
  inners = All-every _ (λ x. same (inner_file l.seed x.number) (inner_not_log (inner_file l.seed x.number) (inner_named_so l.seed x.number))) l.inners;
}

-- ---- files by their kinds

pub kind_listed : (l : Library) (files : Files) (name : Name) → is_listed l name ≡ true → kind_of l files name ≡ Listed (header_in files name)
kind_listed l files name listed = ap (λ b. cond b (Listed (header_in files name)) (cond (is_whole l name) Whole Free)) listed

pub kind_whole : (l : Library) (files : Files) (name : Name) → is_listed l name ≡ false → is_whole l name ≡ true → kind_of l files name ≡ Whole
kind_whole l files name none whole =
    ap (λ b. cond b (Listed (header_in files name)) (cond (is_whole l name) Whole Free)) none ∙ ap (λ b. cond b Whole Free) whole

listed_kept : (h : Header) (loose : ℕ → Bool) (file now : Option (List ℕ)) (f : List ℕ) → file ≡ Some f
    → KeepsFile (Listed h) loose file now → (g : List ℕ) × (now ≡ Some g) × IsLikeFile h loose f g
listed_kept h loose None now f is kept = absurd kept
listed_kept h loose (Some e) None f is kept = absurd kept
listed_kept h loose (Some e) (Some g) f is kept =
    let same : e ≡ f = cc is in (g, refl, subst (λ x. IsLikeFile h loose x g) same kept)

-- the file of each listed image is accepted
module _ (l : Library) (files : Files) (store : IsStore (named l) files) where
  pub image_accepted : (image : ImageName) → HasImage (named l) image → IsAccepted files (image_file l.seed image)
  image_accepted (OfMedium name) has =
      All-has medium_entry_name (IsAccepted files) name l.media (All-map _ _ (λ m of. of.image) l.media store.media) has
  image_accepted (OfInner n) has = All-number (λ k. IsAccepted files (inner_file l.seed k)) (reverse (named l).inners) n
      (All-reverse _ (named l).inners (All-map _ _ (λ x of. of.image) (named l).inners store.inners)) has

  pub listed_accepted : (name : Name) → is_listed l name ≡ true → IsAccepted files name
  listed_accepted = each_listed l (IsAccepted files) (All-map _ _ (λ m of. of.image) l.media store.media)
      (All-map _ _ (λ x of. of.image) (named l).inners store.inners)

-- files are kept of themselves
pub keeps_self : (l : Library) (files : Files) (loose : Name → ℕ → Bool) → IsStore (named l) files → KeepsEach (kind_of l files) loose files files
keeps_self l files loose store name other = elim (cases_Bool (is_listed l name)) [
  | inl has ↦
      let of = listed_accepted l files store name has in
      subst (λ k. KeepsFile k (loose name) (files name) (files name)) (sym (kind_listed l files name has))
      (rw of.there (like_refl of.file (header_in files name) (loose name) of.accepted))
  | inr none ↦ rw none (elim (cases_Bool (is_whole l name)) [ inl whole ↦ rw whole refl | inr free ↦ rw free tt ])
]

-- ---- stores of files that are kept

-- media whose files have the same headers
abbrev SameHeaders : Files → Files → List Medium → Type 0
SameHeaders a b ms = AllByRecursion (λ (m : Medium). header_in b m.name ≡ header_in a m.name) ms

distinct_same : (a b : Files) (ms : List Medium) → SameHeaders a b ms → HaveOwnIds a ms → HaveOwnIds b ms
distinct_same a b [] same distinct = tt
distinct_same a b (m ∷ ms) same distinct =
    (All-join _ _ _ (λ n other e. rw (same.0, e, id_in) other) ms distinct.0 same.1, distinct_same a b ms same.1 distinct.1)

module _ (loose : Name → ℕ → Bool) (l : NamedLibrary) (is : IsLibrary l) (files now : Files) (like : AreLikeImages l loose files now)
    (store : IsStore l files) where
  pub same_header : (image : ImageName) → HasImage l image → header_in now (image_file l.seed image) ≡ header_in files (image_file l.seed image)
  same_header image listed = header-like loose files now (image_file l.seed image) (like image listed)

  still_accepted : (image : ImageName) → HasImage l image → IsAccepted now (image_file l.seed image)
  still_accepted image listed =
      let of = like image listed in
      let name = image_file l.seed image in
      record {
        file = of.left;
        there = of.after;
        accepted = like_image of.file of.left (header_in files name) (loose name) of.accepted of.like ∙ ap Ok (sym (same_header image listed));
      }

  medium_left : (m : Medium) → has_name medium_entry_name m.name l.media ≡ true → IsMediumFile l files m → IsMediumFile l now m
  medium_left m listed own =
      let same = same_header (OfMedium m.name) listed in
      record {
        image = still_accepted (OfMedium m.name) listed;
        whole = ap (λ (h : Header). is_differencing h.image_type) same ∙ own.whole;
        known = ap (λ (h : Header). is_foreign l.seed l.next h.id) same ∙ own.known;
      }

  inner_left : (x : NamedInner) → HasImage l (OfInner x.number) × HasImage l x.parent → IsInnerFile l.seed files x → IsInnerFile l.seed now x
  inner_left x listed own =
      let same = same_header (OfInner x.number) listed.0 in
      let below = same_header x.parent listed.1 in
      record {
        image = still_accepted (OfInner x.number) listed.0;
        id = ap (λ (h : Header). h.id) same ∙ own.id;
        linked = (λ i. is_linked_whole (below i) (same i)) ∙ own.linked;
      }

  pub store_left : IsStore l now
  store_left = record {
    media = All-join _ _ _ medium_left l.media (each-listed l is) store.media;
    distinct = distinct_same files now l.media (All-map _ _ (λ m listed. same_header (OfMedium m.name) listed) l.media (each-listed l is)) store.distinct;
    inners = All-join _ _ _ inner_left l.inners
        (All-both _ _ l.inners (All-of_reverse _ l.inners (each-number (reverse l.inners)))
        (All-of_reverse _ l.inners (parents-in l.media l.inner (reverse l.inners) is.inners))) store.inners;
  }

  pub images_left : map (head_in now) (image_files l) ≡ map (head_in files) (image_files l)
  images_left = map-same _ _ (image_files l) (each_image l is (λ name. head_in now name ≡ head_in files name)
      (λ image listed. ap (λ h. record { name = image_file l.seed image; header = h }) (same_header image listed)))

module _ (loose : Name → ℕ → Bool) (l : Library) (is : IsLibrary (named l)) (files now : Files) (store : IsStore (named l) files)
    (keeps : KeepsEach (kind_of l files) loose files now) where
  -- the file of each listed image, as it is left
  pub like_left : AreLikeImages (named l) loose files now
  like_left image has =
      let name = image_file l.seed image in
      let listed = image_listed l image has in
      let of = image_accepted l files store image has in
      let kept = listed_kept (header_in files name) (loose name) (files name) (now name) of.file of.there
      (subst (λ k. KeepsFile k (loose name) (files name) (now name)) (kind_listed l files name listed)
      (keeps name (image_not_log name (listed_named l is name listed)))) in
      record { file = of.file; there = of.there; accepted = of.accepted; left = kept.0; after = kept.1; like = kept.2 }

  whole_left : (name : Name) → name ≢ log_name → is_listed l name ≡ false → is_whole l name ≡ true → now name ≡ files name
  whole_left name other none whole =
      subst (λ k. KeepsFile k (loose name) (files name) (now name)) (kind_whole l files name none whole) (keeps name other)

  pub library_left : now library_name ≡ files library_name
  library_left = whole_left library_name library_not_log (unlisted l is library_name library_named) refl

  pub shelf_left : (name : Name) → IsTrue (is_medium_name name) → has_name medium_entry_name name l.media ≡ false → is_made l.making name ≡ false
      → now name ≡ files name
  shelf_left name named none unmade = whole_left name (medium_not_log name named) (rw (none, off_inners l name named) refl)
      (rw (named, unmade) (or-true (bytes_eq name library_name)))

  pub holds_left : (images : List Image) → Holds l images files → Holds l images now
  holds_left images holds = record {
    read = ap library_file library_left ∙ holds.read;
    store = store_left loose (named l) is files now like_left store;
    headers = holds.headers ∙ sym (images_left loose (named l) is files now like_left store);
  }

-- ---- disks that are ready

-- what stands is the world of a library at rest
pub held_rests : (l : Library) (files : Files) → library_of files ≡ Ok (library_off l) → IsStore (named l) files → held_by files ≡ Ok (rests l files)
held_rests l files read store =
    held_if_store (library_off l) files read (subst (λ n. IsStore n files) (sym (named_off l)) store)
    ∙ ap (λ n. Ok (world_of none_changed none_runs n files)) (named_off l)

-- a world that is off is that at rest
pub off_rests : (changed running : Name → Bool) (l : NamedLibrary) (files : Files)
    → off (world_of changed running l files) ≡ world_of none_changed none_runs l files
unfolding world_of medium_in
off_rests changed running l files =
    let media = map-map medium_off (medium_in changed l files) l.media in
    let machines = map-map machine_off (machine_in running l files) l.machines in
    λ i. record { seed = l.seed; next = l.next; inner = l.inner; media = media i; machines = machines i; shelf = shelf_in l files }

-- where nothing is staged, the files hold what is served, whatever is unsettled
pub unstaged_here : (e : Store) (files : Files) (u : Unsettled) → IsLoosely u (off (serves e files)) (rests e.library files)
unstaged_here e files u = subst (λ w. IsLoosely u w (rests e.library files))
    (sym (off_rests (changed_of e) (running_of e) (named e.library) files)) (loosely_refl u (rests e.library files))

-- files that a store fits stand for its world
pub fits_stands : (e : Store) (s : DiskState) → FitsDisk e s → s.may_leave s.files → Stands s.files (Ok (off (serves e s.files)))
fits_stands e s fits now = stands_shut s.files _ (fits.frame s.files now).shut
    (held_rests e.library s.files fits.holds.read fits.holds.store
    ∙ ap Ok (sym (off_rests (changed_of e) (running_of e) (named e.library) s.files)))

-- a settled disk is ready with the sectors in which the files may differ from what is served
pub settled_ready : (e : Store) (s : DiskState) (u : Unsettled) → Holds e.library e.images s.files
    → IsLoosely u (off (serves e s.files)) (rests e.library s.files) → Only s.files s.may_leave → IsShutInAll s.may_leave
    → s.may_leave s.files → IsReady e s u
settled_ready e s u holds here only shut now = record {
  fits = record { holds = holds; frame = keeps (λ name i. true) };
  keeps = keeps (touched e.library u);
  here = here;
}
  where
    keeps : (loose : Name → ℕ → Bool) → AllKeep (kind_of e.library s.files) loose s.files s
    keeps loose image may = rw (only image may)
        (record { shut = shut s.files now; each = keeps_self e.library s.files loose holds.store })

-- ---- files that are kept

module _ (u : Unsettled) (l : Library) (images : List Image) (files : Files) (is : IsLibrary (named l)) (holds : Holds l images files)
    (w : World) (here : IsLoosely u w (rests l files)) (image : Files) (keeps : KeepsEach (kind_of l files) (touched l u) files image) where
  left_loosely : (now : Files) → KeepsEach (kind_of l files) (touched l u) files now → IsLoosely u w (rests l now)
  left_loosely now kept = loosely_trans u _ _ _ here (world-loosely none_changed none_runs (named l) u files now is
      (like_left (touched l u) l is files now holds.store kept) (shelf_left (touched l u) l is files now holds.store kept))

  held_left : (now : Files) → KeepsEach (kind_of l files) (touched l u) files now → held_by now ≡ Ok (rests l now)
  held_left now kept =
      let held = holds_left (touched l u) l is files now holds.store kept images holds in held_rests l now held.read held.store

  -- an image whose files are kept stands for the world, but for unsettled sectors
  pub kept_stands : IsShut (image log_name) → StandsLoosely w u image
  kept_stands shut = record {
    world = rests l image;
    stands = stands_shut image _ shut (held_left image keeps);
    loosely = left_loosely image keeps;
  }

  -- and so does what is redone to one
  pub kept_redone : (later : Files) → RedoesTo image later → StandsLoosely w u later
  kept_redone later to =
      let also : KeepsEach (kind_of l files) (touched l u) files to.result =
      λ name other. subst (KeepsFile (kind_of l files name) (touched l u name) (files name)) (sym (to.same name other)) (keeps name other) in
      record {
        world = rests l to.result;
        stands = redone to.result to.redo (held_left to.result also);
        loosely = left_loosely to.result also;
      }

module _ (e : Store) (s : DiskState) (u : Unsettled) (sound : IsSoundStore e) (ready : IsReady e s u) (image : Files)
    (may : s.may_leave image) where
  -- an image of a ready disk stands for the world that is served
  pub ready_stands : StandsLoosely (off (serves e s.files)) u image
  ready_stands = kept_stands u e.library e.images s.files sound.library.rules ready.fits.holds (off (serves e s.files)) ready.here image
      (ready.keeps image may).each (ready.keeps image may).shut

  -- and so does what is redone to one
  pub ready_redone : (later : Files) → RedoesTo image later → StandsLoosely (off (serves e s.files)) u later
  ready_redone = kept_redone u e.library e.images s.files sound.library.rules ready.fits.holds (off (serves e s.files)) ready.here image
      (ready.keeps image may).each

-- ---- the log aside, again

-- files that are the same but for the log are kept
pub besides_kept : (l : Library) (a b : Files) (loose : Name → ℕ → Bool) → IsStore (named l) a → SameBesidesLog b a
    → KeepsEach (kind_of l a) loose a b
besides_kept l a b loose store same name other =
    subst (KeepsFile (kind_of l a name) (loose name) (a name)) (sym (same name other)) (keeps_self l a loose store name other)

pub holds_besides : (l : Library) (images : List Image) (a b : Files) → IsLibrary (named l) → SameBesidesLog b a → Holds l images a → Holds l images b
holds_besides l images a b is same holds =
    holds_left (λ name i. false) l is a b holds.store (besides_kept l a b (λ name i. false) holds.store same) images holds

-- what a crash leaves at the end of a stretch, of which P is known, and of the disk before it
pub left_now : {tells : Type 0} (old new : DiskState) (P : Files → Type 0) → IsCoherent tells old → IsCoherent tells new → Passes old new P
    → ((image : Files) → old.may_leave image → P image) → (image : Files) → new.may_leave image → P image
left_now old new P before after time at_first image may = ⊎_elim (λ was. at_first image (before.only_now image was)) (λ now. now)
    (time.only old.moment image (omega arith) (after.counts_now old.moment image time.later may))
