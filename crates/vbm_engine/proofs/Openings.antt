-- Opening a store.
use Rattle.std.proofs.Common.{◌≡◌, ◌≢◌, ◌⊎◌, ℕ, ◌+◌, ◌<◌, ◌≤◌, min, Bool, true, false, cond, List, [], ◌∷◌, ◌++◌, map, length, take, drop, get_or, Option, Some, None, Result, Ok, Err, refl, sym, ap, subst, ◌∙◌, arith, inl, inr, ⊎_elim, length-take, IsTrue}
use Rattle.std.specs.Prelude.{nat_eq, ◌||◌, ◌&&◌}
use Rattle.std.specs.List.{AllByRecursion, starts_with, list_any}
use Rattle.std.specs.Str.{bytes_eq}
use Rattle.std.proofs.lemmas.Bool.{cases_lt, lt-ltb}
use Rattle.std.proofs.lemmas.Option.{get_or_from_slice_get}
use Rattle.std.proofs.lemmas.List.{append-nil, take_all, drop_all, take-take, take-append-le, drop_more, map_push, map_more}
use Rattle.std.proofs.lemmas.Simd.{map-map}
use Rattle.vbm_ports.specs.Files.{Files, bytes_of, Reads}
use Rattle.vbm_ports.specs.Crash.{Only}
use Rattle.vbm_ports.specs.Names.{is_medium_name}
use Rattle.vbm_ports.specs.Disk.{DiskState, Passes, OnlyReads, IsCoherent}
use Rattle.vbm_ports.proofs.States.{Passes-trans, Passes-weaker}
use Rattle.vbm_intent.specs.Changes.{log_name}
use Rattle.vbm_intent.specs.Log.{IsOpen, IsShut, IsShutInAll, closed, SameBesidesLog, IsLikeRedone, RedoesTo, redo_has_one_result}
use Rattle.vbm_header.specs.declared.Header.{Header}
use Rattle.vbm_header.specs.Header.{fields}
use Rattle.vbm_image.specs.declared.image.Image.{Image}
use Rattle.vbm_image.specs.Image.{image_name, image_id, IsInForm}
use Rattle.vbm_volume.proofs.Likes.{image_fields}
use Rattle.vbm_machines.specs.declared.Machine.{Machine}
use Rattle.vbm_machines.specs.Renumbering.{itself}
use Rattle.vbm_named.specs.Names.{Name, has_name}
use Rattle.vbm_world.specs.World.{World}
use Rattle.vbm_world.specs.Loose.{Unsettled}
use Rattle.vbm_named.proofs.Lists.{name_sym, All-map, All-get, All-every, any_none, any_map}
use Rattle.vbm_registry.specs.declared.media.Medium.{Medium}
use Rattle.vbm_registry.specs.declared.library.Library.{Library}
use Rattle.vbm_registry.specs.declared.fault.BadStore.{BadStore}
use Rattle.vbm_registry.specs.declared.fault.BadStore.TheVariants.{SameId}
use Rattle.vbm_registry.specs.Library.{library_name, medium_entry_name}
use Rattle.vbm_registry.specs.Spelling.{head}
use Rattle.vbm_registry.specs.declared.library.Inner.{Inner}
use Rattle.vbm_registry.specs.Named.{NamedInner, NamedLibrary, medium_names, inner_named, named}
use Rattle.vbm_registry.specs.Rules.{IsLibrary}
use Rattle.vbm_registry.proofs.NamesAtPlaces.{item_at}
use Rattle.vbm_registry.proofs.DecodedRules.{off_same, decoded_rules}
use Rattle.vbm_registry.specs.declared.features.TheConstants.{BUILT}
use Rattle.vbm_registry.specs.Grammar.{library_in, IsDecoded, entry_off, library_off}
use Rattle.vbm_registry.specs.PlaceRules.{keeps_places}
use Rattle.vbm_standing.specs.ChainDisks.{inner_file}
use Rattle.vbm_standing.specs.Headers.{header_in}
use Rattle.vbm_standing.specs.Meaning.{none_runs, world_of}
use Rattle.vbm_standing.specs.Faults.{medium_header_fault, image_fault, file_fault, medium_fault, id_in, first_fault, same_id_fault, media_fault}
use Rattle.vbm_standing.specs.Stands.{library_file, library_of, read_library, held_by, Stands, redone, bad_log}
use Rattle.vbm_standing.proofs.FaultFacts.{store_if_no_fault}
use Rattle.vbm_standing.proofs.FaultFacts.{fault_plain}
use Rattle.vbm_standing.proofs.Redone.{stands_redone, stands_alike, stands_once, stands_shut}
use Rattle.vbm_standing.proofs.Stores.{library_not_log}
use Rattle.vbm_engine.specs.declared.engine.Engine.{Engine}
use Rattle.vbm_engine.specs.declared.engine.Opened.{Opened}
use Rattle.vbm_engine.specs.declared.engine.Opened.TheVariants as opened
use Rattle.vbm_store.specs.declared.store.Store.{Store}
use Rattle.vbm_ids.specs.Identifier.{has_id}
use Rattle.vbm_store.specs.Serves as stores
use Rattle.vbm_store.specs.Edits.{IsNewImage}
use Rattle.vbm_store.specs.Serves.{rests, running_in, Head, head_of, head_in, IsUnstaged, image_files, IsWritable, IsSoundStore, Holds}
use Rattle.vbm_engine.specs.Serves.{serves, IsReady}
use Rattle.vbm_engine.specs.Recovers.{IsSettled}
use Rattle.vbm_engine.specs.Opens.{OpensSound, StandsAlike, AreKeptRedone, Opens, SyncsFirst, AreRedone}
use Rattle.vbm_store.specs.Images.{IsRead}
use Rattle.vbm_store.specs.declared.undone.Undone.{Undone}
use Rattle.vbm_store.specs.declared.undone.Undone.TheVariants.{Refused, Failed, NoMemory}
use Rattle.vbm_engine.specs.Parts.{IsRested, Finds, ids_of, fault_behind, OpensOf}
use Rattle.vbm_store.proofs.Keeping.{kept_itself, kept_besides}
use Rattle.vbm_store.proofs.Readiness.{held_rests, holds_besides, unstaged_here, settled_ready}
use Rattle.vbm_registry.specs.declared.library.TheConstants.{LONGEST_LIBRARY}

-- ---- the library's file

starts_take : (f : List ℕ) (n : ℕ) → 8 ≤ n → starts_with nat_eq (take n f) head ≡ starts_with nat_eq f head
starts_take f n long = ap (bytes_eq head) (take-take 8 n f long)

-- a file that is too long is refused by its first bytes
library_front : (f : List ℕ) (n : ℕ) → n ≡ min (length f) (LONGEST_LIBRARY + 1) → library_in BUILT keeps_places (take n f) ≡ library_in BUILT keeps_places f
unfolding library_in
library_front f n is = elim (cases_lt LONGEST_LIBRARY (length f)) [
  | inl long ↦
      let whole : length (take n f) ≡ LONGEST_LIBRARY + 1 = omega (arith, length-take n f) in
      rw (starts_take f n (omega arith), lt-ltb LONGEST_LIBRARY (length (take n f)) (omega arith), lt-ltb LONGEST_LIBRARY (length f) long) refl
  | inr short ↦ ap (library_in BUILT keeps_places) (take_all n f (omega arith))
]

pub front_read : (file : Option (List ℕ)) (old new : List ℕ) (n : ℕ) → file ≢ None → length old ≡ min (length (bytes_of file)) (LONGEST_LIBRARY + 1)
    → Reads (bytes_of file) 0 old new n → read_library (library_in BUILT keeps_places (take n new)) ≡ library_file file
front_read None old new n there long reads = absurd (there refl)
front_read (Some f) old new n there long reads =
    let some : n ≤ length (take (length old) f) = omega (arith, reads.count) in
    let front : take n new ≡ take (length old) f =
    ap (take n) reads.buffer ∙ take-append-le n (take (length old) f) (drop n old) some ∙ take_all n (take (length old) f) (omega (arith, reads.count)) in
    ap (λ bytes. read_library (library_in BUILT keeps_places bytes)) front ∙ ap read_library (library_front f (length old) long)

-- ---- the images, one after the other

finds_weaker : {X : Type 0} (P R : X → Type 0) (Q S : BadStore → Type 0) → ((x : X) → P x → R x) → ((bad : BadStore) → Q bad → S bad)
    → (r : Result X (Undone BadStore)) → Finds P Q r → Finds R S r
finds_weaker P R Q S found fault (Ok x) finds = found x finds
finds_weaker P R Q S found fault (Err (Refused bad)) finds = fault bad finds
finds_weaker P R Q S found fault (Err Failed) finds = tt
finds_weaker P R Q S found fault (Err NoMemory) finds = tt

read_as : (name : Name) (header_fault : Header → Option BadStore) (file : Option (List ℕ)) (h : Header) → IsRead file (Ok h)
    → (file_fault name header_fault file ≡ header_fault h) × (h ≡ fields (bytes_of file))
read_as name header_fault None h read = absurd read
read_as name header_fault (Some f) h read = (ap (image_fault name header_fault) read, image_fields f h read)

pub medium_read : (l : NamedLibrary) (files : Files) (m : Medium) (image : Image) → image.name ≡ m.name → IsRead (files m.name) (Ok image.header)
    → (r : Result Image (Undone BadStore))
    → Finds (λ accepted. (medium_header_fault l image.name image.header ≡ None) × (accepted ≡ image)) (λ bad. medium_header_fault l image.name image.header ≡ Some bad) r
    → Finds (λ accepted. (medium_fault l files m ≡ None) × (head_of accepted ≡ head_in files m.name)) (λ bad. medium_fault l files m ≡ Some bad) r
unfolding header_in
medium_read l files m image name read r =
    let is = read_as m.name (medium_header_fault l m.name) (files m.name) image.header read in
    let own : medium_fault l files m ≡ medium_header_fault l image.name image.header = is.0 ∙ ap (λ n. medium_header_fault l n image.header) (sym name) in
    let same : head_of image ≡ head_in files m.name = λ i. record { name = name i; header = is.1 i } in
    finds_weaker _ _ _ _ (λ accepted fine. (own ∙ fine.0, ap head_of fine.1 ∙ same)) (λ bad some. own ∙ some) r

-- an image that is pushed behind those of earlier media
pub image_behind : (l : Library) (files : Files) (images new : List Image) (m : Medium) (image : Image) → medium_fault (named l) files m ≡ None
    → head_of image ≡ head_in files m.name → {X : Type 0} (r : Result X (Undone BadStore))
    → Finds (λ _. (same_id_fault (ids_of images) image.name image.header.id ≡ None) × (new ≡ images ++ image ∷ []))
    (λ bad. same_id_fault (ids_of images) image.name image.header.id ≡ Some bad) r
    → Finds (λ _. (fault_behind l files (ids_of images) m ≡ None) × (map head_of new ≡ map head_of images ++ head_in files m.name ∷ []))
    (λ bad. fault_behind l files (ids_of images) m ≡ Some bad) r
image_behind l files images new m image fine head r =
    let earlier = ids_of images in
    let same : same_id_fault earlier image.name image.header.id ≡ same_id_fault earlier m.name (id_in files m) =
    ap (λ (h : Head). same_id_fault earlier h.name h.header.id) head in
    let behind : fault_behind l files earlier m ≡ same_id_fault earlier image.name image.header.id =
    ap (λ o. first_fault o (same_id_fault earlier m.name (id_in files m))) fine ∙ sym same in
    finds_weaker _ _ _ _ (λ x pushed. (
      behind ∙ pushed.0,
      ap (map head_of) pushed.1 ∙ map_push head_of images image ∙ ap (λ (h : Head). map head_of images ++ h ∷ []) head,
    )) (λ bad some. behind ∙ some) r

first_of_three : (a b c : Option BadStore) → first_fault a (first_fault b c) ≡ first_fault (first_fault a b) c
first_of_three None b c = refl
first_of_three (Some bad) b c = refl

any_end : {X : Type 0} (p : X → Bool) (xs : List X) (y : X) → list_any p (xs ++ y ∷ []) ≡ (p y || list_any p xs)
any_end p [] y = refl
any_end p (x ∷ xs) y = ap (λ b. p x || b) (any_end p xs y) ∙ or_swap (p y) (p x) (list_any p xs)
  where
    or_swap : (a b c : Bool) → (b || (a || c)) ≡ (a || (b || c))
    or_swap true true c = refl
    or_swap true false c = refl
    or_swap false b c = refl

pub any_id : (id : List ℕ) (images : List Image) → has_id image_id id images ≡ list_any (bytes_eq id) (ids_of images)
any_id id [] = refl
any_id id (image ∷ images) = rw (name_sym image.header.id id, any_id id images) refl

-- the identifiers of images, with one more
ids_more : (images new : List Image) (head : Head) → map head_of new ≡ map head_of images ++ head ∷ []
    → ids_of new ≡ ids_of images ++ head.header.id ∷ []
ids_more images new head more =
    let id : Head → List ℕ = λ (h : Head). h.header.id in
    sym (map-map id head_of new) ∙ ap (map id) more ∙ map_push id (map head_of images) head
    ∙ ap (λ ids. ids ++ head.header.id ∷ []) (map-map id head_of images)

-- The images of the media before this place; the first fault of the others is that of all.
pub record Opening (l : Library) (files : Files) (i : ℕ) (images : List Image) : Type 0 where
  pub is : map head_of images ≡ map (head_in files) (map medium_entry_name (take i l.media))
  pub earlier : List (List ℕ)
  pub same : (id : List ℕ) → list_any (bytes_eq id) earlier ≡ list_any (bytes_eq id) (ids_of images)
  pub rest : media_fault (named l) files earlier (drop i l.media) ≡ media_fault (named l) files [] l.media

pub opening_starts : (l : Library) (files : Files) → Opening l files 0 []
opening_starts l files = record { is = refl; earlier = []; same = λ id. refl; rest = refl }

module _ (l : Library) (files : Files) (i : ℕ) (images : List Image) (m : Medium) (lt : i < length l.media) (at : m ≡ get_or l.media i m)
    (so_far : Opening l files i images) where
  abbrev later : Option BadStore
  later = media_fault (named l) files (id_in files m ∷ so_far.earlier) (drop (i + 1) l.media)

  next_fault : first_fault (fault_behind l files (ids_of images) m) later ≡ media_fault (named l) files [] l.media
  next_fault =
      sym (first_of_three (medium_fault (named l) files m) (same_id_fault (ids_of images) m.name (id_in files m)) later)
      ∙ ap (λ b. first_fault (medium_fault (named l) files m) (first_fault (cond b (Some (SameId m.name)) None) later)) (sym (so_far.same (id_in files m)))
      ∙ ap (λ (n : Medium). media_fault (named l) files so_far.earlier (n ∷ drop (i + 1) l.media)) at
      ∙ ap (media_fault (named l) files so_far.earlier) (sym (drop_more l.media i m lt))
      ∙ so_far.rest

  pub opening_goes_on : (new : List Image) → fault_behind l files (ids_of images) m ≡ None
      → map head_of new ≡ map head_of images ++ head_in files m.name ∷ [] → Opening l files (i + 1) new
  opening_goes_on new none more = record {
    is = more
        ∙ ap (λ (heads : List Head). heads ++ head_in files m.name ∷ []) so_far.is
        ∙ sym (map_push (head_in files) (map medium_entry_name (take i l.media)) m.name)
        ∙ ap (map (head_in files)) (ap (λ (n : Medium). map medium_entry_name (take i l.media) ++ n.name ∷ []) at
        ∙ sym (map_more medium_entry_name l.media i m lt));
    earlier = id_in files m ∷ so_far.earlier;
    same = λ id.
        ap (λ b. bytes_eq id (id_in files m) || b) (so_far.same id)
        ∙ sym (any_end (bytes_eq id) (ids_of images) (id_in files m))
        ∙ ap (list_any (bytes_eq id)) (sym (ids_more images new (head_in files m.name) more));
    rest = ap (λ o. first_fault o later) (sym none) ∙ next_fault;
  }

  pub opening_stops : (bad : BadStore) → fault_behind l files (ids_of images) m ≡ Some bad → media_fault (named l) files [] l.media ≡ Some bad
  opening_stops bad some = sym next_fault ∙ ap (λ o. first_fault o later) some

pub opening_ends : (l : Library) (files : Files) (i : ℕ) (images : List Image) → length l.media ≤ i → Opening l files i images
    → (media_fault (named l) files [] l.media ≡ None) × (map head_of images ≡ map (head_in files) (map medium_entry_name l.media))
opening_ends l files i images past so_far = (
  sym so_far.rest ∙ ap (media_fault (named l) files so_far.earlier) (drop_all i l.media past),
  so_far.is ∙ ap (λ (ms : List Medium). map (head_in files) (map medium_entry_name ms)) (take_all i l.media past),
)

-- ---- the library that was read

-- no inner image is in use yet, so that the images are those of the media
no_inners : (l : Library) → IsDecoded BUILT keeps_places l → l.inners ≡ []
no_inners l decoded = (decoded_rules BUILT l decoded).parts.inners refl

pub media_files : (l : Library) → IsDecoded BUILT keeps_places l → image_files (named l) ≡ map medium_entry_name l.media
media_files l decoded =
    ap (λ (xs : List Inner). map medium_entry_name l.media ++ map (λ (x : NamedInner). inner_file l.seed x.number)
    (map (inner_named (medium_names l.media)) xs)) (no_inners l decoded)
    ∙ append-nil (map medium_entry_name l.media)

pub decoded_off : (l : Library) → IsDecoded BUILT keeps_places l → library_off l ≡ l
decoded_off l decoded = off_same l (decoded_rules BUILT l decoded).off

pub decoded_writable : (l : Library) → IsDecoded BUILT keeps_places l → IsWritable l
decoded_writable l decoded = let has = decoded_rules BUILT l decoded in record { rules = has.rules; built = has.parts }

pub holds_from : (tells : Type 0) (told : tells) (old new : DiskState) → OnlyReads tells old new → (l : Library) (images : List Image)
    → IsDecoded BUILT keeps_places l → library_of old.files ≡ Ok l
    → (media_fault (named l) new.files [] l.media ≡ None) × (map head_of images ≡ map (head_in new.files) (map medium_entry_name l.media))
    → Holds l images old.files
holds_from tells told old new reads l images decoded read opened =
    let here = subst (λ f. (media_fault (named l) f [] l.media ≡ None) × (map head_of images ≡ map (head_in f) (map medium_entry_name l.media)))
    (reads.files told) opened in
    record {
      read = read ∙ ap Ok (sym (decoded_off l decoded));
      store = store_if_no_fault (named l) old.files (fault_plain (named l) old.files
          (ap (λ (xs : List Inner). map (inner_named (medium_names l.media)) xs) (no_inners l decoded)) ∙ here.0);
      headers = here.1 ∙ ap (map (head_in old.files)) (sym (media_files l decoded));
    }

-- the names of images that are open, with one more
pub names_more : (l : Library) (i : ℕ) (images : List Image) (m : Medium) → i < length l.media → m ≡ get_or l.media i m
    → map image_name images ≡ map medium_entry_name (take i l.media)
    → map image_name images ++ m.name ∷ [] ≡ map medium_entry_name (take (i + 1) l.media)
names_more l i images m less at so_far =
    ap (λ (names : List Name). names ++ m.name ∷ []) so_far
    ∙ ap (λ (n : Medium). map medium_entry_name (take i l.media) ++ n.name ∷ []) at
    ∙ sym (map_more medium_entry_name l.media i m less)

-- a medium's name is one
pub name_at : (l : Library) → IsDecoded BUILT keeps_places l → (i : ℕ) (m : Medium) → i < length l.media → m ≡ get_or l.media i m
    → IsTrue (is_medium_name m.name)
name_at l decoded i m less at =
    let x = item_at l.media i less in
    subst (λ (n : Medium). IsTrue (is_medium_name n.name)) (sym (at ∙ get_or_from_slice_get l.media i x.0 m x.1))
    (All-get (λ (n : Medium). IsTrue (is_medium_name n.name)) l.media i x.0 (decoded_writable l decoded).rules.media x.1)

-- a store that was read is sound
pub sound_if_read : (e : Store) → IsDecoded BUILT keeps_places e.library → map image_name e.images ≡ image_files (named e.library)
    → AllByRecursion IsNewImage e.images → IsSoundStore e
sound_if_read e decoded names new = record {
  library = decoded_writable e.library decoded;
  images = names;
  form = All-map IsNewImage IsInForm (λ image is. is.form) e.images new;
  unstaged = All-map IsNewImage IsUnstaged (λ image is. is.unstaged) e.images new;
}

-- where nothing runs and nothing has changed, the world at rest is served
serves_rests : (e : Store) (files : Files) → IsRested e → stores.serves e files ≡ rests e.library files
serves_rests e files rested = (λ i. world_of (λ name. has_name itself name (rested.changed i)) (stopped i) (named e.library) files)
  where
    off : (machines : List Machine) (name : Name) → running_in (map entry_off machines) name ≡ false
    off machines name =
        any_map entry_off (λ (m : Machine). m.running && bytes_eq m.name name) machines ∙ any_none (λ (m : Machine). false) machines
        (All-every (λ m. false ≡ false) (λ m. refl) machines)

    stopped : running_in e.library.machines ≡ none_runs
    stopped = ap (λ (l : Library). running_in l.machines) (sym rested.stopped) ∙ (λ i name. off e.library.machines name i)

-- ---- what the files stand for

pub alike_passes : (old new : DiskState) → Passes old new (IsLikeRedone old.files) → Passes old new (StandsAlike old.files)
alike_passes old new time = Passes-weaker old new _ _ time (λ image like held. stands_alike old.files image held like)

-- what files held before redo they hold after it
after_redo : (old new : Files) → RedoesTo new old → IsShut (new log_name) → StandsAlike old new
after_redo old new to shut held stands = stands_shut new held shut (stands_once old (held_by new) held (stands_redone new old (held_by new) to refl) stands)

pub opens_since : (old mid new : DiskState) (r : Opened) → mid.files ≡ old.files → Opens mid new r → Opens old new r
opens_since old mid new (opened.Open e) same opens =
    subst (λ f. Stands f (Ok (serves e new.files)) × AreKeptRedone f e.store.library new.files × ((u : Unsettled) → IsReady e new u)) same opens
opens_since old mid new (opened.Refused bad) same opens = subst (λ f. Stands f (Err bad) × AreRedone f new.files) same opens
opens_since old mid new opened.Fault same opens = tt
opens_since old mid new opened.NoMemory same opens = subst (λ f. StandsAlike f new.files × AreRedone f new.files) same opens

-- the library of files after redo is that of the files, and they are kept
kept_redone : (files now : Files) (l : Library) → IsLibrary (named l) → RedoesTo now files → library_of now ≡ Ok (library_off l)
    → AreKeptRedone files l now
kept_redone files now l is to read =
    let kept = kept_besides l l to.result to.result now is (λ name other. sym (to.same name other)) (kept_itself l to.result is) in
    record {
      redone = to.result;
      redo = to.redo;
      library = library_off l;
      read = ap library_file (to.same library_name library_not_log) ∙ read;
      kept = record { shelf = kept.shelf; fronts = kept.fronts };
    }

-- what a settled disk holds that old files are redone to
opens_as : (old new : DiskState) (e : Engine) → IsLibrary (named e.store.library) → IsRested e.store → RedoesTo new.files old.files
    → Only new.files new.may_leave → IsShutInAll new.may_leave → new.may_leave new.files → Holds e.store.library e.store.images new.files
    → Opens old new (opened.Open e)
opens_as old new e is rested to only shut now holds = (
  stands_redone new.files old.files _ to
      (held_rests e.store.library new.files holds.read holds.store ∙ ap Ok (sym (serves_rests e.store new.files rested))),
  kept_redone old.files new.files e.store.library is to holds.read,
  λ u. settled_ready e.store new u holds (unstaged_here e.store new.files u) only shut now,
)

-- ---- a log that is not open

module _ (files : Files) (shut : IsOpen (files log_name) → ⊥) where
  stands_closed : (held : Result World BadStore) → held_by files ≡ held → Stands files held
  stands_closed held is = redone files (closed shut refl) is

  alike_closed : (image : Files) → RedoesTo files image → StandsAlike files image
  alike_closed image to held (redone result redo is) =
      stands_redone files image held to (ap held_by (redo_has_one_result files files result (closed shut refl) redo) ∙ is)
  alike_closed image to held (bad_log bad is) = absurd (shut bad.opens)

-- the store is read, and refused
pub closed_refused : (old new : DiskState) (bad : BadStore) → (IsOpen (old.files log_name) → ⊥) → new.files ≡ old.files → held_by old.files ≡ Err bad
    → Opens old new (opened.Refused bad)
closed_refused old new bad shut same held = (stands_closed old.files shut (Err bad) held, inl same)

-- no memory, before anything was written
pub untouched : (old new : DiskState) → new.files ≡ old.files → Opens old new opened.NoMemory
untouched old new same = (subst (StandsAlike old.files) (sym same) (λ held stands. stands), inl same)

-- what a settled disk leaves while it is only read stands for the same
pub read_alike : {tells : Type 0} (old new : DiskState) → Only old.files old.may_leave → OnlyReads tells old new → Passes old new (StandsAlike old.files)
read_alike old new only reads = Passes-weaker old new _ _ reads.time (λ image may. subst (StandsAlike old.files) (sym (only image may)) (λ held stands. stands))

-- a settled disk is only read, and goes on
pub goes_on_alike : {tells : Type 0} → tells → (old mid new : DiskState) → Only old.files old.may_leave → OnlyReads tells old mid
    → Passes mid new (StandsAlike mid.files) → Passes old new (StandsAlike old.files)
goes_on_alike told old mid new only reads after = Passes-trans old mid new _ _ _ (read_alike old mid only reads) after (λ image alike. alike)
    (λ image alike. subst (λ f. StandsAlike f image) (reads.files told) alike)

-- the log is started
module _ (old new : DiskState) (shut : IsOpen (old.files log_name) → ⊥) where
  pub started_passes : Passes old new (RedoesTo old.files) → Passes old new (StandsAlike old.files)
  started_passes time = Passes-weaker old new _ _ time (alike_closed old.files shut)

  pub started_opens : (e : Engine) → IsDecoded BUILT keeps_places e.store.library → e.store.changed ≡ [] → SameBesidesLog new.files old.files
      → Only new.files new.may_leave → IsShutInAll new.may_leave → new.may_leave new.files → Holds e.store.library e.store.images old.files
      → Opens old new (opened.Open e)
  started_opens e decoded none same only closes now holds =
      let is = (decoded_writable e.store.library decoded).rules in
      opens_as old new e is (record { changed = none; stopped = decoded_off e.store.library decoded })
      (record { result = old.files; redo = closed shut refl; same = λ name other. sym (same name other) }) only closes now
      (holds_besides e.store.library e.store.images old.files new.files is same holds)

-- the log is redone, and then the disk is only read
module _ (tells : Type 0) (told : tells) (old mid new : DiskState) (opens : IsOpen (old.files log_name)) (redoes : RedoesTo mid.files old.files)
    (settled : IsSettled mid) (reads : OnlyReads tells mid new) (now : new.may_leave new.files) where
  redone_now : RedoesTo new.files old.files
  redone_now = subst (λ f. RedoesTo f old.files) (sym (reads.files told)) redoes

  only_now : Only new.files new.may_leave
  only_now image may = settled.only image (reads.images image may) ∙ sym (reads.files told)

  shut_now : IsShut (new.files log_name)
  shut_now = settled.shut new.files (reads.images new.files now)

  alike_now : StandsAlike old.files new.files
  alike_now = after_redo old.files new.files redone_now shut_now

  opens_now : (r : Opened) → OpensSound r → OpensOf new.files r → Opens old new r
  opens_now (opened.Open e) sound (holds, rested) =
      opens_as old new e sound.library.rules rested redone_now only_now (λ image may. settled.shut image (reads.images image may)) now holds
  opens_now (opened.Refused bad) sound held = (stands_redone new.files old.files (Err bad) redone_now held, inr (opens, redone_now, shut_now))
  opens_now opened.Fault sound t = tt
  opens_now opened.NoMemory sound t = (alike_now, inr (opens, redone_now, shut_now))

  pub redone_opens : (r : Opened) → OpensSound r → OpensOf mid.files r → Opens old new r
  redone_opens r sound of = opens_now r sound (subst (λ f. OpensOf f r) (sym (reads.files told)) of)

  pub redone_passes : Passes old mid (IsLikeRedone old.files) → Passes old new (StandsAlike old.files)
  redone_passes time = Passes-trans old mid new _ _ _ time reads.time (λ image like held. stands_alike old.files image held like)
      (λ image may. subst (StandsAlike old.files) (sym (settled.only image may ∙ sym (reads.files told))) alike_now)

-- ---- the first sync

-- a sync that returned, and a stretch after it
pub syncs_first : (tells : Type 0) → tells → (old mid new : DiskState) → OnlyReads tells old mid → Only old.files mid.may_leave
    → mid.moment ≡ old.moment + 1 → IsCoherent tells mid
    → (Q : Files → Files → Type 0) → Q old.files old.files → Passes mid new (Q mid.files) → SyncsFirst old new (Q old.files)
syncs_first tells told old mid new reads settled next laws Q at_once after = record {
  later = omega (arith, next, after.later);
  since = λ image left. ⊎_elim
      (λ at. subst (Q old.files) (sym (settled image (laws.only_now image at))) at_once)
      (λ then. subst (λ f. Q f image) (reads.files told) then)
      (after.only mid.moment image (omega arith) (subst (λ t. new.left_since t image) (sym next) left));
}

-- another stretch after it
pub syncs_goes_on : (old mid new : DiskState) (P Q R : Files → Type 0) → SyncsFirst old mid P → Passes mid new Q
    → ((image : Files) → P image → R image) → ((image : Files) → Q image → R image) → SyncsFirst old new R
syncs_goes_on old mid new P Q R first second at_first at_second = record {
  later = omega (arith, first.later, second.later);
  since = λ image left. ⊎_elim (λ was. at_first image (first.since image was)) (λ now. at_second image now)
      (second.only (old.moment + 1) image (omega (arith, first.later)) left);
}

-- an engine is handed out only after the sync
pub opened_synced : (e : Engine) {S F : Type 0} → S ⊎ ((opened.Open e ≡ opened.Fault) × F) → S
opened_synced e (inl synced) = synced
opened_synced e (inr failed) = let no : opened.Open e ≡ opened.Fault = failed.0 in absurd cc
