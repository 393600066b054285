-- What files stand for, the log aside and after redo.
use Rattle.std.proofs.Common.{◌≡◌, ◌≢◌, ℕ, zero, suc, true, false, not, cond, List, [], ◌∷◌, map, reverse, Option, Some, None, Result, Ok, Err, refl, sym, ap, subst, ◌∙◌, IsTrue}
use Rattle.std.specs.List.{AllByRecursion}
use Rattle.std.specs.Str.{bytes_eq}
use Rattle.vbm_ports.specs.Files.{Files}
use Rattle.vbm_ports.specs.Names.{is_medium_name, is_inner_name}
use Rattle.vbm_header.specs.Header.{is_differencing}
use Rattle.vbm_ids.specs.declared.Kind.TheVariants.{Inner as InnerImage}
use Rattle.vbm_ids.specs.Identifier.{identifier_of}
use Rattle.vbm_intent.specs.Changes.{log_name}
use Rattle.vbm_intent.specs.Log.{Redo, closed, pending, IsBadLog, IsOpen, IsShut, SameBesidesLog, RedoesTo, IsLikeRedone, redo_has_one_result}
use Rattle.vbm_machines.specs.declared.Held.{Held}
use Rattle.vbm_machines.specs.declared.Held.TheVariants.{Direct, Own, Base}
use Rattle.vbm_machines.specs.declared.Slot.{Slot}
use Rattle.vbm_machines.specs.declared.Snapshot.{Snapshot}
use Rattle.vbm_machines.specs.declared.Machine.{Machine}
use Rattle.vbm_named.specs.Names.{Name}
use Rattle.vbm_named.proofs.Lists.{All-every, All-map, All-of_map}
use Rattle.vbm_world.specs.World.{World}
use Rattle.vbm_registry.specs.declared.media.Medium.{Medium}
use Rattle.vbm_registry.specs.declared.library.Inner.{Inner}
use Rattle.vbm_registry.specs.declared.library.ImageRef.{ImageRef}
use Rattle.vbm_registry.specs.declared.library.ImageRef.TheVariants as refs
use Rattle.vbm_registry.specs.declared.library.Library.{Library}
use Rattle.vbm_registry.specs.declared.fault.BadStore.{BadStore}
use Rattle.vbm_registry.specs.declared.fault.BadStore.TheVariants.{WrongType, WrongId, BrokenLink}
use Rattle.vbm_registry.specs.declared.features.TheConstants.{BUILT}
use Rattle.vbm_registry.specs.Library.{library_name}
use Rattle.vbm_registry.specs.Grammar.{library_in}
use Rattle.vbm_registry.specs.PlaceRules.{keeps_places}
use Rattle.vbm_registry.specs.Named.{ImageName, OfMedium, OfInner, NamedInner, NamedSnapshot, NamedLibrary, name_in, image_named, inner_named, slot_named, snapshot_named, snapshot_names, machine_named, medium_names, named}
use Rattle.vbm_registry.specs.Chains.{chain_of}
use Rattle.vbm_registry.proofs.ListLaws.{map-same, All-reverse}
use Rattle.vbm_registry.proofs.NamesRead.{read_names}
use Rattle.vbm_standing.specs.ChainDisks.{inner_file, image_file}
use Rattle.vbm_standing.specs.Meaning.{machine_in, medium_in, shelf_in, world_of, world_with, none_changed, none_runs}
use Rattle.vbm_standing.specs.Faults.{first_fault, file_fault, id_in, media_fault, is_linked_whole, inner_header_fault, inners_fault}
use Rattle.vbm_standing.specs.Stands.{read_library, library_file, unless_fault, store_of, held_by, Stands, redone, bad_log}
use Rattle.vbm_standing.specs.EditedFiles.{SameImage}
use Rattle.vbm_standing.proofs.HeaderFacts.{header_frame, id_frame}
use Rattle.vbm_standing.proofs.Stores.{medium_not_log, library_not_log}
use Rattle.vbm_standing.proofs.ChainLaws.{images_down-all}
use Rattle.vbm_standing.proofs.ChainFrames.{disk-frame}
use Rattle.vbm_standing.proofs.WorldParts.{MediumStays, media-stay, SameDisk, OfHeld, OfPlace, OfMachine, shelf-stays}
use Rattle.vbm_standing.proofs.PlacesHeld.{machine-map}
use Rattle.vbm_standing.proofs.MediaWorlds.{machine-kept}
use Rattle.vbm_standing.proofs.InnerFileNames.{inner_named_so}

-- ---- the log aside

inner_not_log : (seed : List ℕ) (n : ℕ) → inner_file seed n ≢ log_name
unfolding is_inner_name
inner_not_log seed n e = let t : false ≡ true = ap is_inner_name (sym e) ∙ inner_named_so seed n in absurd cc

-- a place in a list of media names none of the log's
place_not_log : (ms : List Medium) → AllByRecursion (λ (m : Medium). IsTrue (is_medium_name m.name)) ms → (place : ℕ)
    → name_in (medium_names ms) place ≢ log_name
place_not_log [] all place = λ e. absurd cc
place_not_log (m ∷ ms) all zero = medium_not_log m.name all.0
place_not_log (m ∷ ms) all (suc place) = place_not_log ms all.1 place

module _ (a b : Files) (same : SameBesidesLog b a) (l : Library) (listed : AllByRecursion (λ (m : Medium). IsTrue (is_medium_name m.name)) l.media) where
  abbrev names : List Name
  names = medium_names l.media

  abbrev n : NamedLibrary
  n = named l

  abbrev Agrees : ImageName → Type 0
  Agrees image = SameImage l.seed a b image

  inner-agrees : (number : ℕ) → Agrees (OfInner number)
  inner-agrees number = same (inner_file l.seed number) (inner_not_log l.seed number)

  image-agrees : (image : ImageRef) → Agrees (image_named names image)
  image-agrees (refs.Medium place) = same (name_in names place) (place_not_log l.media listed place)
  image-agrees (refs.Inner number) = inner-agrees number

  parents-agree : AllByRecursion (λ (x : NamedInner). Agrees x.parent) n.inners
  parents-agree = All-of_map (inner_named names) _ l.inners (All-every _ (λ (x : Inner). image-agrees x.parent) l.inners)

  disk-agrees : (image : ImageName) → Agrees image → SameDisk n n a b image
  disk-agrees image agrees =
      let passes = All-map (λ (x : NamedInner). Agrees x.parent) (λ x. Agrees (OfInner x.number) → Agrees x.parent) (λ x p is. p) (reverse n.inners)
      (All-reverse (λ (x : NamedInner). Agrees x.parent) n.inners parents-agree) in
      disk-frame n n a b image refl refl (images_down-all Agrees (reverse n.inners) image passes agrees)

  held-agrees : (place : ℕ) (h : Held) → OfHeld Agrees (name_in names place) h
  held-agrees place Direct = tt
  held-agrees place (Own number) = inner-agrees number
  held-agrees place Base = image-agrees (refs.Medium place)

  places-agree : (slots : List Slot) → AllByRecursion (OfPlace Agrees) (map (slot_named names) slots)
  places-agree slots = All-of_map (slot_named names) _ slots (All-every _ (λ (s : Slot). held-agrees s.medium s.held) slots)

  machine-agrees : (m : Machine) → OfMachine Agrees (machine_named names m)
  machine-agrees m = (
    places-agree m.slots,
    All-of_map (snapshot_named names (snapshot_names m.snapshots)) (λ (s : NamedSnapshot). AllByRecursion (OfPlace Agrees) s.slots) m.snapshots
        (All-every _ (λ (s : Snapshot). places-agree s.slots) m.snapshots),
  )

  machines-agree : map (machine_in none_runs n b) n.machines ≡ map (machine_in none_runs n a) n.machines
  machines-agree = map-same _ _ n.machines (All-of_map (machine_named names) _ l.machines (All-every _ (λ (m : Machine).
      machine-kept n n a b refl none_runs (machine_named names m)
      (machine-map Agrees (SameDisk n n a b) disk-agrees (machine_named names m) (machine-agrees m))) l.machines))

  media-agree : map (medium_in none_changed n b) l.media ≡ map (medium_in none_changed n a) l.media
  media-agree = media-stay none_changed n n a b refl refl l.media (All-map _ (MediumStays n n a b) (λ (m : Medium) is. record {
    file = same m.name (medium_not_log m.name is);
    frozen = refl;
    merged = λ j into. disk-agrees (OfInner j.child) (inner-agrees j.child);
  }) l.media listed)

  world-agrees : world_with none_changed none_runs l b ≡ world_with none_changed none_runs l a
  unfolding world_of
  world-agrees =
      let shelf : shelf_in n b ≡ shelf_in n a = shelf-stays n n a b refl refl (λ name is. same name (medium_not_log name is)) in
      λ i. record { seed = l.seed; next = l.next; inner = l.inner; media = media-agree i; machines = machines-agree i; shelf = shelf i }

  media-faults : (earlier : List (List ℕ)) (ms : List Medium) → AllByRecursion (λ (m : Medium). IsTrue (is_medium_name m.name)) ms
      → media_fault n b earlier ms ≡ media_fault n a earlier ms
  media-faults earlier [] all = refl
  media-faults earlier (m ∷ ms) all =
      let file = same m.name (medium_not_log m.name all.0) in
      rw (file, id_frame a b m file, media-faults (id_in a m ∷ earlier) ms all.1) refl

  inners-faults : (xs : List Inner) → inners_fault n b (map (inner_named names) xs) ≡ inners_fault n a (map (inner_named names) xs)
  inners-faults [] = refl
  inners-faults (x ∷ xs) =
      let name = inner_file l.seed x.number in
      let below = header_frame a b (image_file l.seed (image_named names x.parent)) (image-agrees x.parent) in
      let same : inner_header_fault n b (inner_named names x) ≡ inner_header_fault n a (inner_named names x) =
      λ i h. cond (not (is_differencing h.image_type)) (Some (WrongType name))
      (cond (not (bytes_eq h.id (identifier_of l.seed InnerImage x.number))) (Some (WrongId name))
      (cond (not (is_linked_whole (below i) h)) (Some (BrokenLink name)) None)) in
      λ i. first_fault (file_fault name (same i) (inner-agrees x.number i)) (inners-faults xs i)

  store-agrees : store_of b (Ok l) ≡ store_of a (Ok l)
  store-agrees = λ i. unless_fault (first_fault (media-faults [] l.media listed i) (inners-faults l.inners i)) (world-agrees i)

module _ (a b : Files) (same : SameBesidesLog b a) where
  read_besides : (bytes : List ℕ) (r : Result Library ℕ) → library_in BUILT keeps_places bytes ≡ r
      → store_of b (read_library r) ≡ store_of a (read_library r)
  read_besides bytes (Err offset) read = refl
  read_besides bytes (Ok l) read = store-agrees a b same l (read_names BUILT keeps_places bytes l read)

  file_besides : (file : Option (List ℕ)) → store_of b (library_file file) ≡ store_of a (library_file file)
  file_besides None = refl
  file_besides (Some bytes) = read_besides bytes (library_in BUILT keeps_places bytes) refl

  pub held_besides : held_by b ≡ held_by a
  held_besides = ap (λ file. store_of b (library_file file)) (same library_name library_not_log) ∙ file_besides (a library_name)

-- ---- redo

pub stands_redone : (files image : Files) (held : Result World BadStore) → RedoesTo files image → held_by files ≡ held → Stands image held
stands_redone files image held to is = redone to.result to.redo (held_besides files to.result to.same ∙ is)

pub stands_alike : (files image : Files) (held : Result World BadStore) → IsLikeRedone files image → Stands files held → Stands image held
stands_alike files image held like (redone result redo is) = stands_redone result image held (like.good result redo) is
stands_alike files image held like (bad_log bad is) = subst (λ f. Stands f held) (sym (like.bad bad)) (bad_log bad is)

pub no_redo : (files result : Files) → IsBadLog files → Redo files result → ⊥
no_redo files result bad (closed shut is) = shut bad.opens
no_redo files result bad (pending cs these is) = bad.none cs these

pub stands_once : (files : Files) (a b : Result World BadStore) → Stands files a → Stands files b → a ≡ b
stands_once files a b (redone x to is) (redone y to' is') = sym is ∙ ap held_by (redo_has_one_result files x y to to') ∙ is'
stands_once files a b (redone x to is) (bad_log bad is') = absurd (no_redo files x bad to)
stands_once files a b (bad_log bad is) (redone y to is') = absurd (no_redo files y bad to)
stands_once files a b (bad_log bad is) (bad_log bad' is') = is ∙ sym is'

pub not_open : (file : Option (List ℕ)) → IsShut file → IsOpen file → ⊥
not_open None shut opens = opens
not_open (Some []) shut opens = opens
not_open (Some (gate ∷ behind)) shut opens = shut opens.0

pub stands_shut : (files : Files) (held : Result World BadStore) → IsShut (files log_name) → held_by files ≡ held → Stands files held
stands_shut files held shut is = redone files (closed (not_open (files log_name) shut) refl) is
