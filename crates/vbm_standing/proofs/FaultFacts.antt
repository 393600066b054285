-- A store without a fault, as facts without order; and stores after an edit.
use Rattle.std.proofs.Common.{◌≡◌, ℕ, Bool, true, false, not, cond, ◌&&◌, List, [], ◌∷◌, Option, Some, None, Result, Ok, Err, refl, sym, ap, ◌∙◌}
use Rattle.std.specs.List.{AllByRecursion, list_any}
use Rattle.std.specs.Str.{bytes_eq}
use Rattle.std.proofs.lemmas.Bool.{or_parts, or_from}
use Rattle.std.proofs.lemmas.Slice.Eq.{bytes_eq-Decides}
use Rattle.vbm_ports.specs.Files.{Files}
use Rattle.vbm_header.specs.declared.BadImage.{BadImage}
use Rattle.vbm_header.specs.declared.Header.{Header}
use Rattle.vbm_header.specs.Header.{is_differencing}
use Rattle.vbm_ids.specs.declared.Kind.TheVariants.{Inner}
use Rattle.vbm_ids.specs.Identifier.{identifier_of, is_foreign}
use Rattle.vbm_volume.specs.Image.{image_of}
use Rattle.vbm_named.specs.Names.{Name}
use Rattle.vbm_named.proofs.Lists.{name_refl, name_sym, All-every, All-map, All-both}
use Rattle.vbm_registry.specs.declared.media.Medium.{Medium}
use Rattle.vbm_registry.specs.declared.fault.BadStore.{BadStore}
use Rattle.vbm_standing.specs.Headers.{header_in}
use Rattle.vbm_standing.proofs.HeaderFacts.{header_of_file}
use Rattle.vbm_registry.specs.Named.{NamedInner, NamedLibrary}
use Rattle.vbm_standing.specs.ChainDisks.{inner_file, image_file}
use Rattle.vbm_standing.specs.Faults.{first_fault, image_fault, file_fault, id_in, same_id_fault, medium_header_fault, is_linked_whole, inner_header_fault, medium_fault, inner_fault, media_fault, inners_fault, store_fault, IsAccepted, IsMediumFile, IsInnerFile, HaveOwnIds, IsStore}

-- ---- a file without a fault

first_none : (a b : Option BadStore) → first_fault a b ≡ None → (a ≡ None) × (b ≡ None)
first_none None b e = (refl, e)
first_none (Some bad) b e = absurd cc

no_test : (bad : BadStore) (b : Bool) (o : Option BadStore) → cond b (Some bad) o ≡ None → (b ≡ false) × (o ≡ None)
no_test bad true o e = absurd cc
no_test bad false o e = (refl, e)

image_none : (files : Files) (name : Name) (ask : Header → Option BadStore) (f : List ℕ) (r : Result Header BadImage) → files name ≡ Some f → image_of f ≡ r
    → image_fault name ask r ≡ None → IsAccepted files name × (ask (header_in files name) ≡ None)
image_none files name ask f (Err bad) there is none = absurd cc
image_none files name ask f (Ok h) there is none =
    let same = header_of_file files name f h there is in
    (record { file = f; there = there; accepted = is ∙ ap Ok (sym same) }, ap ask same ∙ none)

file_none : (files : Files) (name : Name) (ask : Header → Option BadStore) (o : Option (List ℕ)) → files name ≡ o
    → file_fault name ask o ≡ None → IsAccepted files name × (ask (header_in files name) ≡ None)
file_none files name ask None there none = absurd cc
file_none files name ask (Some f) there none = image_none files name ask f (image_of f) there refl none

none_file : (files : Files) (name : Name) (ask : Header → Option BadStore) → IsAccepted files name → ask (header_in files name) ≡ None
    → file_fault name ask (files name) ≡ None
none_file files name ask is none = ap (file_fault name ask) is.there ∙ ap (image_fault name ask) is.accepted ∙ none

-- ---- media

medium_file : (l : NamedLibrary) (files : Files) (m : Medium) → medium_fault l files m ≡ None → IsMediumFile l files m
medium_file l files m none =
    let is = file_none files m.name (medium_header_fault l m.name) (files m.name) refl none in
    let whole = no_test _ (is_differencing (header_in files m.name).image_type) _ is.1 in
    record { image = is.0; whole = whole.0; known = (no_test _ (is_foreign l.seed l.next (id_in files m)) None whole.1).0 }

no_medium_fault : (l : NamedLibrary) (files : Files) (m : Medium) → IsMediumFile l files m → medium_fault l files m ≡ None
no_medium_fault l files m is =
    let whole = is.whole in
    let known = is.known in
    none_file files m.name (medium_header_fault l m.name) is.image (rw (whole, known) refl)

abbrev IsNew : Files → List (List ℕ) → Medium → Type 0
IsNew files earlier m = list_any (bytes_eq (id_in files m)) earlier ≡ false

facts : (l : NamedLibrary) (files : Files) (earlier : List (List ℕ)) (ms : List Medium) → media_fault l files earlier ms ≡ None
    → AllByRecursion (IsMediumFile l files) ms × HaveOwnIds files ms × AllByRecursion (IsNew files earlier) ms
facts l files earlier [] none = (tt, tt, tt)
facts l files earlier (m ∷ ms) none =
    let own = first_none (medium_fault l files m) _ none in
    let new = first_none (same_id_fault earlier m.name (id_in files m)) _ own.1 in
    let rest = facts l files (id_in files m ∷ earlier) ms new.1 in
    let other = λ (n : Medium) (h : IsNew files (id_in files m ∷ earlier) n). or_parts (bytes_eq (id_in files n) (id_in files m)) _ h in (
      (medium_file l files m own.0, rest.0),
      (All-map _ _ (λ n h. name_sym (id_in files m) (id_in files n) ∙ (other n h).0) ms rest.2, rest.1),
      ((no_test _ _ None new.0).0, All-map _ _ (λ n h. (other n h).1) ms rest.2),
    )

no_fault : (l : NamedLibrary) (files : Files) (earlier : List (List ℕ)) (ms : List Medium)
    → AllByRecursion (IsMediumFile l files) ms → HaveOwnIds files ms → AllByRecursion (IsNew files earlier) ms → media_fault l files earlier ms ≡ None
no_fault l files earlier [] own distinct new = refl
no_fault l files earlier (m ∷ ms) own distinct new =
    rw (no_medium_fault l files m own.0, new.0) (no_fault l files (id_in files m ∷ earlier) ms own.1 distinct.1 (All-map _ _
    (λ n h. or_from (bytes_eq (id_in files n) (id_in files m)) _ (name_sym (id_in files n) (id_in files m) ∙ h.0) h.1)
    ms (All-both (λ n. bytes_eq (id_in files m) (id_in files n) ≡ false) (IsNew files earlier) ms distinct.0 new.1)))

-- ---- inner images

no_false : (b : Bool) → not b ≡ false → b ≡ true
no_false true e = refl
no_false false e = absurd cc

inner_is : (l : NamedLibrary) (files : Files) (x : NamedInner) → inner_fault l files x ≡ None → IsInnerFile l.seed files x
inner_is l files x none =
    let name = inner_file l.seed x.number in
    let h = header_in files name in
    let is = file_none files name (inner_header_fault l files x) (files name) refl none in
    let differs = no_test _ (not (is_differencing h.image_type)) _ is.1 in
    let id = no_test _ (not (bytes_eq h.id (identifier_of l.seed Inner x.number))) _ differs.1 in
    let linked = no_test _ (not (is_linked_whole (header_in files (image_file l.seed x.parent)) h)) None id.1 in
    record {
      image = is.0;
      id = (bytes_eq-Decides h.id (identifier_of l.seed Inner x.number)).0 (no_false _ id.0);
      linked = no_false _ linked.0;
    }

first_of_five : (a b c d e : Bool) → (a && b && c && d && e) ≡ true → a ≡ true
first_of_five true b c d e all = refl
first_of_five false b c d e all = absurd cc

-- a linked image is differencing
linked_differs : (below h : Header) → is_linked_whole below h ≡ true → is_differencing h.image_type ≡ true
linked_differs below h linked = first_of_five (is_differencing h.image_type) _ _ _ _ linked

none_of_three : (a b c : Bool) (x y z : BadStore) → a ≡ true → b ≡ true → c ≡ true
    → cond (not a) (Some x) (cond (not b) (Some y) (cond (not c) (Some z) None)) ≡ None
none_of_three a b c x y z e f g = rw (e, f, g) refl

no_inner_fault : (l : NamedLibrary) (files : Files) (x : NamedInner) → IsInnerFile l.seed files x → inner_fault l files x ≡ None
no_inner_fault l files x is =
    let name = inner_file l.seed x.number in
    let h = header_in files name in
    let differs = linked_differs (header_in files (image_file l.seed x.parent)) h is.linked in
    let id : bytes_eq h.id (identifier_of l.seed Inner x.number) ≡ true = ap (bytes_eq h.id) (sym is.id) ∙ name_refl h.id in
    none_file files name (inner_header_fault l files x) is.image (none_of_three _ _ _ _ _ _ differs id is.linked)

inner_facts : (l : NamedLibrary) (files : Files) (xs : List NamedInner) → inners_fault l files xs ≡ None → AllByRecursion (IsInnerFile l.seed files) xs
inner_facts l files [] none = tt
inner_facts l files (x ∷ xs) none =
    let parts = first_none (inner_fault l files x) (inners_fault l files xs) none in (inner_is l files x parts.0, inner_facts l files xs parts.1)

no_inners_fault : (l : NamedLibrary) (files : Files) (xs : List NamedInner) → AllByRecursion (IsInnerFile l.seed files) xs → inners_fault l files xs ≡ None
no_inners_fault l files [] is = refl
no_inners_fault l files (x ∷ xs) is = rw (no_inner_fault l files x is.0) (no_inners_fault l files xs is.1)

-- ---- stores

pub store_if_no_fault : (l : NamedLibrary) (files : Files) → store_fault l files ≡ None → IsStore l files
store_if_no_fault l files none =
    let parts = first_none (media_fault l files [] l.media) (inners_fault l files l.inners) none in
    let media = facts l files [] l.media parts.0 in
    record { media = media.0; distinct = media.1; inners = inner_facts l files l.inners parts.1 }

pub no_fault_if_store : (l : NamedLibrary) (files : Files) → IsStore l files → store_fault l files ≡ None
no_fault_if_store l files store =
    rw (no_fault l files [] l.media store.media store.distinct (All-every (IsNew files []) (λ m. refl) l.media)) (no_inners_fault l files l.inners store.inners)

-- ---- a store without inner images

first_alone : (o : Option BadStore) → first_fault o None ≡ o
first_alone None = refl
first_alone (Some bad) = refl

-- the first fault is that of the media
pub fault_plain : (l : NamedLibrary) (files : Files) → l.inners ≡ [] → store_fault l files ≡ media_fault l files [] l.media
fault_plain l files none =
    ap (λ xs. first_fault (media_fault l files [] l.media) (inners_fault l files xs)) none ∙ first_alone (media_fault l files [] l.media)
