-- The first fault of a store: of its media in their order, and then of its inner images in theirs.
use Rattle.std.specs.Prelude.{◌≡◌, ℕ, ◌&&◌, ◌==◌, not, Bool, true, false, if◌then◌else◌, List, [], ◌∷◌, Option, Some, None, Result, Ok, Err}
use Rattle.std.specs.List.{AllByRecursion, list_any}
use Rattle.std.specs.Str.{bytes_eq}
use Rattle.vbm_ports.specs.Files.{Files}
use Rattle.vbm_ids.specs.declared.Kind.TheVariants.{Inner}
use Rattle.vbm_ids.specs.Identifier.{identifier_of, is_foreign}
use Rattle.vbm_header.specs.declared.BadImage.{BadImage}
use Rattle.vbm_header.specs.declared.Header.{Header}
use Rattle.vbm_header.specs.Header.{condition_number, is_differencing}
use Rattle.vbm_volume.specs.Image.{image_of}
use Rattle.vbm_volume.specs.Chain.{is_linked_to}
use Rattle.vbm_named.specs.Names.{Name}
use Rattle.vbm_registry.specs.declared.media.Medium.{Medium}
use Rattle.vbm_registry.specs.declared.fault.BadStore.{BadStore}
use Rattle.vbm_registry.specs.declared.fault.BadStore.TheVariants.{MissingFile, BadImage as BadImageFile, WrongType, WrongId, BrokenLink, SameId}
use Rattle.vbm_standing.specs.Headers.{header_in}
use Rattle.vbm_registry.specs.Named.{NamedInner, NamedLibrary}
use Rattle.vbm_standing.specs.ChainDisks.{inner_file, image_file}

abbrev pub first_fault : Option BadStore → Option BadStore → Option BadStore
first_fault (Some bad) later = Some bad
first_fault None later = later

-- ---- a file that is absent, or bad, or whose header has a fault

abbrev pub image_fault : Name → (Header → Option BadStore) → Result Header BadImage → Option BadStore
image_fault name header_fault (Err bad) = Some (BadImageFile name (condition_number bad))
image_fault name header_fault (Ok h) = header_fault h

abbrev pub file_fault : Name → (Header → Option BadStore) → Option (List ℕ) → Option BadStore
file_fault name header_fault None = Some (MissingFile name)
file_fault name header_fault (Some f) = image_fault name header_fault (image_of f)

-- ---- media

abbrev pub medium_header_fault : NamedLibrary → Name → Header → Option BadStore
medium_header_fault l name h =
    if is_differencing h.image_type then Some (WrongType name)
    else if is_foreign l.seed l.next h.id then Some (WrongId name) else None

-- a medium's file by itself
abbrev pub medium_fault : NamedLibrary → Files → Medium → Option BadStore
medium_fault l files m = file_fault m.name (medium_header_fault l m.name) (files m.name)

abbrev pub id_in : Files → Medium → List ℕ
id_in files m = (header_in files m.name).id

-- an identifier that an earlier medium has
abbrev pub same_id_fault : List (List ℕ) → Name → List ℕ → Option BadStore
same_id_fault earlier name id = if list_any (bytes_eq id) earlier then Some (SameId name) else None

-- the media in their order, behind earlier ones with these identifiers
abbrev pub media_fault : NamedLibrary → Files → List (List ℕ) → List Medium → Option BadStore
media_fault l files earlier [] = None
media_fault l files earlier (m ∷ ms) =
    first_fault (medium_fault l files m) (first_fault (same_id_fault earlier m.name (id_in files m)) (media_fault l files (id_in files m ∷ earlier) ms))

-- ---- inner images

-- an inner image is linked to its parent, and has the parent's capacity
abbrev pub is_linked_whole : Header → Header → Bool
is_linked_whole below h = is_linked_to below h && h.capacity == below.capacity

abbrev pub inner_header_fault : NamedLibrary → Files → NamedInner → Header → Option BadStore
inner_header_fault l files x h =
    if not (is_differencing h.image_type) then Some (WrongType (inner_file l.seed x.number))
    else if not (bytes_eq h.id (identifier_of l.seed Inner x.number)) then Some (WrongId (inner_file l.seed x.number))
    else if not (is_linked_whole (header_in files (image_file l.seed x.parent)) h) then Some (BrokenLink (inner_file l.seed x.number))
    else None

abbrev pub inner_fault : NamedLibrary → Files → NamedInner → Option BadStore
inner_fault l files x = file_fault (inner_file l.seed x.number) (inner_header_fault l files x) (files (inner_file l.seed x.number))

abbrev pub inners_fault : NamedLibrary → Files → List NamedInner → Option BadStore
inners_fault l files [] = None
inners_fault l files (x ∷ xs) = first_fault (inner_fault l files x) (inners_fault l files xs)

-- ---- the store

abbrev pub store_fault : NamedLibrary → Files → Option BadStore
store_fault l files = first_fault (media_fault l files [] l.media) (inners_fault l files l.inners)

-- ---- the same as facts without order

-- the file of a name is accepted
pub record IsAccepted (files : Files) (name : Name) : Type 0 where
  pub file : List ℕ
  pub there : files name ≡ Some file
  pub accepted : image_of file ≡ Ok (header_in files name)

-- a medium's file
pub record IsMediumFile (l : NamedLibrary) (files : Files) (m : Medium) : Type 0 where
  pub image : IsAccepted files m.name
  pub whole : is_differencing (header_in files m.name).image_type ≡ false
  pub known : is_foreign l.seed l.next (id_in files m) ≡ false

-- an inner image's file; linked images are differencing ones
pub record IsInnerFile (seed : List ℕ) (files : Files) (x : NamedInner) : Type 0 where
  pub image : IsAccepted files (inner_file seed x.number)
  pub id : (header_in files (inner_file seed x.number)).id ≡ identifier_of seed Inner x.number
  pub linked : is_linked_whole (header_in files (image_file seed x.parent)) (header_in files (inner_file seed x.number)) ≡ true

abbrev pub HaveOwnIds : Files → List Medium → Type 0
HaveOwnIds files [] = Unit {0}
HaveOwnIds files (m ∷ ms) = AllByRecursion (λ (n : Medium). bytes_eq (id_in files m) (id_in files n) ≡ false) ms × HaveOwnIds files ms

-- the files of media and of inner images are accepted, and media have different identifiers
pub record IsStore (l : NamedLibrary) (files : Files) : Type 0 where
  pub media : AllByRecursion (IsMediumFile l files) l.media
  pub distinct : HaveOwnIds files l.media
  pub inners : AllByRecursion (IsInnerFile l.seed files) l.inners
