-- The files after an edit of a library: what the plans of commands owe.
use Rattle.std.specs.Prelude.{◌≡◌, ℕ, Bool, List, reverse, Some, IsTrue, IsFalse}
use Rattle.std.specs.List.{AllByRecursion}
use Rattle.vbm_ports.specs.Files.{Files}
use Rattle.vbm_ports.specs.Names.{is_medium_name}
use Rattle.vbm_ids.specs.declared.Kind.TheVariants.{Inner, InnerModify}
use Rattle.vbm_ids.specs.Identifier.{identifier_of}
use Rattle.vbm_header.specs.declared.Header.{Header}
use Rattle.vbm_header.specs.declared.ImageType.TheVariants.{Differencing}
use Rattle.vbm_volume.specs.Made.{IsNewHeader, made_image}
use Rattle.vbm_named.specs.Names.{Name, has_name}
use Rattle.vbm_registry.specs.declared.media.Medium.{Medium}
use Rattle.vbm_registry.specs.Library.{medium_entry_name}
use Rattle.vbm_standing.specs.Headers.{header_in}
use Rattle.vbm_registry.specs.Named.{ImageName, OfMedium, OfInner, NamedInner, NamedLibrary}
use Rattle.vbm_standing.specs.ChainDisks.{inner_file, image_file}
use Rattle.vbm_registry.specs.Rules.{has_number}
use Rattle.vbm_standing.specs.Edits.{Renewal, new_inners}

-- The header of a new inner image: it is linked to its parent, and has the parent's capacity.
pub record IsInnerHeader (seed : List ℕ) (parent : Header) (number : ℕ) (h : Header) : Type 0 where
  pub new : IsNewHeader h
  pub type_is : h.image_type ≡ Differencing
  pub id : h.id ≡ identifier_of seed Inner number
  pub modify : h.modify ≡ identifier_of seed InnerModify number
  pub link : h.link ≡ parent.id
  pub parent_modify : h.parent_modify ≡ parent.modify
  pub capacity : h.capacity ≡ parent.capacity

-- the file of a new inner image: all its blocks are free
pub record IsNewInner (seed : List ℕ) (files : Files) (x : NamedInner) : Type 0 where
  pub header : Header
  pub good : IsInnerHeader seed (header_in files (image_file seed x.parent)) x.number header
  pub there : files (inner_file seed x.number) ≡ Some (made_image header)

abbrev pub IsImageIn : List Medium → List NamedInner → ImageName → Type 0
IsImageIn media inners (OfMedium name) = IsTrue (has_name medium_entry_name name media)
IsImageIn media inners (OfInner n) = IsTrue (has_number n inners)

-- the library lists the image
abbrev pub HasImage : NamedLibrary → ImageName → Type 0
HasImage l image = IsImageIn l.media (reverse l.inners) image

-- it is not among the inner images that are gone
abbrev pub IsStaying : (gone : ℕ → Bool) → ImageName → Type 0
IsStaying gone (OfMedium name) = Unit {0}
IsStaying gone (OfInner n) = IsFalse (gone n)

-- the file of an image is the same
abbrev pub SameImage : (seed : List ℕ) → Files → Files → ImageName → Type 0
SameImage seed a b image = b (image_file seed image) ≡ a (image_file seed image)

-- files that are the same wherever the name is a medium's
abbrev pub SameMediumFiles : Files → Files → Type 0
SameMediumFiles a b = (name : Name) → IsTrue (is_medium_name name) → b name ≡ a name

-- No listed image that is left is touched, the new ones are made, and files with media's names are as before.
pub record AreEdited (l : NamedLibrary) (gone : ℕ → Bool) (rs : List Renewal) (a b : Files) : Type 0 where
  pub same : (image : ImageName) → HasImage l image → IsStaying gone image → SameImage l.seed a b image
  pub made : AllByRecursion (IsNewInner l.seed b) (new_inners l.inner rs)
  pub media : SameMediumFiles a b
