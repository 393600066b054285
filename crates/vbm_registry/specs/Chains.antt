-- The chain of images that an image of the store is read through, told from the last image down.
use Rattle.std.specs.Prelude.{ℕ, ◌==◌, Bool, false, if◌then◌else◌, List, [], ◌∷◌, reverse, find, Option, Some, None}
use Rattle.std.specs.Option.{option_map}
use Rattle.std.specs.Str.{bytes_eq}
use Rattle.vbm_named.specs.Names.{Name}
use Rattle.vbm_registry.specs.Named.{ImageName, OfMedium, OfInner, NamedInner, NamedMerging}

abbrev pub is_image : ImageName → ImageName → Bool
is_image (OfMedium a) (OfMedium b) = bytes_eq a b
is_image (OfInner a) (OfInner b) = a == b
is_image (OfMedium a) (OfInner b) = false
is_image (OfInner a) (OfMedium b) = false

-- a parent and those below it, by what stands at and below each inner image
abbrev pub parent_down : (ℕ → List ImageName) → ImageName → List ImageName
parent_down inner (OfMedium name) = OfMedium name ∷ []
parent_down inner (OfInner n) = inner n

-- The inner image of a number and those below it, down to a medium's. A parent is listed earlier than its child, so the list comes with its
-- last image first.
unfoldable pub inner_down : List NamedInner → ℕ → List ImageName
inner_down [] n = []
inner_down (x ∷ earlier) n = if x.number == n then OfInner n ∷ parent_down (inner_down earlier) x.parent else inner_down earlier n

abbrev pub images_down : List NamedInner → ImageName → List ImageName
images_down inners image = parent_down (inner_down inners) image

abbrev pub chain_of : List NamedInner → ImageName → List ImageName
chain_of inners image = images_down (reverse inners) image

-- the medium at the end of a chain
abbrev pub medium_below : List ImageName → Option Name
medium_below [] = None
medium_below (OfMedium name ∷ below) = Some name
medium_below (OfInner n ∷ below) = medium_below below

-- the parent of the inner image of a number, of a list that comes with its last image first
abbrev pub parent_in : List NamedInner → ℕ → Option ImageName
parent_in inners n = option_map (λ (x : NamedInner). x.parent) (find (λ (x : NamedInner). x.number == n) inners)

abbrev pub parent_of : List NamedInner → ℕ → Option ImageName
parent_of inners n = parent_in (reverse inners) n

-- the merging into an image
abbrev pub merging_into : ImageName → List NamedMerging → Option NamedMerging
merging_into image js = find (λ (j : NamedMerging). is_image j.parent image) js
