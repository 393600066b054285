-- What a crash leaves after a call that changes files: the images of after come from those of before.
--
-- Since the last sync that succeeded, a file has a least length, a greatest length and dirty ranges. A crash leaves any length
-- between, the bytes that are not dirty below the least length, and anything elsewhere. A file that was made since may be absent,
-- and one that was removed may be as it was. Files do not depend on one another.
use Rattle.std.specs.Prelude.{◌≡◌, ◌≢◌, ◌⊎◌, ℕ, ◌+◌, ◌<◌, ◌≤◌, min, max, List, length, slice_index, Option, Some, None}
use Rattle.vbm_ports.specs.Files.{Files, bytes_of, IsRemoved}

-- A write of n bytes at `at` to a file that was read as `file` makes dirty its range, and a gap before it: bytes from the lesser
-- of the file's end and `at` up to the range's end, and past the old end of the image, may be anything.
pub record TornBytes (at n : ℕ) (file old new : List ℕ) : Type 0 where
  pub no_shorter : length old ≤ length new
  pub no_longer : length new ≤ max (length old) (at + n)
  pub before : (i : ℕ) → i < length old → i < at → i < length file → slice_index new i ≡ slice_index old i
  pub after : (i : ℕ) → i < length old → at + n ≤ i → slice_index new i ≡ slice_index old i

-- a file that was not there, or is not in the image, may be absent or hold anything
abbrev pub TornFile : ℕ → ℕ → Option (List ℕ) → Option (List ℕ) → Option (List ℕ) → Type 0
TornFile at n (Some file) (Some old) (Some new) = TornBytes at n file old new
TornFile at n (Some file) (Some old) None = ⊥
TornFile at n file old None = Unit {0}
TornFile at n file old (Some new) = length new ≤ max (length (bytes_of old)) (at + n)

-- after a write, also a failed one; `files` are those that were read before it
pub record WriteLeaves (name : List ℕ) (at n : ℕ) (files old new : Files) : Type 0 where
  pub here : TornFile at n (files name) (old name) (new name)
  pub others : (other : List ℕ) → other ≢ name → new other ≡ old other

-- A cut leaves any length from the cut to the old one, and the bytes below it.
pub record CutBytes (len : ℕ) (old new : List ℕ) : Type 0 where
  pub no_shorter : min len (length old) ≤ length new
  pub no_longer : length new ≤ length old
  pub below : (i : ℕ) → i < len → i < length new → slice_index new i ≡ slice_index old i

abbrev pub CutFile : ℕ → Option (List ℕ) → Option (List ℕ) → Type 0
CutFile len (Some old) (Some new) = CutBytes len old new
CutFile len old new = new ≡ old

-- after a cut, also a failed one; of a file that is not longer it changes nothing
pub record CutLeaves (name : List ℕ) (len : ℕ) (files old new : Files) : Type 0 where
  pub idle : length (bytes_of (files name)) ≤ len → new ≡ old
  pub here : CutFile len (old name) (new name)
  pub others : (other : List ℕ) → other ≢ name → new other ≡ old other

-- after a removal, also a failed one
abbrev pub RemoveLeaves : List ℕ → Files → Files → Type 0
RemoveLeaves name old new = (new ≡ old) ⊎ IsRemoved name old new

-- an image that comes by a step from one of these
abbrev pub Through : (Files → Files → Type 0) → (Files → Type 0) → Files → Type 0
Through step images image = (before : Files) × images before × step before image

-- each image of after comes by a step from one of before
abbrev pub Follows : (Files → Files → Type 0) → (Files → Type 0) → (Files → Type 0) → Type 0
Follows step old new = (image : Files) → new image → Through step old image

-- a crash leaves this and nothing else
abbrev pub Only : Files → (Files → Type 0) → Type 0
Only files images = (image : Files) → images image → image ≡ files
