-- Which files are kept from one moment to a later one: those of the shelf whole, and the front of accepted images.
use Rattle.std.specs.Prelude.{◌≡◌, ℕ, ◌+◌, ◌<◌, ◌&&◌, ◌||◌, nat_le, nat_lt, Bool, List, slice_index, Option, Some, None, Ok, IsTrue, IsFalse}
use Rattle.vbm_ports.specs.Files.{Files}
use Rattle.vbm_header.specs.declared.Header.{Header}
use Rattle.vbm_volume.specs.Image.{image_of}
use Rattle.vbm_named.specs.Names.{Name}
use Rattle.vbm_registry.specs.declared.library.Library.{Library}
use Rattle.vbm_store.specs.Listed.{is_listed, is_on_shelf}

-- the bytes of a field, from its place on
abbrev pub is_in_field : (at len : ℕ) → ℕ → Bool
is_in_field at len i = nat_le at i && nat_lt i (at + len)

-- The bytes of a header that commands change: offData, cbDisk, cBlocks and cBlocksAllocated, uuidModify, uuidLinkage and
-- uuidParentModify.
abbrev pub is_in_changing : ℕ → Bool
is_in_changing i =
    is_in_field 344 4 i || is_in_field 368 8 i || is_in_field 384 8 i || is_in_field 408 16 i || is_in_field 424 16 i
    || is_in_field 440 16 i

-- a file that is accepted before and after keeps the bytes below its block map, but for those
abbrev pub KeepsFront : List ℕ → List ℕ → Type 0
KeepsFront file now = (h k : Header) → image_of file ≡ Ok h → image_of now ≡ Ok k
    → (i : ℕ) → i < h.off_blocks → IsFalse (is_in_changing i) → slice_index now i ≡ slice_index file i

-- where there is a file before and after, P holds of both
abbrev pub IfBoth : (List ℕ → List ℕ → Type 0) → Option (List ℕ) → Option (List ℕ) → Type 0
IfBoth P (Some file) (Some now) = P file now
IfBoth P (Some file) None = Unit {0}
IfBoth P None now = Unit {0}

abbrev pub IsSame : List ℕ → List ℕ → Type 0
IsSame file now = now ≡ file

abbrev pub KeepsBytes : Option (List ℕ) → Option (List ℕ) → Type 0
KeepsBytes file now = IfBoth IsSame file now

-- A file that is on the shelf before and after is the same byte for byte; one that is the shelf's or a listed image's, before and
-- after, keeps its front.
pub record AreKept (l : Library) (files : Files) (k : Library) (now : Files) : Type 0 where
  pub shelf : (name : Name) → IsTrue (is_on_shelf l name) → IsTrue (is_on_shelf k name) → KeepsBytes (files name) (now name)
  pub fronts : (name : Name) → IsTrue (is_on_shelf l name || is_listed l name) → IsTrue (is_on_shelf k name || is_listed k name)
      → IfBoth KeepsFront (files name) (now name)
