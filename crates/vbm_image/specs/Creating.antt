-- The making of an image.
use Rattle.std.specs.Prelude.{◌≡◌, ℕ, ◌-◌, ◌*◌, nat_lt, if◌then◌else◌, List, [], ◌∷◌, ◌++◌, Option, Some}
use Rattle.vbm_header.specs.declared.Header.{Header}
use Rattle.vbm_header.specs.declared.TheConstants.{WRITTEN_LEN}
use Rattle.vbm_header.specs.Written.{header_bytes}
use Rattle.vbm_intent.specs.declared.change.Change.{Change}
use Rattle.vbm_intent.specs.declared.change.Change.TheVariants.{Write, Fill, Cut}
use Rattle.vbm_intent.specs.Changes.{file_after, FitsFile}
use Rattle.vbm_volume.specs.Like.{map_end}
use Rattle.vbm_volume.specs.Made.{free_image}

-- the header, zeros up to the block map, and a map of free blocks
abbrev pub creating_map : List ℕ → Header → List Change
creating_map name h =
    Write name 0 (header_bytes h) ∷ Fill name WRITTEN_LEN (h.off_blocks - WRITTEN_LEN) 0 ∷ Fill name h.off_blocks (4 * h.blocks) 255 ∷ []

-- zeros from the map's end to the data, where it does not begin there
abbrev pub creating_gap : List ℕ → Header → List Change
creating_gap name h = if nat_lt (map_end h) h.off_data then Fill name (map_end h) (h.off_data - map_end h) 0 ∷ [] else []

-- The changes that make of any file an image all of whose blocks are free: it ends where the data begins.
abbrev pub creating : List ℕ → Header → List Change
creating name h = creating_map name h ++ creating_gap name h ++ Cut name h.off_data ∷ []

-- They fit any old file, and make the image of it.
pub record Creates (name : List ℕ) (h : Header) (file : Option (List ℕ)) : Type 0 where
  pub fits : FitsFile (creating name h) file
  pub makes : file_after (creating name h) file ≡ Some (free_image h)
