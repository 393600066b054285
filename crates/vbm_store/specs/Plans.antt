-- The changes that commands commit.
use Rattle.std.specs.Prelude.{ℕ, ◌-◌, ◌*◌, ◌<◌, nat_lt, if◌then◌else◌, List, [], ◌∷◌, ◌++◌, length}
use Rattle.std.specs.List.{AllByRecursion}
use Rattle.vbm_header.specs.declared.Header.{Header}
use Rattle.vbm_header.specs.Written.{header_bytes}
use Rattle.vbm_volume.specs.Like.{map_end}
use Rattle.vbm_intent.specs.declared.change.Change.{Change}
use Rattle.vbm_intent.specs.declared.change.Change.TheVariants.{Write, Fill, Cut}
use Rattle.vbm_intent.specs.Changes.{TouchesByte, IsApart}
use Rattle.vbm_named.specs.Names.{Name}
use Rattle.vbm_registry.specs.declared.library.Library.{Library}
use Rattle.vbm_registry.specs.Library.{library_name}
use Rattle.vbm_registry.specs.Spelling.{spelling}
use Rattle.vbm_header.specs.declared.TheConstants.{WRITTEN_LEN}

-- the library's file holds these bytes, and no more
abbrev pub library_changes : Library → List Change
library_changes l = Write library_name 0 (spelling l) ∷ Cut library_name (length (spelling l)) ∷ []

-- zeros between the map's end and the data, where there is room
abbrev pub gap_changes : Name → Header → List Change
gap_changes name h = if nat_lt (map_end h) h.off_data then Fill name (map_end h) (h.off_data - map_end h) 0 ∷ [] else []

-- the header of a new image, of WRITTEN_LEN bytes, zeros up to the block map, and the map of free blocks
abbrev pub front_changes : Name → Header → List Change
front_changes name h = Write name 0 (header_bytes h) ∷ Fill name WRITTEN_LEN (h.off_blocks - WRITTEN_LEN) 0 ∷ Fill name h.off_blocks (4 * h.blocks) 255 ∷ []

-- A new image whose blocks are all free: its front, zeros up to the data, and no more.
abbrev pub image_changes : Name → Header → List Change
image_changes name h = front_changes name h ++ gap_changes name h ++ Cut name h.off_data ∷ []

-- changes of one file that touch different bytes, all below a place
pub record EndsBy (place : ℕ) (cs : List Change) : Type 0 where
  pub apart : IsApart cs
  pub below : AllByRecursion (λ c. (i : ℕ) → TouchesByte c i → i < place) cs
