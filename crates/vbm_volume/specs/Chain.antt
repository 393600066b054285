-- Chains of images (User Manual, Differencing Images): a base image, and differencing images each on the one before it.
use Rattle.std.specs.Prelude.{ℕ, ◌+◌, ◌/◌, ◌≤◌, ◌&&◌, nat_le, Bool, if◌then◌else◌, List, [], ◌∷◌, map, reverse, replicate, Option, Some, None}
use Rattle.std.specs.Str.{bytes_eq}
use Rattle.vbm_header.specs.declared.Header.{Header}
use Rattle.vbm_header.specs.Header.{is_differencing}
use Rattle.vbm_volume.specs.Image.{word_of, is_free}
use Rattle.vbm_volume.specs.Sectors.{FlatDisk, first_sectors, sector_count, sector_by}

-- A differencing image is linked to the image below it by the link UUID and the parent modification UUID, and does not shrink it.
abbrev pub is_linked_to : Header → Header → Bool
is_linked_to below h =
    is_differencing h.image_type && bytes_eq h.link below.id && bytes_eq h.parent_modify below.modify && nat_le below.capacity h.capacity

-- the place of the first header that is not linked to the one before it, where the first has place i
abbrev pub broken_from : ℕ → Header → List Header → Option ℕ
broken_from i below [] = None
broken_from i below (h ∷ above) = if is_linked_to below h then broken_from (i + 1) h above else Some i

-- The place, from 0, at which headers, base first, are no chain: the first must be a base, each other linked to the one before it.
abbrev pub broken_at : List Header → Option ℕ
broken_at [] = Some 0
broken_at (base ∷ above) = if is_differencing base.image_type then Some 0 else broken_from 1 base above

-- a file of a chain, with its header
abbrev pub Link : Type 0
Link = List ℕ × Header

abbrev pub headers_of : List Link → List Header
headers_of links = map (λ link. link.1) links

-- A sector, read from the last file down: a file without the sector, by its capacity, and a free block lead to the file below.
abbrev pub sector_down : List Link → ℕ → List ℕ
sector_down [] i = replicate 512 0
sector_down (link ∷ below) i =
    if nat_le (sector_count link.1) i then sector_down below i
    else if is_free (word_of link.0 link.1 (i / 2048)) then sector_down below i
    else sector_by link.0 link.1 (word_of link.0 link.1 (i / 2048)) i

-- a sector of a chain, base first
abbrev pub chain_sector : List Link → ℕ → List ℕ
chain_sector links i = sector_down (reverse links) i

-- how many sectors a chain has, told from the last file down: those of that file
abbrev pub count_down : List Link → ℕ
count_down [] = 0
count_down (link ∷ below) = sector_count link.1

-- the disk of a chain that is told from the last file down
abbrev pub flat_down : List Link → FlatDisk
flat_down links = first_sectors (sector_down links) (count_down links)

-- how many sectors a chain has: those of its last file
abbrev pub chain_count : List Link → ℕ
chain_count links = count_down (reverse links)

-- the disk of a chain
abbrev pub flat_of_chain : List Link → FlatDisk
flat_of_chain links = first_sectors (chain_sector links) (chain_count links)

-- no file has more sectors than n, nor than the file above it; told from the last file down
abbrev pub FallsFrom : ℕ → List Link → Type 0
FallsFrom n [] = Unit {0}
FallsFrom n (link ∷ below) = (sector_count link.1 ≤ n) × FallsFrom (sector_count link.1) below

abbrev pub Falls : List Link → Type 0
Falls [] = Unit {0}
Falls (link ∷ below) = FallsFrom (sector_count link.1) below

-- no file of a chain has more sectors than the one above it
abbrev pub IsRising : List Link → Type 0
IsRising links = Falls (reverse links)
