-- The plans of the tests.
use Rattle.std.specs.Prelude.{ℕ, ◌%◌, zero, suc, List, [], ◌∷◌, replicate, codes}
use Rattle.vbm_ports.specs.Files.{Files}
use Rattle.vbm_intent.specs.Changes.{Fits}
use Rattle.vbm_intent.specs.declared.change.Change.{Change}
use Rattle.vbm_intent.specs.declared.change.Change.TheVariants.{Write, Fill, Cut, Remove}

-- writes one byte of a file
abbrev pub a_written : Change
a_written = Write (codes "a.vdi") 0 (3 ∷ [])

-- removes another
abbrev pub b_removed : Change
b_removed = Remove (codes "b.vdi")

-- a plan of all kinds, over five files
abbrev pub a_put : Change
a_put = Write (codes "a.vdi") 0 (7 ∷ 8 ∷ [])

abbrev pub a_cut : ℕ → Change
a_cut len = Cut (codes "a.vdi") len

abbrev pub b_zeros : Change
b_zeros = Fill (codes "b.vdi") 0 3 0

abbrev pub c_nines : Change
c_nines = Fill (codes "c.vdi") 0 5000 9

abbrev pub d_removed : Change
d_removed = Remove (codes "d.vdi")

abbrev pub e_made : Change
e_made = Write (codes "e.vdi") 0 (1 ∷ [])

-- a write of some sevens
abbrev pub a_sevens : ℕ → Change
a_sevens len = Write (codes "a.vdi") 0 (replicate len 7)

-- a write of one byte, which tells its place
abbrev pub a_byte : ℕ → Change
a_byte at = Write (codes "a.vdi") at (at % 251 ∷ [])

-- n of them, from a place on
abbrev pub a_bytes : ℕ → ℕ → List Change
a_bytes at zero = []
a_bytes at (suc n) = a_byte at ∷ a_bytes (suc at) n

-- the changes fit whatever files there are
abbrev pub FitsAll : List Change → Type 0
FitsAll cs = (files : Files) → Fits cs files
