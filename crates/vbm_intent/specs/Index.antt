-- An index of a record's changes. An entry is the place of a change in the record's body, in four little-endian bytes.
use Rattle.std.specs.Prelude.{◌≡◌, ◌≢◌, ◌⊎◌, ℕ, ◌<◌, ◌≤◌, List, [], ◌∷◌, map, drop, Some, None, All}
use Rattle.std.specs.Int.{from_le_bytes, w32}
use Rattle.std.specs.Cmp.Lexicographic.{slice_cmp}
use Rattle.std.specs.Ordering.{nat_cmp}
use Rattle.std.specs.declared.cmp.Ordering.TheVariants.{Less}
use Rattle.vbm_intent.specs.declared.change.Change.{Change}
use Rattle.vbm_intent.specs.declared.change.Change.TheVariants.{Remove}
use Rattle.vbm_intent.specs.Changes.{name_of}
use Rattle.vbm_intent.specs.Record.{Part, change_of}
use Rattle.vbm_intent.specs.Check.{touched_from, touched_to, AreApart}

abbrev pub place_of : List ℕ → ℕ
place_of entry = from_le_bytes w32 entry

-- the change of a part, or a removal of nothing
abbrev pub change_read : Part → Change
change_read None = Remove []
change_read (Some (change, rest)) = change

-- the change whose place an entry is
abbrev pub change_at : List ℕ → List ℕ → Change
change_at body entry = change_read (change_of (drop (place_of entry) body))

abbrev pub changes_at : List ℕ → List (List ℕ) → List Change
changes_at body index = map (change_at body) index

-- an element is in a list
abbrev pub IsIn : {X : Type 0} → List X → X → Type 0
IsIn [] x = ⊥
IsIn (y ∷ ys) x = (y ≡ x) ⊎ IsIn ys x

-- a relation of each element to each behind it
abbrev pub Pairs : {X : Type 0} → (X → X → Type 0) → List X → Type 0
Pairs R [] = Unit {0}
Pairs R (x ∷ xs) = All (R x) xs × Pairs R xs

-- the entries stand in the order of their places
abbrev pub IsRising : List (List ℕ) → Type 0
IsRising = Pairs (λ first second. place_of first < place_of second)

-- the changes of two entries are apart
abbrev pub AreApartIn : List ℕ → List (List ℕ) → Type 0
AreApartIn body index =
    (first second : List ℕ) → IsIn index first → IsIn index second → first ≢ second → AreApart (change_at body first) (change_at body second)

-- the order of names
abbrev pub IsNameBefore : List ℕ → List ℕ → Type 0
IsNameBefore first second = slice_cmp nat_cmp first second ≡ Less

-- a change of an earlier file, or of the same file and all before what the other touches
abbrev pub ComesBefore : Change → Change → Type 0
ComesBefore first second =
    IsNameBefore (name_of first) (name_of second) ⊎ ((name_of first ≡ name_of second) × (touched_to first ≤ touched_from second))

-- by file, and in one file as the record has them
abbrev pub StandsBefore : List ℕ → List ℕ → List ℕ → Type 0
StandsBefore body first second =
    IsNameBefore (name_of (change_at body first)) (name_of (change_at body second))
    ⊎ ((name_of (change_at body first) ≡ name_of (change_at body second)) × (place_of first < place_of second))
