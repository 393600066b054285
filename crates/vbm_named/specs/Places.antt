-- Places in lists in the order of names, and what becomes of them where an item comes or goes.
use Rattle.std.specs.Prelude.{ℕ, ◌+◌, ◌-◌, nat_lt, if◌then◌else◌, List, Option, slice_get, option_and_then}
use Rattle.std.specs.List.{position_or_len}
use Rattle.std.specs.Option.{option_map}
use Rattle.vbm_named.specs.Names.{Name, is_before}

-- the place of an item after another one came in at a place
abbrev pub shifted : (at place : ℕ) → ℕ
shifted at place = if nat_lt place at then place else place + 1

-- the place of an item after the one at a place left
abbrev pub closed_up : (at place : ℕ) → ℕ
closed_up at place = if nat_lt at place then place - 1 else place

-- the place where an item of this name comes in: before the first that is behind it
abbrev pub place_for : {X : Type 0} → (X → Name) → Name → List X → ℕ
place_for name_of name xs = position_or_len (λ x. is_before name (name_of x)) xs

-- the name at a place, none past the end
abbrev pub name_at : {X : Type 0} → (X → Name) → List X → ℕ → Option Name
name_at name_of xs place = option_map name_of (slice_get xs place)

abbrev pub name_there : {X : Type 0} → (X → Name) → List X → Option ℕ → Option Name
name_there name_of xs place = option_and_then (name_at name_of xs) place
