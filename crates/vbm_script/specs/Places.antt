-- Words that are the names of places.
use Rattle.std.specs.Prelude.{◌≡◌, ◌==◌, ◌||◌, not, ℕ, Bool, false, List, ◌∷◌, ◌++◌, IsTrue}
use Rattle.std.specs.List.{list_all}
use Rattle.vbm_world.specs.declared.command.PlaceName.{PlaceName}
use Rattle.vbm_world.specs.Texts.{IsSpelledPlace, place_text}

-- a word is the name of a place
pub record IsPlace (word : List ℕ) (place : PlaceName) : Type 0 where
  pub is : word ≡ place_text place
  pub spelled : IsSpelledPlace place

-- neither `:` nor `/`
abbrev pub is_unmarked : ℕ → Bool
is_unmarked c = not ((c == 58) || (c == 47))

-- a word is split before its first `:` or `/`, if it has one
pub record IsSplit (word front back : List ℕ) : Type 0 where
  pub whole : word ≡ front ++ back
  pub unmarked : IsTrue (list_all is_unmarked front)
  pub marked : (c : ℕ) (behind : List ℕ) → back ≡ c ∷ behind → is_unmarked c ≡ false
