-- The positions among words of a block map.
use Rattle.std.specs.Prelude.{◌≡◌, ℕ, ◌<◌, ◌==◌, ◌+◌, not, max, nat_lt, Bool, List, [], ◌∷◌, filter}
use Rattle.std.specs.List.{list_any}
use Rattle.vbm_volume.specs.Image.{is_distinct, is_position, words_at}
use Rattle.vbm_volume.specs.Marks.{is_marked}

-- one past the greatest position, 0 where there is none
abbrev pub end_of : List ℕ → ℕ
end_of [] = 0
end_of (p ∷ ps) = max (p + 1) (end_of ps)

-- the positions among the first n words of a piece of a block map
abbrev pub positions_in : List ℕ → ℕ → List ℕ
positions_in piece n = filter is_position (words_at piece 0 n)

abbrev pub is_low : ℕ → ℕ → Bool
is_low low_end p = nat_lt p low_end

abbrev pub is_high : ℕ → ℕ → Bool
is_high low_end p = not (nat_lt p low_end)

-- the positions below `low_end` are marked, and it is known whether one of them stood twice
pub record AreMarked (low_end : ℕ) (words : List ℕ) (is_twice : Bool) (ps : List ℕ) : Type 0 where
  pub marks : (n : ℕ) → n < low_end → is_marked words n ≡ list_any (λ p. n == p) ps
  pub twice : is_twice ≡ not (is_distinct (filter (is_low low_end) ps))
