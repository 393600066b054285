-- Entries that wait for a commit.
use Rattle.std.specs.Prelude.{ℕ, ◌==◌, List, Option}
use Rattle.std.specs.Map.{lookup}

-- staged blocks with their positions, in the order in which they were staged
abbrev pub Staged : Type 0
Staged = List (ℕ × ℕ)

-- the position of a staged block
abbrev pub position_in : Staged → ℕ → Option ℕ
position_in staged b = lookup (λ k. b == k) staged

-- the staged entries, and how many more can be staged without memory
pub record PendingState : Type 0 where
  pub staged : Staged
  pub spare : ℕ
