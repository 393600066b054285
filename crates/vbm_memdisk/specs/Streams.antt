-- Input and output in memory.
use Rattle.std.specs.Prelude.{ℕ, ◌≤◌, ◌-◌, List, length, min, Option, Some, None}

-- Input in memory: what is left, how many bytes were taken, the most in one take, and after how many bytes it fails.
pub record Input : Type 0 where
  pub rest : List ℕ
  pub taken : ℕ
  pub piece : ℕ
  pub fail_after : Option ℕ
  pub faults : ℕ

-- Output in memory: what was written, the most that it takes, and how many puts found no memory.
pub record Output : Type 0 where
  pub written : List ℕ
  pub limit : Option ℕ
  pub faults : ℕ
  pub refused : ℕ

-- how many of n bytes fit below a limit, after so many others
abbrev pub room_below : Option ℕ → ℕ → ℕ → ℕ
room_below None taken n = n
room_below (Some limit) taken n = min n (limit - taken)

-- how many of n bytes an input gives: up to a piece, up to its end, and up to the failure
abbrev pub given_count : Input → ℕ → ℕ
given_count input n = min (min n input.piece) (min (length input.rest) (room_below input.fail_after input.taken n))

-- all bytes before the failure are out
abbrev pub IsSpent : Input → Type 0
IsSpent input = Spends input.fail_after input.taken where
  Spends : Option ℕ → ℕ → Type 0
  Spends None taken = ⊥
  Spends (Some last) taken = last ≤ taken
