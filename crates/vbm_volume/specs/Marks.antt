-- A set of numbers, a bit for each.
use Rattle.std.specs.Prelude.{◌≡◌, ◌≢◌, ℕ, ◌/◌, ◌%◌, ◌==◌, Bool, true, List, slice_index}
use Rattle.std.specs.Int.{bit_at}

-- whether the bit of a number is set in words of 64 bits
unfoldable pub is_marked : List ℕ → ℕ → Bool
is_marked words n = bit_at (slice_index words (n / 64)) (n % 64) == 1

-- n is marked now, and each other number is as it was
pub record MarksOneMore (old new : List ℕ) (n : ℕ) : Type 0 where
  pub here : is_marked new n ≡ true
  pub others : (m : ℕ) → m ≢ n → is_marked new m ≡ is_marked old m
