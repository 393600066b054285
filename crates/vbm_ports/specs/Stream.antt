-- What a source gives and a sink takes.
use Rattle.std.specs.Prelude.{◌≡◌, ℕ, ◌<◌, ◌≤◌, List, [], ◌++◌, length, drop, take}

-- a beginning of the bytes, and not all of them
pub record IsProperPrefix (front bytes : List ℕ) : Type 0 where
  pub len : ℕ
  pub shorter : len < length bytes
  pub is : front ≡ take len bytes

-- A take gives the next n bytes to the front of a buffer; none means the end of input. The rest of the buffer stays.
pub record Takes (old_rest new_rest old new : List ℕ) (n : ℕ) : Type 0 where
  pub within : n ≤ length old_rest
  pub rest : new_rest ≡ drop n old_rest
  pub buffer : new ≡ take n old_rest ++ drop n old
  pub end : n ≡ 0 → old_rest ≡ []
