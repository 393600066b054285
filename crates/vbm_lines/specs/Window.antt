-- Bytes that are held, and what a take adds to them.
use Rattle.std.specs.Prelude.{◌≡◌, ℕ, ◌+◌, ◌<◌, ◌≤◌, ◌==◌, if◌then◌else◌, List, [], ◌∷◌, ◌++◌, length, take, drop}
use Rattle.vbm_lines.specs.Lines.{HasNoNewline}

-- bytes in a room, and how many more there is space for behind them
pub record Held : Type 0 where
  pub bytes : List ℕ
  pub free : ℕ

-- the first newline of the bytes stands at a place
pub record IsFirstNewline (bytes : List ℕ) (at : ℕ) : Type 0 where
  pub within : at < length bytes
  pub split : bytes ≡ take at bytes ++ 10 ∷ drop (at + 1) bytes
  pub first : HasNoNewline (take at bytes)

-- a line without a carriage return at its end
abbrev pub without_return : List ℕ → List ℕ
without_return [] = []
without_return (b ∷ []) = if b == 13 then [] else b ∷ []
without_return (b ∷ c ∷ bytes) = b ∷ without_return (c ∷ bytes)

-- A take gives the next n bytes to a place of a buffer; none means the end of input.
pub record Fills (old_rest new_rest old new : List ℕ) (at n : ℕ) : Type 0 where
  pub within : n ≤ length old_rest
  pub rest : new_rest ≡ drop n old_rest
  pub buffer : take (at + n) new ≡ take at old ++ take n old_rest
  pub end : n ≡ 0 → old_rest ≡ []

-- A take gives the next n bytes behind those that are held; none means the end of input.
pub record Extends (old_rest new_rest old new : List ℕ) (n : ℕ) : Type 0 where
  pub within : n ≤ length old_rest
  pub rest : new_rest ≡ drop n old_rest
  pub held : new ≡ old ++ take n old_rest
  pub end : n ≡ 0 → old_rest ≡ []
