-- Lines that were read of an input, of which a source still has the rest. Only the first `most` bytes of it make lines.
use Rattle.std.specs.Prelude.{◌≡◌, ℕ, ◌+◌, ◌<◌, ◌≤◌, List, [], ◌++◌, length, take, drop}
use Rattle.vbm_lines.specs.Lines.{Line, read_lines, lines_done, AreEnded}

-- lines with which these begin
abbrev pub AreFirst : List Line → List Line → Type 0
AreFirst all lines = (more : List Line) × (all ≡ lines ++ more)

-- The lines are the first of those of an input that a run does, and the first of what was taken: one byte more at most than lines
-- are made of.
pub record AreRead (most : ℕ) (input rest : List ℕ) (lines : List Line) : Type 0 where
  pub taken : List ℕ
  pub split : input ≡ taken ++ rest
  pub bound : length taken ≤ most + 1
  pub of_input : AreFirst (lines_done most input) lines
  pub of_taken : AreFirst (read_lines taken) lines

-- all input was read, and it is no longer than a run takes
pub record IsAllRead (most : ℕ) (input rest : List ℕ) (lines : List Line) : Type 0 where
  pub none : rest ≡ []
  pub short : length input ≤ most
  pub are : lines ≡ read_lines input

-- the lines are those of what was taken that a newline ends
pub record IsCutOff (most : ℕ) (input rest : List ℕ) (lines : List Line) : Type 0 where
  pub taken : List ℕ
  pub split : input ≡ taken ++ rest
  pub short : length taken ≤ most
  pub ended : AreEnded taken lines

-- one byte more was taken than lines are made of, and the lines are those of the bytes before it that a newline ends
pub record IsTooLong (most : ℕ) (input rest : List ℕ) (lines : List Line) : Type 0 where
  pub long : most < length input
  pub split : rest ≡ drop (most + 1) input
  pub ended : AreEnded (take most input) lines
