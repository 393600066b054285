-- The lines of an input, and the words of a line.
use Rattle.std.specs.Prelude.{◌≡◌, ◌⊎◌, ℕ, ◌==◌, ◌&&◌, ◌||◌, nat_lt, Bool, true, false, if◌then◌else◌, List, [], ◌∷◌, ◌++◌, length, take, map, IsFalse}
use Rattle.std.specs.List.{list_any}
use Rattle.vbm_lines.specs.declared.lines.TheConstants.{LONGEST_LINE}

abbrev pub Words : Type 0
Words = List (List ℕ)

-- a byte before the first of these pieces
abbrev pub before_first : ℕ → List (List ℕ) → List (List ℕ)
before_first b [] = (b ∷ []) ∷ []
before_first b (piece ∷ pieces) = (b ∷ piece) ∷ pieces

-- the test holds of the first byte
abbrev pub begins_with : (ℕ → Bool) → List ℕ → Bool
begins_with test [] = false
begins_with test (b ∷ bytes) = test b

abbrev pub is_newline : ℕ → Bool
is_newline b = b == 10

-- The lines of an input: each ends with a newline or at the end of the input, which holds no empty last line. The newline, and one
-- carriage return before it, are not part of the line.
abbrev pub lines_of : List ℕ → List (List ℕ)
lines_of [] = []
lines_of (b ∷ bytes) =
    if is_newline b then [] ∷ lines_of bytes
    else if (b == 13) && begins_with is_newline bytes then lines_of bytes
    else before_first b (lines_of bytes)

-- whole lines: no bytes, or a newline is the last of them
abbrev pub AreWhole : List ℕ → Type 0
AreWhole bytes = (bytes ≡ []) ⊎ ((front : List ℕ) × (bytes ≡ front ++ 10 ∷ []))

-- no newline is among the bytes
abbrev pub HasNoNewline : List ℕ → Type 0
HasNoNewline bytes = IsFalse (list_any is_newline bytes)

-- a tab or a space
abbrev pub is_blank : ℕ → Bool
is_blank b = (b == 9) || (b == 32)

-- the words of a line: runs of bytes that are not blank
abbrev pub words_in : List ℕ → Words
words_in [] = []
words_in (b ∷ bytes) =
    if is_blank b then words_in bytes
    else if begins_with is_blank bytes then (b ∷ []) ∷ words_in bytes
    else before_first b (words_in bytes)

-- too long to be a command
abbrev pub is_long : List ℕ → Bool
is_long line = nat_lt LONGEST_LINE (length line)

-- a line as it is read: of one that is too long nothing else matters
pub data Line : Type 0 where
  Short : List ℕ → Line
  TooLong : Line

abbrev pub line_in : List ℕ → Line
line_in line = if is_long line then TooLong else Short line

abbrev pub read_lines : List ℕ → List Line
read_lines input = map line_in (lines_of input)

-- the lines of an input that a newline ends: all but what stands behind the last newline
pub record AreEnded (input : List ℕ) (lines : List Line) : Type 0 where
  pub front : List ℕ
  pub tail : List ℕ
  pub split : input ≡ front ++ tail
  pub whole : AreWhole front
  pub unended : HasNoNewline tail
  pub are : lines ≡ read_lines front

-- the bytes up to the last newline
abbrev pub up_to_newline : List ℕ → List ℕ
up_to_newline [] = []
up_to_newline (b ∷ bytes) = if list_any is_newline (b ∷ bytes) then b ∷ up_to_newline bytes else []

-- The lines of an input that a run does, which takes up only so many bytes: all of them where the input is no longer, and else those
-- that a newline ends among these bytes.
abbrev pub lines_done : (most : ℕ) → List ℕ → List Line
lines_done most input = if nat_lt most (length input) then read_lines (up_to_newline (take most input)) else read_lines input

-- no words, or a comment
abbrev pub says_nothing : Words → Bool
says_nothing [] = true
says_nothing (word ∷ words) = begins_with (λ b. b == 35) word

-- A line that gets no answer: it is empty, or its first word begins with `#`.
abbrev pub is_skipped : Line → Bool
is_skipped (Short line) = says_nothing (words_in line)
is_skipped TooLong = false
