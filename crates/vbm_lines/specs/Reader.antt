-- A reader of lines, and how far it is in an input.
use Rattle.std.specs.Prelude.{◌≡◌, ◌⊎◌, ℕ, ◌+◌, ◌-◌, ◌<◌, ◌≤◌, min, Bool, true, false, if◌then◌else◌, List, [], ◌∷◌, ◌++◌, length, take, drop, Result, Ok, Err, IsTrue}
use Rattle.vbm_ports.specs.declared.NoMemory.{NoMemory}
use Rattle.vbm_lines.specs.Lines.{Line as ReadLine, Short, TooLong, read_lines, AreWhole, HasNoNewline}
use Rattle.vbm_lines.specs.Inputs.{IsAllRead, IsCutOff, IsTooLong}
use Rattle.vbm_lines.specs.declared.lines.TheConstants.{LONGEST_LINE}
use Rattle.vbm_lines.specs.declared.reader.Next.{Next}
use Rattle.vbm_lines.specs.declared.reader.Next.TheVariants.{Line, Long, End, ReadFault, Spent}

-- What a reader holds.
pub record Reader : Type 0 where
  -- how many bytes of an input make lines, and how many were taken
  pub most : ℕ
  pub taken : ℕ
  -- bytes that were taken and that no line had yet
  pub held : List ℕ
  -- whether they go on a line that is too long already, whose first bytes are not held any more
  pub skipping : Bool
  -- whether the source came to its end
  pub ended : Bool

abbrev pub new_reader : ℕ → Reader
new_reader most = record { most = most; taken = 0; held = []; skipping = false; ended = false }

-- the first bytes of a line that are not held
abbrev pub AreLost : Bool → List ℕ → Type 0
AreLost false lost = lost ≡ []
AreLost true lost = (LONGEST_LINE + 1 < length lost) × HasNoNewline lost

-- what is left behind the lines that were read
pub record IsLeft (r : Reader) (left : List ℕ) : Type 0 where
  pub lost : List ℕ
  pub split : left ≡ lost ++ r.held
  pub are_lost : AreLost r.skipping lost

-- Of an input the reader read these first lines, and the source still has the rest. A byte past `most` belongs to no line.
pub record IsAt (r : Reader) (input rest : List ℕ) (lines : List ReadLine) : Type 0 where
  pub bound : r.taken ≤ r.most + 1
  pub within : r.taken ≤ length input
  pub source : rest ≡ drop r.taken input
  pub done : List ℕ
  pub left : List ℕ
  pub split : take (min r.taken r.most) input ≡ done ++ left
  pub are : lines ≡ read_lines done
  pub holds : IsLeft r left
  pub whole : AreWhole done ⊎ (IsTrue r.ended × (left ≡ []))
  pub end : IsTrue r.ended → (rest ≡ []) × (r.taken ≤ r.most)

-- what reading the next line gives
abbrev pub GivesLine : Next → Reader → List ℕ → List ℕ → List ReadLine → Type 0
GivesLine (Line line) new input rest lines = IsAt new input rest (lines ++ Short line ∷ [])
GivesLine Long new input rest lines = IsAt new input rest (lines ++ TooLong ∷ [])
GivesLine End new input rest lines = IsAt new input rest lines × IsAllRead new.most input rest lines
GivesLine ReadFault new input rest lines = IsAt new input rest lines × IsCutOff new.most input rest lines
GivesLine Spent new input rest lines = IsAt new input rest lines × IsTooLong new.most input rest lines

-- what more lines can be made of: bytes that are held or may still be taken, and the line whose first bytes are not held
abbrev pub left_over : Reader → ℕ
left_over r = length r.held + (r.most + 1 - r.taken) + (if r.skipping then 1 else 0)

abbrev pub OnText : (List ℕ → Type 0) → Next → Type 0
OnText P (Line line) = P line
OnText P Long = Unit {0}
OnText P End = Unit {0}
OnText P ReadFault = Unit {0}
OnText P Spent = Unit {0}

abbrev pub OnLine : Type 0 → Next → Type 0
OnLine P (Line line) = P
OnLine P Long = P
OnLine P End = Unit {0}
OnLine P ReadFault = Unit {0}
OnLine P Spent = Unit {0}

abbrev pub OnReadFault : Type 0 → Next → Type 0
OnReadFault P (Line line) = Unit {0}
OnReadFault P Long = Unit {0}
OnReadFault P End = Unit {0}
OnReadFault P ReadFault = P
OnReadFault P Spent = Unit {0}

abbrev pub is_read_fault : Next → Bool
is_read_fault (Line line) = false
is_read_fault Long = false
is_read_fault End = false
is_read_fault ReadFault = true
is_read_fault Spent = false

-- the source failed; it did not where there was no memory
abbrev pub failed_to_read : Result Next NoMemory → Bool
failed_to_read (Ok next) = is_read_fault next
failed_to_read (Err none) = false
