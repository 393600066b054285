-- Files with some of the changes made, in whole or in part.
use Rattle.std.specs.Prelude.{◌≡◌, ◌⊎◌, ℕ, ◌+◌, ◌<◌, ◌≤◌, max, List, [], ◌∷◌, length, replicate, slice_index, Option, Some, None}
use Rattle.vbm_ports.specs.Files.{Files, bytes_of, IsWritten}
use Rattle.vbm_ports.specs.Crash.{WriteLeaves, CutLeaves, RemoveLeaves, Through, Follows}
use Rattle.vbm_ports.specs.Disk.{DiskState, Passes}
use Rattle.vbm_intent.specs.declared.change.Change.{Change}
use Rattle.vbm_intent.specs.declared.change.Change.TheVariants.{Write, Fill, Cut, Remove}
use Rattle.vbm_intent.specs.Changes.{log_name, of_file, start_of, size_of, WritesByte, TakesByte}
use Rattle.vbm_intent.specs.Log.{IsShut, SameBesidesLog}

-- there is a file
abbrev pub Exists : Option (List ℕ) → Type 0
Exists None = ⊥
Exists (Some bytes) = Unit {0}

-- no change takes this byte away
abbrev pub IsKept : List Change → ℕ → Type 0
IsKept [] i = Unit {0}
IsKept (c ∷ cs) i = (TakesByte c i → ⊥) × IsKept cs i

-- a change writes this byte
abbrev pub IsWrittenBy : List Change → ℕ → Type 0
IsWrittenBy [] i = ⊥
IsWrittenBy (c ∷ cs) i = WritesByte c i ⊎ IsWrittenBy cs i

-- the end of what the changes write
abbrev pub top_of : List Change → ℕ
top_of [] = 0
top_of (c ∷ cs) = max (start_of c + size_of c) (top_of cs)

-- no change removes the file
abbrev pub Stays : List Change → Type 0
Stays [] = Unit {0}
Stays (Remove name ∷ cs) = ⊥
Stays (c ∷ cs) = Stays cs

-- a file now, some of whose changes are made since it was `file`
pub record IsFilePartly (cs : List Change) (file now : Option (List ℕ)) : Type 0 where
  pub keeps : Stays cs → Exists file → Exists now
  pub makes : Exists now → Exists file ⊎ (0 < top_of cs)
  pub low : (i : ℕ) → i < length (bytes_of file) → IsKept cs i → i < length (bytes_of now)
  pub high : length (bytes_of now) ≤ max (length (bytes_of file)) (top_of cs)
  pub same : (i : ℕ) → i < length (bytes_of file) → IsKept cs i → (IsWrittenBy cs i → ⊥) → slice_index (bytes_of now) i ≡ slice_index (bytes_of file) i

-- all files
abbrev pub IsPartly : List Change → Files → Files → Type 0
IsPartly cs files now = (name : List ℕ) → IsFilePartly (of_file name cs) (files name) (now name)

-- n bytes at a place of a file are the same byte
abbrev pub IsFilled : List ℕ → ℕ → ℕ → ℕ → DiskState → DiskState → Type 0
IsFilled name at n byte old new = IsWritten name at (replicate n byte) old.files new.files

-- an image is what a crash leaves of an earlier one while n bytes at a place are written
abbrev pub MayTear : List ℕ → ℕ → ℕ → DiskState → DiskState → Type 0
MayTear name at n old new = Follows (WriteLeaves name at n old.files) old.may_leave new.may_leave

-- and a crash at any moment leaves nothing else
abbrev pub PassesTorn : List ℕ → ℕ → ℕ → DiskState → DiskState → Type 0
PassesTorn name at n old new = Passes old new (Through (WriteLeaves name at n old.files) old.may_leave)

-- what a crash may leave of an image while one change is made
abbrev pub ChangeLeaves : Change → Files → Files → Files → Type 0
ChangeLeaves (Write name at bytes) files = WriteLeaves name at (length bytes) files
ChangeLeaves (Fill name at len byte) files = WriteLeaves name at len files
ChangeLeaves (Cut name len) files = CutLeaves name len files
ChangeLeaves (Remove name) files = RemoveLeaves name

abbrev pub behind_gate : Option (List ℕ) → List ℕ
behind_gate None = []
behind_gate (Some []) = []
behind_gate (Some (gate ∷ behind)) = behind

-- an image while the gate byte alone is written
pub record IsGateTorn (files image : Files) : Type 0 where
  pub others : SameBesidesLog image files
  pub gate : ℕ
  pub log : image log_name ≡ Some (gate ∷ behind_gate (files log_name))

-- an image while the record is written behind a closed gate
pub record IsRecordTorn (images : Files → Type 0) (image : Files) : Type 0 where
  pub from : Files
  pub was : images from
  pub others : SameBesidesLog image from
  pub shut : IsShut (image log_name)
