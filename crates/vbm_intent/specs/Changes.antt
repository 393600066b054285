-- What changes make of files.
use Rattle.std.specs.Prelude.{◌≢◌, ◌⊎◌, ℕ, ◌+◌, ◌^◌, ◌<◌, ◌≤◌, List, [], ◌∷◌, length, replicate, filter, Option, Some, None}
use Rattle.std.specs.Str.{bytes_eq}
use Rattle.vbm_ports.specs.Files.{Files, bytes_of, put, cut_to}
use Rattle.vbm_ports.specs.Names.{IsStoreName}
use Rattle.vbm_intent.specs.declared.change.Change.{Change}
use Rattle.vbm_intent.specs.declared.change.Change.TheVariants.{Write, Fill, Cut, Remove}
use Rattle.vbm_ports.specs.declared.names.TheConstants.{LOG_NAME}
use Rattle.vbm_intent.specs.declared.limits.TheConstants.{FARTHEST, LONGEST_FILL}

abbrev pub log_name : List ℕ
log_name = LOG_NAME.now

abbrev pub name_of : Change → List ℕ
name_of (Write name at bytes) = name
name_of (Fill name at len byte) = name
name_of (Cut name len) = name
name_of (Remove name) = name

-- what a change makes of its file
abbrev pub effect : Change → Option (List ℕ) → Option (List ℕ)
effect (Write name at bytes) file = Some (put at bytes (bytes_of file))
effect (Fill name at len byte) file = Some (put at (replicate len byte) (bytes_of file))
effect (Cut name len) file = cut_to len file
effect (Remove name) file = None

-- changes of one file, one after the other
abbrev pub file_after : List Change → Option (List ℕ) → Option (List ℕ)
file_after [] file = file
file_after (c ∷ cs) file = file_after cs (effect c file)

-- those of one file, in order
abbrev pub of_file : List ℕ → List Change → List Change
of_file name cs = filter (λ c. bytes_eq (name_of c) name) cs

-- the files with all the changes
abbrev pub changed : List Change → Files → Files
changed cs files = λ name. file_after (of_file name cs) (files name)

-- the place from which a change writes
abbrev pub start_of : Change → ℕ
start_of (Write name at bytes) = at
start_of (Fill name at len byte) = at
start_of (Cut name len) = 0
start_of (Remove name) = 0

-- how many bytes it writes
abbrev pub size_of : Change → ℕ
size_of (Write name at bytes) = length bytes
size_of (Fill name at len byte) = len
size_of (Cut name len) = 0
size_of (Remove name) = 0

pub record WritesByte (c : Change) (i : ℕ) : Type 0 where
  pub low : start_of c ≤ i
  pub high : i < start_of c + size_of c

-- the change takes this byte away
abbrev pub TakesByte : Change → ℕ → Type 0
TakesByte (Write name at bytes) i = ⊥
TakesByte (Fill name at len byte) i = ⊥
TakesByte (Cut name len) i = len ≤ i
TakesByte (Remove name) i = Unit {0}

abbrev pub TouchesByte : Change → ℕ → Type 0
TouchesByte c i = WritesByte c i ⊎ TakesByte c i

-- The limits of one change: a write or a fill has a byte at least, a fill LONGEST_FILL bytes at most, and places and lengths
-- are at most FARTHEST.
abbrev pub IsWithinLimits : Change → Type 0
IsWithinLimits (Write name at bytes) = (0 < length bytes) × (at ≤ FARTHEST)
IsWithinLimits (Fill name at len byte) = (0 < len) × (len ≤ LONGEST_FILL) × (at ≤ FARTHEST)
IsWithinLimits (Cut name len) = len ≤ FARTHEST
IsWithinLimits (Remove name) = Unit {0}

-- The length of a write's bytes is a u32 in a record.
abbrev pub IsRecordable : Change → Type 0
IsRecordable (Write name at bytes) = length bytes < 2 ^ 32
IsRecordable (Fill name at len byte) = Unit {0}
IsRecordable (Cut name len) = Unit {0}
IsRecordable (Remove name) = Unit {0}

-- a change that a plan may hold: of a file of the store, but not of the log
pub record IsAllowed (c : Change) : Type 0 where
  pub store : IsStoreName (name_of c)
  pub not_log : name_of c ≢ log_name
  pub limits : IsWithinLimits c

-- two changes of one file that touch no byte in common
abbrev pub ApartFrom : Change → List Change → Type 0
ApartFrom c [] = Unit {0}
ApartFrom c (d ∷ ds) = ((i : ℕ) → TouchesByte c i → TouchesByte d i → ⊥) × ApartFrom c ds

-- No byte of the file is touched by two of its changes. So a range ends at or below the cut of its file, a file has one cut at
-- most, and a removed file has no other change.
abbrev pub IsApart : List Change → Type 0
IsApart [] = Unit {0}
IsApart (c ∷ cs) = ApartFrom c cs × IsApart cs

-- No write begins past the end that the file has by then; an absent file ends at 0.
abbrev pub FitsFile : List Change → Option (List ℕ) → Type 0
FitsFile [] file = Unit {0}
FitsFile (c ∷ cs) file = (start_of c ≤ length (bytes_of file)) × FitsFile cs (effect c file)

-- the changes fit the files
abbrev pub Fits : List Change → Files → Type 0
Fits cs files = (name : List ℕ) → FitsFile (of_file name cs) (files name)
