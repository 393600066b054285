-- The files of a folder.
use Rattle.std.specs.Prelude.{◌≡◌, ◌≢◌, ℕ, ◌+◌, ◌-◌, List, [], ◌++◌, length, drop, take, replicate, Option, Some, None}

-- what stands under each name: the bytes of a file, or nothing
abbrev pub Files : Type 0
Files = List ℕ → Option (List ℕ)

-- the bytes, none where there is no file
abbrev pub bytes_of : Option (List ℕ) → List ℕ
bytes_of None = []
bytes_of (Some bytes) = bytes

-- bytes put at a place; a gap before them reads as zeros
abbrev pub put : ℕ → List ℕ → List ℕ → List ℕ
put at bytes old = take at old ++ replicate (at - length old) 0 ++ bytes ++ drop (at + length bytes) old

-- a file cut to a length; a shorter or absent one stays
abbrev pub cut_to : ℕ → Option (List ℕ) → Option (List ℕ)
cut_to len None = None
cut_to len (Some bytes) = Some (take len bytes)

-- this name has this now, and every other is as before
pub record Sets (name : List ℕ) (value : Option (List ℕ)) (old new : Files) : Type 0 where
  pub here : new name ≡ value
  pub others : (other : List ℕ) → other ≢ name → new other ≡ old other

-- a file after bytes were put at a place of it; an absent one is made
abbrev pub IsWritten : List ℕ → ℕ → List ℕ → Files → Files → Type 0
IsWritten name at bytes old new = Sets name (Some (put at bytes (bytes_of (old name)))) old new

-- a file after it was cut to a length
abbrev pub IsCut : List ℕ → ℕ → Files → Files → Type 0
IsCut name len old new = Sets name (cut_to len (old name)) old new

abbrev pub IsRemoved : List ℕ → Files → Files → Type 0
IsRemoved name old new = Sets name None old new

-- the n bytes from `at` on, or as many of them as there are
abbrev pub piece : List ℕ → ℕ → ℕ → List ℕ
piece bytes at n = take n (drop at bytes)

-- A read at `at` gives n bytes to the front of a buffer: as many as lie there and fit. The rest of the buffer stays.
pub record Reads (bytes : List ℕ) (at : ℕ) (old new : List ℕ) (n : ℕ) : Type 0 where
  pub count : n ≡ length (piece bytes at (length old))
  pub buffer : new ≡ piece bytes at (length old) ++ drop n old
