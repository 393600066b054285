-- Files that are kept as a list.
use Rattle.std.specs.Prelude.{◌≡◌, ◌↔◌, Contains, IsSome, ℕ, ◌+◌, ◌-◌, ◌<◌, List, [], ◌∷◌, ◌++◌, length, take, drop, replicate, slice_index_or, min, Option, Some, None, cond}
use Rattle.std.specs.Option.{option_map}
use Rattle.std.specs.Str.{bytes_eq}
use Rattle.vbm_ports.specs.Files.{Files, bytes_of, put}
use Rattle.vbm_memdisk.specs.declared.folder.MemFile.{MemFile}
use Rattle.vbm_memdisk.specs.declared.folder.Folder.{Folder}

-- what stands under each name: the first file of a name counts
abbrev pub files_of : List MemFile → Files
files_of [] name = None
files_of (file ∷ others) name = cond (bytes_eq file.name name) (Some file.bytes.items) (files_of others name)

abbrev pub files_in : Folder → Files
files_in folder = files_of folder.files.items

-- one name has this, and every other what it had
abbrev pub with_file : List ℕ → Option (List ℕ) → Files → Files
with_file name value files = λ other. cond (bytes_eq name other) value (files other)

-- the first if it is there, else the second
abbrev pub or_else : Option (List ℕ) → Option (List ℕ) → Option (List ℕ)
or_else None second = second
or_else (Some first) second = Some first

-- the first file of a name is at this place
pub record IsFirst (files : List MemFile) (name : List ℕ) (i : ℕ) : Type 0 where
  pub within : i < length files
  pub named : (default : MemFile) → (slice_index_or files i default).name ≡ name
  pub first : files_of (take i files) name ≡ None

-- Bytes put at a place. Where there are none, nothing changes: no file is made, and none grows.
abbrev pub wrote : ℕ → List ℕ → Option (List ℕ) → Option (List ℕ)
wrote at [] file = file
wrote at (byte ∷ bytes) None = Some (put at (byte ∷ bytes) [])
wrote at (byte ∷ bytes) (Some old) = Some (put at (byte ∷ bytes) old)

-- bytes of which those from one place up to another are the same byte, as far as there are any
abbrev pub filled : ℕ → ℕ → ℕ → List ℕ → List ℕ
filled from to byte bytes = take from bytes ++ replicate (min to (length bytes) - from) byte ++ drop to bytes

-- A write that leaves one byte all over its range and over a gap before it, as far as the file reaches.
abbrev pub smeared : ℕ → ℕ → ℕ → List ℕ → Option (List ℕ) → Option (List ℕ)
smeared byte at n kept old = option_map (filled (min at (length (bytes_of old))) (at + n) byte) (wrote at kept old)

abbrev pub file_name : MemFile → List ℕ
file_name file = file.name

-- these are the names of the files
abbrev pub AreNames : List (List ℕ) → Files → Type 0
AreNames names files = (name : List ℕ) → Contains names name ↔ IsSome (files name)
