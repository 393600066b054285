-- What a crash may leave of an open store's files: told file by file, by what each file is to the library.
use Rattle.std.specs.Prelude.{◌≡◌, ◌≢◌, ℕ, ◌&&◌, ◌||◌, not, Bool, if◌then◌else◌, List, Option, Some, None}
use Rattle.std.specs.Str.{bytes_eq}
use Rattle.vbm_ports.specs.Files.{Files}
use Rattle.vbm_ports.specs.Disk.{DiskState}
use Rattle.vbm_ports.specs.Names.{is_medium_name}
use Rattle.vbm_intent.specs.Changes.{log_name}
use Rattle.vbm_intent.specs.Log.{IsShut}
use Rattle.vbm_header.specs.declared.Header.{Header}
use Rattle.vbm_volume.specs.Like.{IsLikeFile}
use Rattle.vbm_named.specs.Names.{Name}
use Rattle.vbm_registry.specs.declared.library.Library.{Library}
use Rattle.vbm_registry.specs.Library.{library_name}
use Rattle.vbm_standing.specs.Headers.{header_in}
use Rattle.vbm_standing.specs.Meaning.{is_made}
use Rattle.vbm_store.specs.Listed.{is_listed}

-- how a crash leaves a file: as it is, as a listed image but for its loose sectors, or in any way
pub data Kind : Type 0 where
  Whole : Kind
  Listed : Header → Kind
  Free : Kind

abbrev pub KeepsFile : Kind → (ℕ → Bool) → Option (List ℕ) → Option (List ℕ) → Type 0
KeepsFile Whole loose file now = now ≡ file
KeepsFile (Listed h) loose (Some f) (Some g) = IsLikeFile h loose f g
KeepsFile (Listed h) loose (Some f) None = ⊥
KeepsFile (Listed h) loose None now = ⊥
KeepsFile Free loose file now = Unit {0}

-- every file but the log is kept by its kind
abbrev pub KeepsEach : (Name → Kind) → (Name → ℕ → Bool) → Files → Files → Type 0
KeepsEach kind loose files image = (name : Name) → name ≢ log_name → KeepsFile (kind name) (loose name) (files name) (image name)

-- an image of a store whose files are read as `files`: the log is shut, and every other file is kept by its kind
pub record Keeps (kind : Name → Kind) (loose : Name → ℕ → Bool) (files image : Files) : Type 0 where
  pub shut : IsShut (image log_name)
  pub each : (name : Name) → name ≢ log_name → KeepsFile (kind name) (loose name) (files name) (image name)

-- every image of now is one
abbrev pub AllKeep : (Name → Kind) → (Name → ℕ → Bool) → Files → DiskState → Type 0
AllKeep kind loose files s = (image : Files) → s.may_leave image → Keeps kind loose files image

-- the library's file, and the files of the shelf
abbrev pub is_whole : Library → Name → Bool
is_whole l name = bytes_eq name library_name || (is_medium_name name && not (is_made l.making name))

-- The library, the shelf and the listed images are kept; what is being made, and files that nothing names, need not be.
abbrev pub kind_of : Library → Files → Name → Kind
kind_of l files name =
    if is_listed l name then Listed (header_in files name) else if is_whole l name then Whole else Free
