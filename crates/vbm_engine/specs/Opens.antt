-- What opening a store gives, and what making one does.
use Rattle.std.specs.Prelude.{◌≡◌, ◌≢◌, ◌⊎◌, ◌+◌, ◌<◌, ℕ, Bool, true, false, List, [], None, Result, Ok, Err}
use Rattle.vbm_ports.specs.Files.{Files}
use Rattle.vbm_ports.specs.Disk.{DiskState}
use Rattle.vbm_ports.specs.Crash.{Only}
use Rattle.vbm_intent.specs.Changes.{log_name}
use Rattle.vbm_intent.specs.Log.{Redo, RedoesTo, IsBadLog, IsOpen, IsShut, IsLikeRedone, SameBesidesLog}
use Rattle.vbm_named.specs.Names.{Name}
use Rattle.vbm_world.specs.World.{World}
use Rattle.vbm_world.specs.Loose.{Unsettled}
use Rattle.vbm_registry.specs.declared.library.Library.{Library}
use Rattle.vbm_registry.specs.declared.fault.BadStore.{BadStore}
use Rattle.vbm_registry.specs.declared.fault.BadStore.TheVariants.{BadLog}
use Rattle.vbm_registry.specs.Library.{library_name}
use Rattle.vbm_standing.specs.Meaning.{world_with, none_runs, none_changed}
use Rattle.vbm_standing.specs.Stands.{Stands, library_of}
use Rattle.vbm_engine.specs.declared.engine.Opened.{Opened}
use Rattle.vbm_engine.specs.declared.engine.Opened.TheVariants as opened
use Rattle.vbm_engine.specs.declared.engine.Made.{Made}
use Rattle.vbm_engine.specs.declared.engine.Made.TheVariants as made
use Rattle.vbm_store.specs.Kept.{AreKept}
use Rattle.vbm_engine.specs.Serves.{serves, IsSoundEngine, IsReady}

-- The files as they were; or, where the log's gate was open, those after redo, the log aside, which is shut.
abbrev pub AreRedone : Files → Files → Type 0
AreRedone files now = (now ≡ files) ⊎ (IsOpen (files log_name) × RedoesTo now files × IsShut (now log_name))

-- an image stands for what the files stand for
abbrev pub StandsAlike : Files → Files → Type 0
StandsAlike files image = (held : Result World BadStore) → Stands files held → Stands image held

-- The files are kept from what redo gives of those before.
pub record AreKeptRedone (files : Files) (k : Library) (now : Files) : Type 0 where
  pub redone : Files
  pub redo : Redo files redone
  pub library : Library
  pub read : library_of redone ≡ Ok library
  pub kept : AreKept library redone k now

-- The engine serves what the files stood for, and keeps them; or the store is refused with its first fault, and left alone. Without
-- memory it is left alone too, and stands for the same.
abbrev pub Opens : DiskState → DiskState → Opened → Type 0
Opens old new (opened.Open e) =
    Stands old.files (Ok (serves e new.files)) × AreKeptRedone old.files e.store.library new.files × ((u : Unsettled) → IsReady e new u)
Opens old new (opened.Refused bad) = Stands old.files (Err bad) × AreRedone old.files new.files
Opens old new opened.Fault = Unit {0}
Opens old new opened.NoMemory = StandsAlike old.files new.files × AreRedone old.files new.files

-- A sync came first, which is one moment: each image of the next moment, or of a later one, has P.
pub record SyncsFirst (old new : DiskState) (P : Files → Type 0) : Type 0 where
  pub later : old.moment < new.moment
  pub since : (image : Files) → new.left_since (old.moment + 1) image → P image

abbrev pub OpensSound : Opened → Type 0
OpensSound (opened.Open e) = IsSoundEngine e
OpensSound (opened.Refused bad) = Unit {0}
OpensSound opened.Fault = Unit {0}
OpensSound opened.NoMemory = Unit {0}

-- the disk failed in the opening
abbrev pub opening_failed : Opened → Bool
opening_failed (opened.Open e) = false
opening_failed (opened.Refused bad) = false
opening_failed opened.Fault = true
opening_failed opened.NoMemory = false

-- a library with this seed and nothing in it
abbrev pub empty_library : List ℕ → Library
empty_library seed = record { seed = seed; next = 0; inner = 0; media = []; inners = []; machines = []; making = None; merging = [] }

-- the world of a new store over files: nothing but the shelf
abbrev pub new_world : List ℕ → Files → World
new_world seed files = world_with none_changed none_runs (empty_library seed) files

-- A library is made over what redo gives of the files: every other file but the log is as there.
pub record IsMade (seed : List ℕ) (files : Files) (new : DiskState) : Type 0 where
  pub redone : Files
  pub redo : Redo files redone
  pub absent : redone library_name ≡ None
  pub stands : Stands new.files (Ok (new_world seed redone))
  pub others : (name : Name) → name ≢ log_name → name ≢ library_name → new.files name ≡ redone name
  pub settled : Only new.files new.may_leave

-- There was a library: nothing but the log changed, after redo.
pub record IsThere (files now : Files) : Type 0 where
  pub redone : Files
  pub redo : Redo files redone
  pub there : redone library_name ≢ None
  pub same : SameBesidesLog now redone

abbrev pub Makes : List ℕ → DiskState → DiskState → Made → Type 0
Makes seed old new made.Done = IsMade seed old.files new
Makes seed old new (made.Refused bad) = IsBadLog old.files × (new.files ≡ old.files)
Makes seed old new made.There = IsThere old.files new.files
Makes seed old new made.Failed = Unit {0}
Makes seed old new made.NoMemory = Unit {0}

-- only a bad log is refused
abbrev pub RefusesBadLog : Made → Type 0
RefusesBadLog made.Done = Unit {0}
RefusesBadLog (made.Refused bad) = bad ≡ BadLog
RefusesBadLog made.There = Unit {0}
RefusesBadLog made.Failed = Unit {0}
RefusesBadLog made.NoMemory = Unit {0}

-- the disk failed in the making
abbrev pub making_failed : Made → Bool
making_failed made.Done = false
making_failed (made.Refused bad) = false
making_failed made.There = false
making_failed made.Failed = true
making_failed made.NoMemory = false

-- an image of the new store
abbrev pub StandsNew : List ℕ → Files → Files → Type 0
StandsNew seed files image = (redone : Files) × Redo files redone × Stands image (Ok (new_world seed redone))

-- an image while the store is made: what redo gives of the files, or the new store
abbrev pub IsMaking : List ℕ → Files → Files → Type 0
IsMaking seed files image = IsLikeRedone files image ⊎ StandsNew seed files image
