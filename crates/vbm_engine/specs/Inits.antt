-- The making of a library over files that are settled.
use Rattle.std.specs.Prelude.{◌≡◌, ◌≢◌, ℕ, List, None}
use Rattle.vbm_ports.specs.Files.{Files}
use Rattle.vbm_ports.specs.Disk.{DiskState}
use Rattle.vbm_intent.specs.declared.change.Change.{Change}
use Rattle.vbm_intent.specs.Changes.{changed}
use Rattle.vbm_intent.specs.Log.{SameBesidesLog, IsBeforeOrAfter}
use Rattle.vbm_ids.specs.Identifier.{IsSeed}
use Rattle.vbm_registry.specs.Library.{library_name}
use Rattle.vbm_engine.specs.declared.engine.Made.{Made}
use Rattle.vbm_engine.specs.declared.engine.Made.TheVariants as made
use Rattle.vbm_store.specs.Plans.{library_changes}
use Rattle.vbm_engine.specs.Opens.{empty_library}
use Rattle.vbm_engine.specs.Recovers.{IsSettled}

-- a plan that writes an empty library
pub record IsNewPlan (seed : List ℕ) (plan : List Change) : Type 0 where
  pub changes : plan ≡ library_changes (empty_library seed)
  pub is_seed : IsSeed seed

abbrev pub with_library : List ℕ → Files → Files
with_library seed files = changed (library_changes (empty_library seed)) files

-- the library is written, and the rest stays
pub record IsWritten (seed : List ℕ) (files : Files) (new : DiskState) : Type 0 where
  pub absent : files library_name ≡ None
  pub same : SameBesidesLog new.files (with_library seed files)
  pub settled : IsSettled new
  pub is_seed : IsSeed seed

abbrev pub MakesOver : List ℕ → DiskState → DiskState → Made → Type 0
MakesOver seed old new made.Done = IsWritten seed old.files new
MakesOver seed old new (made.Refused bad) = ⊥
MakesOver seed old new made.There = (old.files library_name ≢ None) × (new.files ≡ old.files)
MakesOver seed old new made.Failed = Unit {0}
MakesOver seed old new made.NoMemory = Unit {0}

-- an image while that is done
pub data IsOver (seed : List ℕ) (old : DiskState) (image : Files) : Type 0 where
  before : old.may_leave image → IsOver seed old image
  during : IsSeed seed → IsBeforeOrAfter (library_changes (empty_library seed)) old.files old.may_leave image → IsOver seed old image
