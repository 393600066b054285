-- What a store gives back behind a commit.
use Rattle.std.specs.Prelude.{◌≡◌, Bool, true, false, List}
use Rattle.vbm_ports.specs.Crash.{Only}
use Rattle.vbm_ports.specs.Disk.{DiskState}
use Rattle.vbm_intent.specs.declared.change.Change.{Change}
use Rattle.vbm_intent.specs.Changes.{changed}
use Rattle.vbm_intent.specs.Log.{IsShutInAll, SameBesidesLog}
use Rattle.vbm_registry.specs.declared.library.Library.{Library}
use Rattle.vbm_store.specs.declared.store.Store.{Store}
use Rattle.vbm_store.specs.declared.images.Edit.{Edit}
use Rattle.vbm_store.specs.declared.store.Committed.{Committed}
use Rattle.vbm_store.specs.declared.store.Committed.TheVariants.{Done, NoMemory, Failed}
use Rattle.vbm_store.specs.Edits.{store_after}

-- The store behind the commit has the new library and the edited images; without memory it is as it was.
abbrev pub HandsBack : Store → Library → Edit → Committed → Type 0
HandsBack e library edit (Done next) = next ≡ store_after e library edit next.log
HandsBack e library edit (NoMemory next) = next ≡ e
HandsBack e library edit Failed = Unit {0}

-- The plan is made, and all is settled.
abbrev pub Commits : DiskState → DiskState → List Change → Committed → Type 0
Commits old new plan (Done next) = SameBesidesLog new.files (changed plan old.files) × Only new.files new.may_leave × IsShutInAll new.may_leave
Commits old new plan (NoMemory next) = Unit {0}
Commits old new plan Failed = Unit {0}

abbrev pub OnNoMemory : Committed → Type 0 → Type 0
OnNoMemory (Done next) P = Unit {0}
OnNoMemory (NoMemory next) P = P
OnNoMemory Failed P = Unit {0}

-- the disk failed in the commit
abbrev pub commit_failed : Committed → Bool
commit_failed (Done next) = false
commit_failed (NoMemory next) = false
commit_failed Failed = true
