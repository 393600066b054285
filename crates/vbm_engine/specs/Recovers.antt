-- What is done with the log that a crash left.
use Rattle.std.specs.Prelude.{◌≡◌, ℕ, List, Option, MatchOption, Result, Ok, Err}
use Rattle.vbm_ports.specs.Disk.{DiskState}
use Rattle.vbm_ports.specs.Crash.{Only}
use Rattle.vbm_intent.specs.Log.{IsOpen, IsShutInAll, IsBadLog, RedoesTo, recorded_size}
use Rattle.vbm_intent.specs.declared.log.Log.{Log}
use Rattle.vbm_engine.specs.declared.recover.BadLog.{BadLog}
use Rattle.vbm_store.specs.declared.undone.Undone.{Undone}
use Rattle.vbm_store.specs.declared.undone.Undone.TheVariants.{Refused, Failed, NoMemory}

-- a crash leaves these files, with the log shut, and nothing else
pub record IsSettled (s : DiskState) : Type 0 where
  pub only : Only s.files s.may_leave
  pub shut : IsShutInAll s.may_leave

-- The size of the record that waits behind an open gate; none where the gate is not open.
abbrev pub IsWaiting : Option ℕ → Option (List ℕ) → Type 0
IsWaiting size log = MatchOption size (IsOpen log → ⊥) (λ n. IsOpen log × (n ≡ recorded_size log))

-- The changes of the log are made, and all is settled; or nothing is changed, unless the disk failed.
abbrev pub Recovers : DiskState → DiskState → Result Log (Undone BadLog) → Type 0
Recovers old new (Ok log) = RedoesTo new.files old.files × IsSettled new
Recovers old new (Err (Refused bad)) = IsBadLog old.files × (new.files ≡ old.files)
Recovers old new (Err Failed) = Unit {0}
Recovers old new (Err NoMemory) = new.files ≡ old.files
