-- A disk in memory: what it tells, and which of its calls fail.
use Rattle.std.specs.Prelude.{◌≡◌, ◌⊎◌, ◌≤◌, ℕ, List, Option, Some, None, Contains}
use Rattle.vbm_ports.specs.Disk.{DiskState}
use Rattle.vbm_memdisk.specs.Past.{Past, past_in, state_of}
use Rattle.vbm_memdisk.specs.declared.disk.MemDisk.{MemDisk}

abbrev pub past_of : MemDisk → Past
past_of disk = past_in disk.history

abbrev pub memory_state : MemDisk → DiskState
memory_state disk = state_of (past_of disk) disk.calls disk.faults

-- the calls that fail, by their numbers from 0
abbrev pub failing_calls : MemDisk → List ℕ
failing_calls disk = disk.failing

-- the first of the calls that fail and change nothing
abbrev pub stop_of : MemDisk → Option ℕ
stop_of disk = disk.stop

-- how many calls failed for want of memory
abbrev pub refused_of : MemDisk → ℕ
refused_of disk = disk.refused

-- the next call is in the list of those that fail
abbrev pub IsListed : MemDisk → Type 0
IsListed disk = Contains (failing_calls disk) disk.calls

abbrev pub IsFrom : Option ℕ → ℕ → Type 0
IsFrom None call = ⊥
IsFrom (Some first) call = first ≤ call

-- the next call is not before the stop
abbrev pub IsStopped : MemDisk → Type 0
IsStopped disk = IsFrom (stop_of disk) disk.calls

-- the next call fails
abbrev pub MustFail : MemDisk → Type 0
MustFail disk = IsListed disk ⊎ IsStopped disk

-- which calls fail stays as it was
pub record KeepsFailures (old new : MemDisk) : Type 0 where
  pub failing : failing_calls new ≡ failing_calls old
  pub stop : stop_of new ≡ stop_of old

-- how many calls were made, failed, and failed for want of memory stays as it was
pub record KeepsCounts (old new : MemDisk) : Type 0 where
  pub calls : new.calls ≡ old.calls
  pub faults : new.faults ≡ old.faults
  pub refused : refused_of new ≡ refused_of old
