-- The statuses that a run ends with.
use Rattle.std.specs.Prelude.{ℕ, Bool, true, false, [], ◌∷◌, slice_index_or}
use Rattle.vbm_ports.specs.Counts.{IsCounted}
use Rattle.vbm_top.specs.declared.status.Status.{Status}
use Rattle.vbm_top.specs.declared.status.Status.TheVariants.{Done, Refused, NoForm, DiskFault, InputFault, OutputFault, NoMemory, StoreRefused, InputTooLong}
use Rattle.vbm_top.specs.Streams.{Streams}

-- the number of a status
abbrev pub code_of : Status → ℕ
code_of Done = 0
code_of Refused = 1
code_of NoForm = 2
code_of DiskFault = 3
code_of InputFault = 4
code_of OutputFault = 5
code_of NoMemory = 6
code_of StoreRefused = 7
code_of InputTooLong = 8

-- the status with a number
unfoldable pub status_in : ℕ → Status
status_in code =
    slice_index_or (Done ∷ Refused ∷ NoForm ∷ DiskFault ∷ InputFault ∷ OutputFault ∷ NoMemory ∷ StoreRefused ∷ InputTooLong ∷ []) code InputTooLong

abbrev pub is_disk_fault : Status → Bool
is_disk_fault DiskFault = true
is_disk_fault status = false

abbrev pub is_input_fault : Status → Bool
is_input_fault InputFault = true
is_input_fault status = false

abbrev pub is_output_fault : Status → Bool
is_output_fault OutputFault = true
is_output_fault status = false

-- The counts of faults of the source and the sink are as the status says, but behind a disk fault, of which nothing more is known.
abbrev pub AreCounted : Streams → Status → Type 0
AreCounted s DiskFault = Unit {0}
AreCounted s status =
    IsCounted (is_input_fault status) s.source.was.faults s.source.now.faults
    × IsCounted (is_output_fault status) s.sink.was.faults s.sink.now.faults

-- whether no more lines are answered behind a line with this status
abbrev pub ends_run : Status → Bool
ends_run Done = false
ends_run Refused = false
ends_run status = true

-- the status of answers with the first, and of later ones with the second
abbrev pub worse : Status → Status → Status
worse Done later = later
worse status later = status
