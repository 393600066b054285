-- The slots and the places of snapshots that have a medium.
use Rattle.std.specs.Prelude.{ℕ, ◌+◌, ◌==◌, List, count_by, sum_by}
use Rattle.vbm_machines.specs.declared.Slot.{Slot}
use Rattle.vbm_machines.specs.declared.Snapshot.{Snapshot}
use Rattle.vbm_machines.specs.declared.Machine.{Machine}

abbrev pub holding : (medium : ℕ) → List Slot → ℕ
holding medium slots = count_by (λ (s : Slot). s.medium == medium) slots

abbrev pub holders : (medium : ℕ) → Machine → ℕ
holders medium m = holding medium m.slots + sum_by (λ (s : Snapshot). holding medium s.slots) m.snapshots
