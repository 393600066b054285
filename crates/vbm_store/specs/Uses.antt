-- Snapshots that have the medium at a place.
use Rattle.std.specs.Prelude.{ℕ, Bool}
use Rattle.std.specs.List.{list_any}
use Rattle.vbm_machines.specs.declared.Snapshot.{Snapshot}
use Rattle.vbm_machines.specs.declared.Machine.{Machine}
use Rattle.vbm_registry.specs.Renumbered.{has_medium_at}

abbrev pub is_taken_at : ℕ → Machine → Bool
is_taken_at place m = list_any (λ (s : Snapshot). has_medium_at place s.slots) m.snapshots
