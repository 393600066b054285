use Rattle.std.proofs.Common.{◌≡◌, ◌+◌, ◌*◌, ◌≤◌, sum_by, take}
use Rattle.vbm_machines.specs.declared.Snapshot.{Snapshot}
use Rattle.vbm_machines.specs.Holders.{holding}
use Rattle.vbm_machines.proofs.holders.holders_of.Given as goal

abbrev pub invariant-loop-snapshot : goal.invariant-loop-snapshot
invariant-loop-snapshot l =
    (l.count ≡ holding l.medium l.machine.slots + sum_by (λ (s : Snapshot). holding l.medium s.slots) (take l.snapshot-index l.machine.snapshots))
    × (l.count ≤ 30 + 30 * l.snapshot-index)
