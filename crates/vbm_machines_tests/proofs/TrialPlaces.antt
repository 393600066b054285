-- The places of a machine that has no snapshots.
use Rattle.std.proofs.Common.{◌≡◌, ◌<◌, ◌≤◌, [], length, None, IfSome, sym, subst, arith}
use Rattle.std.specs.List.{AllByRecursion}
use Rattle.vbm_named.specs.Names.{Rises}
use Rattle.vbm_world.specs.declared.limits.TheConstants.{SNAPSHOT_LIMIT}
use Rattle.vbm_machines.specs.declared.Snapshot.{Snapshot}
use Rattle.vbm_machines.specs.declared.Machine.{Machine}
use Rattle.vbm_machines.specs.Snapshots.{name_of_snapshot, HasPlaces}

pub empty_has_places : (m : Machine) → m.snapshots ≡ [] → m.current ≡ None → HasPlaces m
empty_has_places m none root = record {
  names = subst (λ xs. Rises name_of_snapshot xs) (sym none) tt;
  parents = subst (λ xs. AllByRecursion (λ (s : Snapshot). IfSome s.parent (λ place. place < length m.snapshots)) xs) (sym none) tt;
  current = subst (λ place. IfSome place (λ p. p < length m.snapshots)) (sym root) tt;
  few = subst (λ xs. length xs ≤ SNAPSHOT_LIMIT) (sym none) (omega arith);
}
