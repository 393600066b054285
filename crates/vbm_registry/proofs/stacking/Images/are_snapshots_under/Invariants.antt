use Rattle.std.proofs.Common.{◌≡◌, length}
use Rattle.std.specs.List.{list_all}
use Rattle.vbm_registry.specs.Tallies.{images_seen}
use Rattle.vbm_registry.specs.AtPlaces.{is_snapshot_stacked}
use Rattle.vbm_registry.proofs.stacking.Images.are_snapshots_under.Given as goal

abbrev pub invariant-loop-rest : goal.invariant-loop-rest
invariant-loop-rest l =
    list_all (is_snapshot_stacked (images_seen l.self) l.snapshots) l.rest
    ≡ list_all (is_snapshot_stacked (images_seen l.self) l.snapshots) l.snapshots

abbrev pub decreases-loop-rest : goal.decreases-loop-rest
decreases-loop-rest l = length l.rest
