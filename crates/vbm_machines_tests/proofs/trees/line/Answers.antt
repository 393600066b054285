use Rattle.std.proofs.Common.{rules, ◌≡◌, None, List}
use Rattle.vbm_named.specs.Names.{find_by, put_by, Rises}
use Rattle.vbm_named.proofs.Lists.{rises_put}
use Rattle.vbm_machines.specs.declared.Snapshot.{Snapshot}
use Rattle.vbm_machines.specs.Snapshots.{name_of_snapshot}
use Rattle.vbm_machines_tests.proofs.trees.line.Goals as goal

rises_more : (s : Snapshot) (xs ys : List Snapshot) → ys ≡ put_by name_of_snapshot s xs → find_by name_of_snapshot s.name xs ≡ None
    → Rises name_of_snapshot xs → Rises name_of_snapshot ys
rises_more s xs ys put none rises = rw put (rises_put name_of_snapshot s xs none rises)

pub loop-i-preserved : goal.loop-i-preserved
loop-i-preserved g c = rises_more _ _ _ c.in_ok-insert.ensures.ok (search rules) c.loop-i.invariant
