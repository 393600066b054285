use Rattle.std.proofs.Common.{refl}
use Rattle.vbm_named.proofs.Places.{earlier_lack_map, map_item}
use Rattle.vbm_machines.specs.declared.Snapshot.{Snapshot}
use Rattle.vbm_machines.specs.Renumbering.{place_or_heir}
use Rattle.vbm_machines.specs.Snapshots.{name_of_snapshot}
use Rattle.vbm_machines.proofs.snapshots.parents_renumbered.Goals as goal

pub push-requires : goal.push-requires
push-requires c =
    rw (c.loop-i.invariant, c.in_ok-with_parent.ensures)
    (earlier_lack_map (λ (s : Snapshot). record s { parent = place_or_heir c.args.renumbering c.args.heir s.parent }) name_of_snapshot (λ s. refl)
    c.args.snapshots.now c.loop-i.i c.get-snapshot.result.now c.requires.names c.get-snapshot.ensures)

pub loop-i-preserved : goal.loop-i-preserved
loop-i-preserved c =
    rw (c.in_ok-push.ensures.ok, c.loop-i.invariant, c.in_ok-with_parent.ensures, c.place_or_heir-parent.ensures)
    (map_item (λ (s : Snapshot). record s { parent = place_or_heir c.args.renumbering c.args.heir s.parent }) c.args.snapshots.now c.loop-i.i
    c.get-snapshot.result.now c.get-snapshot.ensures)
