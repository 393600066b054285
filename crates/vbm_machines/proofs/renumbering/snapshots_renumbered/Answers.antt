use Rattle.std.proofs.Common.{refl}
use Rattle.vbm_named.proofs.Places.{earlier_lack_map, map_item}
use Rattle.vbm_machines.specs.Renumbering.{snapshot_renumbered}
use Rattle.vbm_machines.specs.Snapshots.{name_of_snapshot}
use Rattle.vbm_machines.proofs.renumbering.snapshots_renumbered.Goals as goal

pub push-requires : goal.push-requires
push-requires c =
    rw (c.loop-i.invariant, c.in_ok-snapshot_renumbered.ensures)
    (earlier_lack_map (snapshot_renumbered c.args.renumbering) name_of_snapshot (λ x. refl) c.args.snapshots.now c.loop-i.i c.get.result.now
    c.requires.names c.get.ensures)

pub loop-i-preserved : goal.loop-i-preserved
loop-i-preserved c =
    rw (c.in_ok-push.ensures.ok, c.loop-i.invariant, c.in_ok-snapshot_renumbered.ensures)
    (map_item (snapshot_renumbered c.args.renumbering) c.args.snapshots.now c.loop-i.i c.get.result.now c.get.ensures)
