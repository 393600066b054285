use Rattle.std.proofs.Common.{◌≡◌}
use Rattle.vbm_world.specs.Snapshots.{deleted}
use Rattle.vbm_world.specs.Seen.{seen}
use Rattle.vbm_world.proofs.DeletingParts.{deleted_is}
use Rattle.vbm_world.proofs.Stepping.{ok_is}
use Rattle.vbm_world.proofs.deleting.deleted.Goals as goal

pub returns-clause-world : goal.returns-clause-world
returns-clause-world c =
    let media = rw c.as_slice.ensures at c.in_ok-media.ensures in
    let machines = rw c.as_slice-2.ensures at c.in_ok-machines.ensures in
    ok_is c.rebuilt.result _ (λ new. seen new ≡ deleted (seen c.args.world.now) c.args.machine.now c.args.gone.now) c.rebuilt.ensures
    (deleted_is (seen c.args.world.now) c.args.machine.now c.args.gone.now c.in_ok-less.less _ _ _ c.args.bases.now c.inner_count-inner.result
    c.in_ok-less.ensures c.in_ok-after.ensures c.requires.bases c.inner_count-inner.ensures media machines)
