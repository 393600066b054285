use Rattle.std.proofs.Common.{take, map}
use Rattle.std.proofs.lemmas.List.{map_more}
use Rattle.vbm_world.specs.Texts.{snapshot_word}
use Rattle.vbm_script.proofs.Spaces.{grow}
use Rattle.vbm_script.proofs.answers.put_snapshots.Goals as goal

pub loop-snapshot-preserved : goal.loop-snapshot-preserved
loop-snapshot-preserved c =
    let more = map_more snapshot_word c.args.snapshots.now c.loop-snapshot.snapshot-index c.snapshot-item.result c.loop-snapshot-test.true in
    let grown = grow (map snapshot_word (take c.loop-snapshot.snapshot-index c.args.snapshots.now)) (snapshot_word c.snapshot-item.result) c.args.line.now.items in
    cc c.in_ok-put_snapshot.ensures
