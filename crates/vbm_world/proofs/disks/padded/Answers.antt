use Rattle.std.proofs.Common.{ℕ, List, set, replicate, ap, ◌∙◌, arith}
use Rattle.vbm_world.proofs.DisksMade.{set_next}
use Rattle.vbm_world.proofs.disks.padded.Goals as goal

pub loop-i-preserved : goal.loop-i-preserved
loop-i-preserved c = c.set.ensures
    ∙ ap (λ (l : List (List ℕ)). set l c.loop-i.i c.get.result.now) c.loop-i.invariant
    ∙ set_next c.args.disk.now (replicate 512 0) c.args.long c.loop-i.i c.get.result.now c.get.ensures (omega arith)
