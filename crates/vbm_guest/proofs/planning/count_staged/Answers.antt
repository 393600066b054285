use Rattle.std.proofs.Common.{◌≡◌, ◌+◌, List, length, take, ap, ◌∙◌, arith}
use Rattle.vbm_image.specs.declared.image.Image.{Image}
use Rattle.vbm_guest.specs.Flushing.{staged_in}
use Rattle.vbm_guest.proofs.StagedCounts.{take_image, staged_push, staged_first}
use Rattle.vbm_guest.proofs.planning.count_staged.Goals as goal

pub overflow_cast-count : goal.overflow_cast-count
overflow_cast-count c =
    omega (arith, staged_first c.args.images.now.items c.loop-i.i c.get.result.now c.get.ensures, c.requires, c.len.ensures)

pub overflow_add-count : goal.overflow_add-count
overflow_add-count c =
    omega (arith, staged_first c.args.images.now.items c.loop-i.i c.get.result.now c.get.ensures, c.requires, c.len.ensures, c.loop-i.invariant)

pub loop-i-preserved : goal.loop-i-preserved
loop-i-preserved c =
    let images : List Image = c.args.images.now.items in
    let next : staged_in (take (c.loop-i.i + 1) images) ≡ staged_in (take c.loop-i.i images) + length c.get.result.now.pending.staged =
    ap staged_in (take_image images c.loop-i.i c.get.result.now c.get.ensures) ∙ staged_push (take c.loop-i.i images) c.get.result.now in
    omega (arith, next, c.loop-i.invariant, c.len.ensures)
