use Rattle.std.proofs.Common.{◌+◌, max, sym, ap, ◌∙◌, arith, take, ℕ}
use Rattle.vbm_image.specs.Settling.{allocated_with}
use Rattle.vbm_image.proofs.SettlingPlans.{take_next, allocated_push}
use Rattle.vbm_image.proofs.StagedWords.{found_at}
use Rattle.vbm_image.proofs.settling.allocated_after.Goals as goal

pub overflow_add-at : goal.overflow_add-at
overflow_add-at c =
    let s : ℕ × ℕ = (c.entry-at.result.0, c.entry-at.result.1) in
    let low = c.requires.staged.low s.0 s.1 (found_at c.args.image.now.pending.staged c.loop-i.i s c.requires.staged.once c.entry-at.ensures) in
    omega (arith, low)

pub loop-i-preserved : goal.loop-i-preserved
loop-i-preserved c =
    let staged = c.args.image.now.pending.staged in
    let s : ℕ × ℕ = (c.entry-at.result.0, c.entry-at.result.1) in
    let allocated = c.args.image.now.header.allocated in
    c.max-allocated.ensures ∙ ap (λ (t : ℕ). max t (s.1 + 1)) c.loop-i.invariant
    ∙ sym (allocated_push allocated (take c.loop-i.i staged) s)
    ∙ sym (ap (λ ss. allocated_with allocated ss) (take_next staged c.loop-i.i s c.entry-at.ensures))
