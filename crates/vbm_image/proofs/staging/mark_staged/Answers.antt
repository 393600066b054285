use Rattle.std.proofs.Common.{ℕ, sym, ap, ◌∙◌, arith}
use Rattle.vbm_volume.specs.Marks.{is_marked}
use Rattle.vbm_image.proofs.StagedMarks.{none_marked, one_marked}
use Rattle.vbm_image.proofs.StagedWords.{found_at, place_of}
use Rattle.vbm_image.proofs.staging.mark_staged.Goals as goal

pub loop-i-init : goal.loop-i-init
loop-i-init c = none_marked c.args.image.now.pending.staged c.args.used.now

pub mark-requires : goal.mark-requires
mark-requires c =
    let s : ℕ × ℕ = (c.entry-at.result.0, c.entry-at.result.1) in
    c.requires.staged.low s.0 s.1 (found_at c.args.image.now.pending.staged c.loop-i.i s c.requires.staged.once c.entry-at.ensures)

pub loop-i-preserved : goal.loop-i-preserved
loop-i-preserved c =
    one_marked c.args.image.now.pending.staged c.loop-i.i c.args.used.now c.loop-i.used c.mark.new.self
    (c.entry-at.result.0, c.entry-at.result.1) c.loop-i.invariant c.entry-at.ensures c.mark.ensures.marks c.mark.ensures.count

pub returns-clause-kept : goal.returns-clause-kept
returns-clause-kept c = c.loop-i.invariant.kept

pub returns-clause-staged : goal.returns-clause-staged
returns-clause-staged c = λ b p is.
    let found = place_of c.args.image.now.pending.staged b p is in
    ap (is_marked c.loop-i.used) (sym found.4) ∙ c.loop-i.invariant.here found.0 found.1 (omega (arith, found.2)) found.3
