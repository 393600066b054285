use Rattle.std.proofs.Common.{arith, not, ap, sym}
use Rattle.vbm_volume.proofs.Distinct.{is_distinct-increasing, is_distinct-repeat}
use Rattle.vbm_volume.proofs.positions.has_repeat.Goals as goal

pub returns-then-sorted-i : goal.returns-then-sorted-i
returns-then-sorted-i c =
    ap not (sym (is_distinct-repeat c.args.sorted.now c.loop-i.i (omega arith) (omega arith) c.if-sorted-i.true))

pub returns : goal.returns
returns c = ap not (sym (is_distinct-increasing c.args.sorted.now (λ k h. c.loop-i.invariant k (omega arith))))
