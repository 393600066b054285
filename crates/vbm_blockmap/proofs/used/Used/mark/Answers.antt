use Rattle.std.proofs.Common.{◌+◌, ap, sym, ◌∙◌, arith}
use Rattle.vbm_blockmap.specs.Used.{marked_count}
use Rattle.vbm_blockmap.specs.declared.used.TheConstants.{POSITION_LIMIT}
use Rattle.vbm_blockmap.proofs.Counting.{marked_below-again, marked_below-mark, marked_below-more, marked_below-≤, not_false, not_true}
use Rattle.vbm_blockmap.proofs.Marking.{still_full}
use Rattle.vbm_blockmap.proofs.used.Used.mark.Goals as goal

pub overflow_add-self : goal.overflow_add-self
overflow_add-self c =
    let unmarked = not_true _ (sym c.mark.ensures.fresh ∙ c.if-mark.true) in
    let more = marked_below-more c.self.inside.marks c.mark.new.self c.args.p POSITION_LIMIT c.mark.ensures.more unmarked c.requires in
    let most = marked_below-≤ c.mark.new.self POSITION_LIMIT in
    let count = c.self.invariant.1 in
    omega (arith, more, most, count)

pub invariant_of-self : goal.invariant_of-self
invariant_of-self c =
    let unmarked = not_true _ (sym c.mark.ensures.fresh ∙ c.if-mark.true) in
    let more = marked_below-more c.self.inside.marks c.mark.new.self c.args.p POSITION_LIMIT c.mark.ensures.more unmarked c.requires in (
      c.mark.ensures.room ∙ c.self.invariant.0,
      more ∙ ap (λ n. n + 1) c.self.invariant.1,
      still_full c.self.inside.marks c.mark.new.self c.args.p c.self.inside.from c.mark.ensures.more c.self.invariant.2,
    )

pub invariant_of-self-else-mark : goal.invariant_of-self-else-mark
invariant_of-self-else-mark c =
    let was = not_false _ (sym c.mark.ensures.fresh ∙ c.if-mark.false) in (
      c.mark.ensures.room ∙ c.self.invariant.0,
      marked_below-again c.self.inside.marks c.mark.new.self c.args.p POSITION_LIMIT c.mark.ensures.more was ∙ c.self.invariant.1,
      still_full c.self.inside.marks c.mark.new.self c.args.p c.self.inside.from c.mark.ensures.more c.self.invariant.2,
    )

pub returns-then-mark-clause-count : goal.returns-then-mark-clause-count
returns-then-mark-clause-count c =
    let most = marked_below-mark c.self.inside.marks c.mark.new.self c.args.p POSITION_LIMIT c.mark.ensures.more c.requires in
    let same = ap marked_count c.self.view_is in
    omega (arith, most, same)

pub returns-else-mark-clause-count : goal.returns-else-mark-clause-count
returns-else-mark-clause-count c =
    let most = marked_below-mark c.self.inside.marks c.mark.new.self c.args.p POSITION_LIMIT c.mark.ensures.more c.requires in
    let same = ap marked_count c.self.view_is in
    omega (arith, most, same)
