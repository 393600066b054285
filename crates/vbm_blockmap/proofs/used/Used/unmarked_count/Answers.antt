use Rattle.std.proofs.Common.{ap, arith}
use Rattle.vbm_blockmap.specs.Used.{marked_count}
use Rattle.vbm_blockmap.specs.declared.used.TheConstants.{POSITION_LIMIT}
use Rattle.vbm_blockmap.proofs.Counting.{marked_below-≤}
use Rattle.vbm_blockmap.proofs.used.Used.unmarked_count.Goals as goal

pub overflow_sub-result : goal.overflow_sub-result
overflow_sub-result c =
    let most = marked_below-≤ c.self.inside.marks POSITION_LIMIT in
    let count = c.self.invariant.1 in
    omega (arith, most, count)

pub returns : goal.returns
returns c =
    let most = marked_below-≤ c.self.inside.marks POSITION_LIMIT in
    let count = c.self.invariant.1 in
    let same = ap marked_count c.self.view_is in
    omega (arith, most, count, same)
