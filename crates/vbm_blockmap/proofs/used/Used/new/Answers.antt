use Rattle.std.proofs.Common.{arith}
use Rattle.vbm_blockmap.specs.declared.used.TheConstants.{POSITION_LIMIT}
use Rattle.vbm_blockmap.proofs.Counting.{marked_below-none}
use Rattle.vbm_blockmap.proofs.used.Used.new.Goals as goal

pub invariant_of-result : goal.invariant_of-result
invariant_of-result c =
    (c.in_ok-marks.ensures.room, marked_below-none c.in_ok-marks.marks POSITION_LIMIT c.in_ok-marks.ensures.empty, λ p low. absurd (omega (arith, low)))

pub returns-clause-count : goal.returns-clause-count
returns-clause-count c = marked_below-none c.in_ok-marks.marks POSITION_LIMIT c.in_ok-marks.ensures.empty
