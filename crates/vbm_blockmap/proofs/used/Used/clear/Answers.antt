use Rattle.std.proofs.Common.{◌∙◌, arith}
use Rattle.vbm_blockmap.specs.declared.used.TheConstants.{POSITION_LIMIT}
use Rattle.vbm_blockmap.proofs.Counting.{marked_below-none}
use Rattle.vbm_blockmap.proofs.used.Used.clear.Goals as goal

pub invariant_of-self : goal.invariant_of-self
invariant_of-self c =
    (c.clear.ensures.room ∙ c.self.invariant.0, marked_below-none c.clear.new.self POSITION_LIMIT c.clear.ensures.empty, λ p low. absurd (omega (arith, low)))

pub returns-clause-count : goal.returns-clause-count
returns-clause-count c = marked_below-none c.clear.new.self POSITION_LIMIT c.clear.ensures.empty
