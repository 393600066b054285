use Rattle.std.proofs.Common.{◌≡◌, ◌+◌, ℕ, List, false, ap, sym, ◌∙◌}
use Rattle.vbm_volume.specs.Marks.{is_marked}
use Rattle.vbm_blockmap.specs.Used.{marked_count}
use Rattle.vbm_blockmap.specs.declared.used.TheConstants.{POSITION_LIMIT}
use Rattle.vbm_blockmap.proofs.Counting.{marked_below-more}
use Rattle.vbm_blockmap.proofs.used.Used.take.Goals as goal

pub returns-clause-count : goal.returns-clause-count
returns-clause-count c =
    let at : ℕ = c.least_unmarked-at.result in
    let unmarked : is_marked c.self.inside.marks at ≡ false = ap (λ bits. is_marked bits at) (sym c.words.ensures) ∙ c.least_unmarked-at.ensures.least.unmarked in
    marked_below-more c.self.inside.marks c.mark.new.self at POSITION_LIMIT c.mark.ensures.marks unmarked c.least_unmarked-at.ensures.low
    ∙ ap (λ (bits : List ℕ). marked_count bits + 1) c.self.view_is
