use Rattle.std.proofs.Common.{ap, not, ◌∙◌}
use Rattle.std.proofs.lemmas.List.Sorted.{IsNonDecreasingBy-from_sort}
use Rattle.vbm_volume.proofs.Distinct.{is_distinct-IsPermutation}
use Rattle.vbm_volume.proofs.positions.has_twice.Goals as goal

pub has_repeat-requires : goal.has_repeat-requires
has_repeat-requires c = IsNonDecreasingBy-from_sort (λ x. x) _ c.sort_unstable.ensures.sorted

pub returns : goal.returns
returns c = c.has_repeat.ensures ∙ ap not (is_distinct-IsPermutation _ _ c.sort_unstable.ensures.permutation)
