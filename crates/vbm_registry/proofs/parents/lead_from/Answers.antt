use Rattle.std.proofs.Common.{◌==◌, ◌<◌, ℕ, cond, length, slice_index, arith}
use Rattle.std.proofs.lemmas.List.Edits.{map_over_more}
use Rattle.std.proofs.lemmas.List.{get_or_default}
use Rattle.vbm_registry.proofs.parents.lead_from.Goals as goal

pub loop-place-preserved : goal.loop-place-preserved
loop-place-preserved c =
    let end : ℕ = slice_index c.args.ends.now c.args.parent in
    let here : ℕ = slice_index c.loop-place.ends c.loop-place.place-index in
    let within : c.loop-place.place-index < length c.loop-place.ends = omega arith in
    let old : c.loop-place.place-index < length c.args.ends.now = omega arith in
    rw c.led.ensures
    (map_over_more (λ place. cond (place == c.args.at) end place) c.args.ends.now c.loop-place.ends c.loop-place.place-index here old c.loop-place.invariant
    (get_or_default c.loop-place.ends c.loop-place.place-index 0 here within))
