use Rattle.std.proofs.Common.{◌≡◌, ◌==◌, ◌++◌, cond, map, take, drop}
use Rattle.vbm_registry.proofs.parents.lead_from.Given as goal

-- the places so far are led on
abbrev pub invariant-loop-place : goal.invariant-loop-place
invariant-loop-place l = l.ends ≡ map (λ place. cond (place == l.at) l.end place) (take l.place-index l.fn.ends) ++ drop l.place-index l.fn.ends
