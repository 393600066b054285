use Rattle.std.proofs.Common.{◌≡◌, ◌<◌, ℕ, None}
use Rattle.vbm_chain.specs.Links.{fault_at}
use Rattle.vbm_chain.proofs.links.check_links.Given as goal

-- the headers so far have no fault
abbrev pub invariant-loop-i : goal.invariant-loop-i
invariant-loop-i l = (k : ℕ) → k < l.i → fault_at l.headers k ≡ None
