-- Counts of faults over several calls.
use Rattle.std.proofs.Common.{ℕ, ◌≤◌, Bool, true, false, subst, arith}
use Rattle.vbm_ports.specs.Counts.{IsCounted}

-- calls before which none failed
pub counted_after : (failed : Bool) (old mid new : ℕ) → IsCounted false old mid → IsCounted failed mid new → IsCounted failed old new
counted_after failed old mid new before is = subst (λ (n : ℕ). IsCounted failed n new) before is

-- a failed call, and others after it
pub counted_before : (old mid new : ℕ) → IsCounted true old mid → mid ≤ new → IsCounted true old new
counted_before old mid new is after = (omega (arith, is.0, after), omega (arith, is.1, after))

-- a count does not fall
pub counted_up : (failed : Bool) (old new : ℕ) → IsCounted failed old new → old ≤ new
counted_up true old new is = is.0
counted_up false old new is = omega (arith, is)
