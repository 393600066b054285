-- Counts that stay at the last value of a `u64`.
use Rattle.std.specs.Prelude.{◌≡◌, ℕ, ◌+◌, ◌-◌, ◌^◌, ◌≤◌, Bool, true, false, min}

-- one more, or the last value
abbrev pub counted : ℕ → ℕ
counted n = min (n + 1) (2 ^ 64 - 1)

-- the count rose; one that stands at its last value counts as risen
abbrev pub Rose : ℕ → ℕ → Type 0
Rose old new = counted old ≤ new

-- A device's count of faults over some calls: it rose where one of them failed, and is as before where none did.
abbrev pub IsCounted : Bool → ℕ → ℕ → Type 0
IsCounted true old new = (old ≤ new) × Rose old new
IsCounted false old new = new ≡ old
