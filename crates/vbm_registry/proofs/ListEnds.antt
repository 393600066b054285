-- Lists of snapshots and machines with one more at the end.
use Rattle.std.proofs.Common.{◌≡◌, ℕ, ◌+◌, List, [], ◌∷◌, ◌++◌, length, refl, ◌∙◌, arith}
use Rattle.std.proofs.lemmas.List.Sums.{sum_by_push}
use Rattle.vbm_machines.specs.declared.Snapshot.{Snapshot}
use Rattle.vbm_machines.specs.declared.Machine.{Machine}
use Rattle.vbm_registry.specs.Grammar.{lead, lead_all, ends_of, places_listed, snapshots_among, places_among}

lead_push : (at : ℕ) (before : List Snapshot) (s : Snapshot) (ends : ℕ → ℕ)
    → lead_all at (before ++ s ∷ []) ends ≡ lead (at + length before) s.parent (lead_all at before ends)
lead_push at [] s ends = let e : at + 0 ≡ at = omega arith in rw e refl
lead_push at (x ∷ before) s ends =
    let e : at + length (x ∷ before) ≡ at + 1 + length before = omega arith in
    rw e (lead_push (at + 1) before s (lead at x.parent ends))

pub ends_push : (before : List Snapshot) (s : Snapshot) → ends_of (before ++ s ∷ []) ≡ lead (length before) s.parent (ends_of before)
ends_push before s = lead_push 0 before s (λ from. from) ∙ (let e : 0 + length before ≡ length before = omega arith in rw e refl)

pub places_push : (before : List Snapshot) (s : Snapshot) → places_listed (before ++ s ∷ []) ≡ places_listed before + length s.slots
places_push before s = sum_by_push (λ (s : Snapshot). length s.slots) before s

pub machine_snapshots_push : (before : List Machine) (m : Machine)
    → snapshots_among (before ++ m ∷ []) ≡ snapshots_among before + length m.snapshots
machine_snapshots_push before m = sum_by_push (λ (m : Machine). length m.snapshots) before m

pub machine_places_push : (before : List Machine) (m : Machine)
    → places_among (before ++ m ∷ []) ≡ places_among before + places_listed m.snapshots
machine_places_push before m = sum_by_push (λ (m : Machine). places_listed m.snapshots) before m
