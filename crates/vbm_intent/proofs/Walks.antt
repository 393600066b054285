-- A walk over changes that decides a claim on all of them: A is the claim on what is left, Q on the next, B on those behind it.
use Rattle.std.proofs.Common.{◌≡◌, ◌↔◌, true, false}
use Rattle.std.proofs.lemmas.Bool.{false≢true}

pub goes_on : {A B C Q : Type 0} → A ↔ (Q × B) → Q → A ↔ C → B ↔ C
goes_on next here so_far = ((λ rest. so_far.0 (next.1 (here, rest))), (λ all. (next.0 (so_far.1 all)).1))

pub stops : {A B C Q : Type 0} → A ↔ (Q × B) → (Q → ⊥) → A ↔ C → (false ≡ true) ↔ C
stops next not_here so_far = ((λ yes. absurd (false≢true yes)), (λ all. absurd (not_here (next.0 (so_far.1 all)).0)))
