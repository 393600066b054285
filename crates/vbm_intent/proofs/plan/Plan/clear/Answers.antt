use Rattle.std.proofs.Common.{ℕ, ◌≤◌, List, length, ap, arith}
use Rattle.std.specs.Prelude.{vec_capacity}
use Rattle.vbm_intent.specs.Plan.{PlanState, plan_of, body_size, spare_in}
use Rattle.vbm_intent.proofs.Wholes.{clear_spare}
use Rattle.vbm_intent.proofs.plan.Plan.clear.Goals as goal

pub returns-clause-spare : goal.returns-clause-spare
returns-clause-spare c =
    let text = c.self.inside.text in
    let room : length text.items ≤ vec_capacity text = omega (arith, text.ok.0, text.ok.1) in
    let more = clear_spare text.items (plan_of text.items) (vec_capacity text) (vec_capacity c.clear.new.self) c.self.invariant room (omega (arith, c.clear.ensures.capacity)) in
    let empty = ap (λ (l : List ℕ). spare_in (vec_capacity c.clear.new.self) l) c.clear.ensures.items in
    let spare = ap (λ (p : PlanState). p.spare) c.self.view_is in
    let body = ap (λ (p : PlanState). body_size p.changes) c.self.view_is in
    omega (arith, more, empty, spare, body)
