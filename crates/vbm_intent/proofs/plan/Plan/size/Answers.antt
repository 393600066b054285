use Rattle.std.proofs.Common.{◌∙◌, ap}
use Rattle.vbm_intent.specs.Plan.{PlanState, plan_of, body_size}
use Rattle.vbm_intent.proofs.Wholes.{size_shown}
use Rattle.vbm_intent.proofs.plan.Plan.size.Goals as goal

pub returns : goal.returns
returns c =
    c.saturating_sub.ensures
    ∙ size_shown c.self.inside.text.items (plan_of c.self.inside.text.items) c.len.result c.self.invariant (c.len.ensures ∙ c.self.inside.text.ok.0)
    ∙ ap (λ (p : PlanState). body_size p.changes) c.self.view_is
