use Rattle.std.proofs.Common.{◌≡◌, ℕ, ◌-◌, ◌∙◌, length, ap}
use Rattle.std.specs.Prelude.{vec_capacity}
use Rattle.vbm_intent.specs.Plan.{PlanState, record_of}
use Rattle.vbm_intent.proofs.Sets.{has_write, plan_fits, plan_long, plan_set, plan_whole}
use Rattle.vbm_intent.proofs.plan.Plan.set.Goals as goal

pub place_in-place-requires-clause-write : goal.place_in-place-requires-clause-write
place_in-place-requires-clause-write c =
    has_write c.self.inside.text.items c.record_text.result.now c.self.inside.text.items c.args.self.now.changes c.args.change c.args.from 0 c.args.bytes.now
    c.record_text.ensures (ap (λ (p : PlanState). p.changes) c.self.view_is) c.requires.write

pub put_at-requires : goal.put_at-requires
put_at-requires c =
    plan_fits c.self.inside.text.items c.record_text.result.now c.self.inside.text.items c.args.self.now.changes c.args.change c.args.from c.place_in-place.result c.args.bytes.now
    c.record_text.ensures (ap (λ (p : PlanState). p.changes) c.self.view_is) c.requires.write c.place_in-place.ensures

pub invariant_of-self : goal.invariant_of-self
invariant_of-self c =
    plan_whole c.self.inside.text.items c.record_text.result.now c.put_at.new.text.items c.args.self.now.changes c.args.change c.args.from c.place_in-place.result c.args.bytes.now
    c.record_text.ensures (ap (λ (p : PlanState). p.changes) c.self.view_is) c.requires.write c.place_in-place.ensures c.put_at.ensures.items c.self.invariant

pub returns-clause-set : goal.returns-clause-set
returns-clause-set c =
    plan_set c.self.inside.text.items c.record_text.result.now c.put_at.new.text.items c.args.self.now.changes c.args.change c.args.from c.place_in-place.result c.args.bytes.now
    c.record_text.ensures (ap (λ (p : PlanState). p.changes) c.self.view_is) c.requires.write c.place_in-place.ensures c.put_at.ensures.items c.self.invariant

pub returns-clause-spare : goal.returns-clause-spare
returns-clause-spare c =
    let long : length (record_of c.put_at.new.text.items) ≡ length (record_of c.self.inside.text.items) = plan_long c.self.inside.text.items c.record_text.result.now c.put_at.new.text.items c.args.self.now.changes c.args.change c.args.from c.place_in-place.result c.args.bytes.now
    c.record_text.ensures (ap (λ (p : PlanState). p.changes) c.self.view_is) c.requires.write c.place_in-place.ensures c.put_at.ensures.items c.self.invariant in
    ap (λ (n : ℕ). vec_capacity c.put_at.new.text - n) long
    ∙ ap (λ (n : ℕ). n - length (record_of c.self.inside.text.items)) c.put_at.ensures.capacity
    ∙ ap (λ (p : PlanState). p.spare) c.self.view_is
