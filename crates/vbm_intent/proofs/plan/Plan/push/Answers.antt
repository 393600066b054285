use Rattle.std.proofs.Common.{◌≡◌, List, length, ◌∙◌, ap, arith}
use Rattle.vbm_intent.specs.declared.change.Change.{Change}
use Rattle.vbm_intent.specs.Plan.{PlanState, text_size, record_of, plan_of, body_size, with_change}
use Rattle.vbm_intent.proofs.Wholes.{whole_size, whole_count, push_done, name_short}
use Rattle.vbm_intent.proofs.plan.Plan.push.Goals as goal

pub push_onto-requires-clause-small : goal.push_onto-requires-clause-small
push_onto-requires-clause-small c =
    let changes : plan_of c.self.inside.text.items ≡ c.args.self.now.changes = ap (λ (p : PlanState). p.changes) c.self.view_is in
    let text : length (record_of c.reserve_in.new.text.items) ≡ length (record_of c.self.inside.text.items) = ap (λ l. length (record_of l)) c.reserve_in.ensures.items in
    let size = whole_size (record_of c.self.inside.text.items) (plan_of c.self.inside.text.items) c.self.invariant in
    let same = ap body_size changes in
    let pushed = ap text_size c.piece-piece.ensures in
    omega (arith, text, size, same, pushed, c.requires.small)

pub push_onto-requires-clause-few : goal.push_onto-requires-clause-few
push_onto-requires-clause-few c =
    let changes : plan_of c.self.inside.text.items ≡ c.args.self.now.changes = ap (λ (p : PlanState). p.changes) c.self.view_is in
    let count = whole_count (record_of c.self.inside.text.items) (plan_of c.self.inside.text.items) c.self.invariant in
    let same = ap (λ (l : List Change). length l) changes in
    rw c.reserve_in.ensures.items (omega (arith, count, same, c.requires.few))

pub push_onto-requires-clause-short : goal.push_onto-requires-clause-short
push_onto-requires-clause-short c = rw c.piece-piece.ensures (name_short c.args.change c.requires.allowed)

pub invariant_of-self-2 : goal.invariant_of-self-2
invariant_of-self-2 c =
    (push_done c.self.inside.text.items c.push_onto.new.text.items c.args.self.now.changes c.args.change
    (c.push_onto.ensures.items ∙ (λ i. with_change (record_of (c.reserve_in.ensures.items i)) (c.piece-piece.ensures i)))
    (ap (λ (p : PlanState). p.changes) c.self.view_is) c.self.invariant c.requires.allowed c.requires.apart c.requires.small c.requires.few).0

pub returns-clause-ok : goal.returns-clause-ok
returns-clause-ok c =
    (push_done c.self.inside.text.items c.push_onto.new.text.items c.args.self.now.changes c.args.change
    (c.push_onto.ensures.items ∙ (λ i. with_change (record_of (c.reserve_in.ensures.items i)) (c.piece-piece.ensures i)))
    (ap (λ (p : PlanState). p.changes) c.self.view_is) c.self.invariant c.requires.allowed c.requires.apart c.requires.small c.requires.few).1
