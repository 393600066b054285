use Rattle.std.proofs.Common.{◌≡◌, List, length, ap, arith}
use Rattle.std.specs.Prelude.{vec_capacity}
use Rattle.vbm_intent.specs.declared.change.Change.{Change}
use Rattle.vbm_intent.specs.Pieces.{change_in}
use Rattle.vbm_intent.specs.Plan.{PlanState, record_of, plan_of, body_size}
use Rattle.vbm_intent.proofs.Wholes.{whole_size, whole_count, push_done, push_spare, name_short, text_some}
use Rattle.vbm_intent.proofs.plan.Plan.push_in_room.Goals as goal

pub push_onto-requires : goal.push_onto-requires
push_onto-requires c =
    let changes : plan_of c.self.inside.text.items ≡ c.args.self.now.changes = ap (λ (p : PlanState). p.changes) c.self.view_is in
    let spare = ap (λ (p : PlanState). p.spare) c.self.view_is in
    let size = whole_size (record_of c.self.inside.text.items) (plan_of c.self.inside.text.items) c.self.invariant in
    let count = whole_count (record_of c.self.inside.text.items) (plan_of c.self.inside.text.items) c.self.invariant in
    let same = ap body_size changes in
    let same_count = ap (λ (l : List Change). length l) changes in
    record {
      head = omega (arith, c.self.invariant.whole);
      small = omega (arith, size, same, c.requires.small);
      few = omega (arith, count, same_count, c.requires.few);
      short = name_short (change_in c.args.piece.now) c.requires.allowed;
      recordable = c.requires.recordable;
      room = omega (arith, spare, c.requires.room, c.self.invariant.whole, text_some (change_in c.args.piece.now));
    }

pub invariant_of-self : goal.invariant_of-self
invariant_of-self c =
    (push_done c.self.inside.text.items c.push_onto.new.text.items c.args.self.now.changes (change_in c.args.piece.now) c.push_onto.ensures.items
    (ap (λ (p : PlanState). p.changes) c.self.view_is) c.self.invariant c.requires.allowed c.requires.apart c.requires.small c.requires.few).0

pub returns-clause-changes : goal.returns-clause-changes
returns-clause-changes c =
    (push_done c.self.inside.text.items c.push_onto.new.text.items c.args.self.now.changes (change_in c.args.piece.now) c.push_onto.ensures.items
    (ap (λ (p : PlanState). p.changes) c.self.view_is) c.self.invariant c.requires.allowed c.requires.apart c.requires.small c.requires.few).1

pub returns-clause-spare : goal.returns-clause-spare
returns-clause-spare c =
    let spare = ap (λ (p : PlanState). p.spare) c.self.view_is in
    let most = push_spare c.self.inside.text.items c.push_onto.new.text.items (change_in c.args.piece.now) (vec_capacity c.self.inside.text) (vec_capacity c.push_onto.new.text)
    c.push_onto.ensures.items (omega (arith, c.self.invariant.whole)) c.push_onto.ensures.capacity in
    omega (arith, spare, most)
