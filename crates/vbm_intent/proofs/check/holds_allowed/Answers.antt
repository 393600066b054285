use Rattle.std.proofs.lemmas.Bool.{iff_false, false≢true}
use Rattle.vbm_intent.specs.Pieces.{change_in}
use Rattle.vbm_intent.proofs.Allowed.{holds_next, holds_none}
use Rattle.vbm_intent.proofs.Walks.{goes_on, stops}
use Rattle.vbm_intent.proofs.check.holds_allowed.Goals as goal

pub returns-in_default : goal.returns-in_default
returns-in_default c = (
  (λ yes. absurd (false≢true yes)),
  (λ all. absurd (holds_none c.loop-left.left c.loop-left.rest.now c.loop-left-test.true c.in_default.ensures.parts (c.loop-left.invariant.1 all))),
)

pub returns-then-not-is_allowed : goal.returns-then-not-is_allowed
returns-then-not-is_allowed c =
    stops
    (holds_next c.loop-left.left c.loop-left.rest.now (change_in c.in-Some.piece) c.in-Some.next.now c.loop-left-test.true c.in-Some.ensures.parts)
    (iff_false c.is_allowed.ensures c.if-not-is_allowed.true) c.loop-left.invariant

pub loop-left-preserved : goal.loop-left-preserved
loop-left-preserved c =
    goes_on
    (holds_next c.loop-left.left c.loop-left.rest.now (change_in c.in-Some.piece) c.in-Some.next.now c.loop-left-test.true c.in-Some.ensures.parts)
    (c.is_allowed.ensures.0 c.if-not-is_allowed.false) c.loop-left.invariant
