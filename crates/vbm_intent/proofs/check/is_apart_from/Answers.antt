use Rattle.std.proofs.lemmas.List.Elements.{All-rest}
use Rattle.vbm_intent.specs.Changes.{IsAllowed}
use Rattle.vbm_intent.specs.Pieces.{change_in}
use Rattle.vbm_intent.proofs.Apart.{apart_next}
use Rattle.vbm_intent.proofs.Walks.{goes_on}
use Rattle.vbm_intent.proofs.check.is_apart_from.Goals as goal

pub loop-other-preserved : goal.loop-other-preserved
loop-other-preserved c =
    let next = change_in c.in-Some.other in
    record {
      allowed = All-rest IsAllowed next c.next.new.self c.loop-other.left c.in-Some.ensures.next c.loop-other.invariant.allowed;
      so_far = goes_on (apart_next (change_in c.args.piece.now) next c.next.new.self c.loop-other.left c.in-Some.ensures.next)
          (c.are_apart.ensures.0 c.if-not-are_apart.false) c.loop-other.invariant.so_far;
    }
