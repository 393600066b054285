use Rattle.std.proofs.Common.{sym, subst}
use Rattle.std.proofs.lemmas.Bool.{iff_false}
use Rattle.std.proofs.lemmas.List.Elements.{All-rest, All-same}
use Rattle.vbm_intent.specs.Changes.{name_of, of_file, IsAllowed, ApartFrom}
use Rattle.vbm_intent.specs.Pieces.{change_in}
use Rattle.vbm_intent.proofs.Apart.{all_apart_next}
use Rattle.vbm_intent.proofs.Walks.{goes_on, stops}
use Rattle.vbm_intent.proofs.check.all_apart.Goals as goal

pub is_apart_from-requires-clause-all_allowed : goal.is_apart_from-requires-clause-all_allowed
is_apart_from-requires-clause-all_allowed c =
    All-same IsAllowed _ _ c.again.ensures
    (All-rest IsAllowed (change_in c.in-Some.piece) c.next.new.self c.loop-piece.left c.in-Some.ensures.next c.loop-piece.invariant.allowed)

pub returns-then-not-is_apart_from : goal.returns-then-not-is_apart_from
returns-then-not-is_apart_from c =
    let here = change_in c.in-Some.piece in
    stops (all_apart_next here c.next.new.self c.loop-piece.left c.in-Some.ensures.next)
    (λ apart. iff_false c.is_apart_from.ensures c.if-not-is_apart_from.true
    (subst (λ l. ApartFrom here (of_file (name_of here) l)) (sym c.again.ensures) apart)) c.loop-piece.invariant.so_far

pub loop-piece-preserved : goal.loop-piece-preserved
loop-piece-preserved c =
    let here = change_in c.in-Some.piece in
    let apart = c.is_apart_from.ensures.0 c.if-not-is_apart_from.false in
    record {
      allowed = All-rest IsAllowed here c.next.new.self c.loop-piece.left c.in-Some.ensures.next c.loop-piece.invariant.allowed;
      so_far = goes_on (all_apart_next here c.next.new.self c.loop-piece.left c.in-Some.ensures.next)
          (subst (λ l. ApartFrom here (of_file (name_of here) l)) c.again.ensures apart) c.loop-piece.invariant.so_far;
    }
