use Rattle.std.proofs.Common.{◌≤◌, List, [], ◌∷◌, ◌++◌, length, ◌∙◌, refl, sym, ap, subst, arith, append_assoc, length-append}
use Rattle.std.proofs.lemmas.Bool.{iff_false, false≢true}
use Rattle.std.proofs.lemmas.List.Elements.{All-rest, All-same}
use Rattle.vbm_ports.specs.Files.{bytes_of}
use Rattle.vbm_ports.proofs.States.{OnlyReads-refl, OnlyReads-trans}
use Rattle.vbm_intent.specs.declared.change.Change.{Change}
use Rattle.vbm_intent.specs.Changes.{name_of, of_file, start_of, IsAllowed}
use Rattle.vbm_intent.specs.Pieces.{change_in}
use Rattle.vbm_intent.specs.Partly.{IsKept}
use Rattle.vbm_intent.proofs.Applying.{next_fits}
use Rattle.vbm_intent.proofs.Fitting.{fits_one_more, take_done, same_place, kept_before}
use Rattle.vbm_intent.proofs.check.fit.Goals as goal

pub loop-piece-init : goal.loop-piece-init
loop-piece-init g c = record {
  done = [];
  rest = sym c.again-left.ensures;
  count = omega arith;
  allowed = All-same IsAllowed _ _ c.again-left.ensures c.requires.plan.allowed;
  fits = λ told name. tt;
  reads = OnlyReads-refl g.D.Disk.tells (g.D.Disk.state c.args.disk.now);
  no_fault = refl;
}

pub begins_within-requires-clause-kept : goal.begins_within-requires-clause-kept
begins_within-requires-clause-kept g c = λ behind.
    let i = c.loop-piece.invariant in
    let next = change_in c.in-Some.piece in
    let is_next = i.rest ∙ ap (λ (l : List Change). i.done ++ l) c.in-Some.ensures.next in
    subst (λ l. IsKept (of_file (name_of next) l) (start_of next))
    (sym (take_done i.done next c.next.new.self c.again.result c.loop-piece.made (c.again.ensures ∙ is_next) i.count))
    (kept_before i.done next c.next.new.self c.args.changes.now is_next c.requires.plan behind)

pub returns-then-not-branch-clause-answer : goal.returns-then-not-branch-clause-answer
returns-then-not-branch-clause-answer g c = λ told.
    let i = c.loop-piece.invariant in
    let next = change_in c.in-Some.piece in
    let is_next = i.rest ∙ ap (λ (l : List Change). i.done ++ l) c.in-Some.ensures.next in (
      (λ yes. absurd (false≢true yes)),
      (λ fits. absurd (iff_false (c.in_ok-begins_within.ensures.answer told) c.if-not-branch.true
          (subst (λ f. start_of next ≤ length (bytes_of f))
          (sym (same_place i.done next c.next.new.self c.again.result c.loop-piece.made _ _ (c.again.ensures ∙ is_next) i.count (i.reads.files told)))
          (next_fits c.args.changes.now i.done next c.next.new.self (g.D.Disk.state c.args.disk.now).files is_next fits)))),
    )

pub loop-piece-preserved : goal.loop-piece-preserved
loop-piece-preserved g c =
    let i = c.loop-piece.invariant in
    let next = change_in c.in-Some.piece in
    let is_next = i.rest ∙ ap (λ (l : List Change). i.done ++ l) c.in-Some.ensures.next in
    record {
      done = i.done ++ next ∷ [];
      rest = is_next ∙ sym (append_assoc i.done (next ∷ []) c.next.new.self);
      count = omega (arith, i.count, length-append i.done (next ∷ []));
      allowed = All-rest IsAllowed next c.next.new.self c.loop-piece.left c.in-Some.ensures.next i.allowed;
      fits = λ told.
          fits_one_more i.done next (g.D.Disk.state c.args.disk.now).files (i.fits told)
          (subst (λ f. start_of next ≤ length (bytes_of f))
          (same_place i.done next c.next.new.self c.again.result c.loop-piece.made _ _ (c.again.ensures ∙ is_next) i.count (i.reads.files told))
          ((c.in_ok-begins_within.ensures.answer told).0 c.if-not-branch.false));
      reads = OnlyReads-trans g.D.Disk.tells _ _ _ i.reads c.begins_within.ensures.reads;
      no_fault = c.in_ok-begins_within.ensures.no_fault ∙ i.no_fault;
    }
