use Rattle.std.proofs.Common.{inl, inr, refl, sym, ◌∙◌, ap, subst}
use Rattle.std.proofs.lemmas.Bool.{iff_false, false≢true}
use Rattle.vbm_intent.specs.Changes.{IsAllowed}
use Rattle.vbm_intent.specs.Pieces.{change_in}
use Rattle.vbm_intent.specs.Check.{AreApart}
use Rattle.vbm_intent.specs.Index.{place_of, IsIn}
use Rattle.vbm_intent.proofs.Members.{chain_end}
use Rattle.vbm_intent.proofs.Indexed.{allowed_in, InTurn, chain_apart}
use Rattle.vbm_intent.proofs.index.neighbours_apart.Goals as goal

pub comes_before-requires-clause-first_allowed : goal.comes_before-requires-clause-first_allowed
comes_before-requires-clause-first_allowed c =
    subst IsAllowed (sym c.in_ok-one.ensures.change)
    (allowed_in c.args.body.now c.args.index.now c.requires c.loop-entry.before.now (c.loop-entry.invariant.within c.loop-entry.before.now (inl refl)))

pub comes_before-requires-clause-second_allowed : goal.comes_before-requires-clause-second_allowed
comes_before-requires-clause-second_allowed c =
    let entry = c.in-Some-split_first.entry.now in
    subst IsAllowed (sym c.in_ok-other.ensures.change)
    (allowed_in c.args.body.now c.args.index.now c.requires entry
    (c.loop-entry.invariant.within entry (inr (subst (λ l. IsIn l entry) (sym c.in-Some-split_first.ensures.cases.0) (inl refl)))))

pub are_apart-requires-clause-first_allowed : goal.are_apart-requires-clause-first_allowed
are_apart-requires-clause-first_allowed c =
    subst IsAllowed (sym c.in_ok-one.ensures.change)
    (allowed_in c.args.body.now c.args.index.now c.requires c.loop-entry.before.now (c.loop-entry.invariant.within c.loop-entry.before.now (inl refl)))

pub are_apart-requires-clause-second_allowed : goal.are_apart-requires-clause-second_allowed
are_apart-requires-clause-second_allowed c =
    let entry = c.in-Some-split_first.entry.now in
    subst IsAllowed (sym c.in_ok-other.ensures.change)
    (allowed_in c.args.body.now c.args.index.now c.requires entry
    (c.loop-entry.invariant.within entry (inr (subst (λ l. IsIn l entry) (sym c.in-Some-split_first.ensures.cases.0) (inl refl)))))

pub returns-then-not-comes_before : goal.returns-then-not-comes_before
returns-then-not-comes_before c =
    let before = c.loop-entry.before.now in
    let entry = c.in-Some-split_first.entry.now in (
      (λ hit. absurd (false≢true hit)),
      (λ apart. absurd (iff_false c.are_apart.ensures c.if-are_apart.false
          (subst (λ x. AreApart x (change_in c.in_ok-other.other)) (sym c.in_ok-one.ensures.change)
          (subst (AreApart _) (sym c.in_ok-other.ensures.change)
          (apart before entry (c.loop-entry.invariant.within before (inl refl))
          (c.loop-entry.invariant.within entry (inr (subst (λ l. IsIn l entry) (sym c.in-Some-split_first.ensures.cases.0) (inl refl))))
          (λ same. c.if-place.false (c.place.ensures ∙ ap place_of same ∙ sym c.place-then-not-comes_before.ensures))))))),
    )

pub returns : goal.returns
returns c = (
  (λ hit. chain_apart c.args.body.now c.args.index.now c.requires (c.loop-entry.invariant.chain
      (chain_end (InTurn c.args.body.now) c.loop-entry.before.now c.loop-entry.rest.now c.in_default-split_first.ensures.cases))),
  (λ apart. refl),
)
