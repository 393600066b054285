use Rattle.std.proofs.Common.{◌≡◌, ℕ, [], ◌∷◌, ◌++◌, ◌∙◌, ap, sym, subst}
use Rattle.vbm_registry.specs.Grammar.{lead, ends_of}
use Rattle.vbm_registry.specs.Summaries.{HasEnds}
use Rattle.vbm_registry.proofs.ListEnds.{ends_push}
use Rattle.vbm_registry.proofs.parents.add_parent.Goals as goal

pub returns-clause-ends : goal.returns-clause-ends
returns-clause-ends c = λ before s len parent ends.
    let is : ends_of (before ++ s ∷ []) ≡ lead c.args.at c.args.parent (ends_of before) =
    ends_push before s ∙ ap (λ n. lead n s.parent (ends_of before)) len ∙ ap (λ p. lead c.args.at p (ends_of before)) parent in
    subst (λ (f : ℕ → ℕ). HasEnds f c.lead_on.new.ends.items) (sym is) (c.lead_on.ensures.agrees (ends_of before) ends)
