use Rattle.std.proofs.Common.{◌≡◌, ap, sym, ◌∙◌, ◌++◌, ◌∷◌, []}
use Rattle.std.proofs.lemmas.Bool.{ne_eqb}
use Rattle.vbm_lines.specs.Window.{without_return}
use Rattle.vbm_lines.proofs.Splits.{without_return-is, without_return-other}
use Rattle.vbm_lines.proofs.window.strip_return.Goals as goal

pub returns-in-Some : goal.returns-in-Some
returns-in-Some c =
    let ends : c.args.line.now ≡ c.in-Some.front.now ++ 13 ∷ [] =
    c.in-Some.ensures.cases.0 ∙ ap (λ b. c.in-Some.front.now ++ b ∷ []) c.if-last-eq13.true in
    sym (ap without_return ends ∙ without_return-is c.in-Some.front.now)

pub returns-in_default : goal.returns-in_default
returns-in_default c =
    let ends : c.args.line.now ≡ c.in-Some.front.now ++ c.in-Some.last.now ∷ [] = c.in-Some.ensures.cases.0 in
    ends ∙ sym (ap without_return ends ∙ without_return-other c.in-Some.front.now c.in-Some.last.now (ne_eqb _ _ c.if-last-eq13.false))
