use Rattle.std.proofs.Common.{◌⊎◌, inl, inr, ℕ, ◌<◌, List, length, Bool, IsTrue, ap, sym, subst, ◌∙◌, arith}
use Rattle.vbm_lines.specs.Reader.{Reader, GivesLine}
use Rattle.vbm_lines.specs.Steps.{IsNext}
use Rattle.vbm_lines.proofs.Readers.{gives_last, moved}
use Rattle.vbm_lines.proofs.reader.Lines.give_last.Goals as goal
use Rattle.vbm_lines.proofs.reader.Lines.give_last.Goals.{else-len-eq0-via-then-len-eq0+else-not-self, else-len-eq0-via-else-len-eq0}

pub returns-clause-lines : goal.returns-clause-lines
returns-clause-lines c input rest lines at =
    let bytes = ap (λ (r : Reader). r.held) c.self.view_is in
    let skipping = ap (λ (r : Reader). r.skipping) c.self.view_is in
    let is : IsNext c.in_ok-next.next c.args.self.now.skipping c.args.self.now.held =
    subst (λ (b : Bool). IsNext c.in_ok-next.next b c.args.self.now.held) skipping
    (subst (λ (xs : List ℕ). IsNext c.in_ok-next.next c.self.inside.skipping xs) (c.bytes.ensures ∙ bytes) c.in_ok-next.ensures) in
    let some : (0 < length c.args.self.now.held) ⊎ IsTrue c.args.self.now.skipping = elim c.else-len-eq0.branch [
      | else-len-eq0-via-then-len-eq0+else-not-self w ↦ inr (sym skipping ∙ w.if-not-self.false)
      | else-len-eq0-via-else-len-eq0 w ↦ inl (omega (arith, w.if-len-eq0.false, c.len.ensures, ap length bytes))
    ] in
    subst (λ (r : Reader). GivesLine c.in_ok-next.next r input rest lines) (moved _ _ _ _ _ _ _ _ _ c.self.view_is c.clear.ensures)
    (gives_last c.args.self.now input rest lines at c.in_ok-next.next c.requires.ended c.requires.none is some)
