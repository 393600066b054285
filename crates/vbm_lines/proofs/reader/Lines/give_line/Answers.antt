use Rattle.std.proofs.Common.{◌≡◌, ℕ, ◌+◌, List, drop, take, Bool, ap, subst, ◌∙◌}
use Rattle.vbm_lines.specs.Reader.{Reader, GivesLine}
use Rattle.vbm_lines.specs.Steps.{IsNext}
use Rattle.vbm_lines.specs.Window.{without_return}
use Rattle.vbm_lines.proofs.Readers.{gives_line, moved}
use Rattle.vbm_lines.proofs.reader.Lines.give_line.Goals as goal

pub returns-clause-lines : goal.returns-clause-lines
returns-clause-lines c input rest lines at =
    let bytes = ap (λ (r : Reader). r.held) c.self.view_is in
    let skipping = ap (λ (r : Reader). r.skipping) c.self.view_is in
    let line : c.strip_return-line.result.now ≡ without_return (take c.args.at c.args.self.now.held) =
    c.strip_return-line.ensures ∙ ap (λ (xs : List ℕ). without_return (take c.args.at xs)) (c.bytes.ensures ∙ bytes) in
    let is : IsNext c.in_ok-next.next c.args.self.now.skipping (without_return (take c.args.at c.args.self.now.held)) =
    subst (λ (b : Bool). IsNext c.in_ok-next.next b (without_return (take c.args.at c.args.self.now.held))) skipping
    (subst (λ (xs : List ℕ). IsNext c.in_ok-next.next c.self.inside.skipping xs) line c.in_ok-next.ensures) in
    subst (λ (r : Reader). GivesLine c.in_ok-next.next r input rest lines)
    (moved _ _ _ _ _ _ _ _ _ c.self.view_is (c.drop_front.ensures ∙ ap (drop (c.args.at + 1)) bytes))
    (gives_line c.args.self.now input rest lines at c.args.at c.in_ok-next.next c.requires is)
