use Rattle.std.proofs.Common.{◌+◌, ◌≤◌, List, ℕ, ap, sym, subst, ◌∙◌, arith}
use Rattle.vbm_lines.specs.Reader.{Reader, IsAt}
use Rattle.vbm_lines.specs.Steps.{with_counted}
use Rattle.vbm_lines.specs.Window.{Extends}
use Rattle.vbm_lines.proofs.Readers.{more_taken}
use Rattle.vbm_lines.proofs.reader.Lines.take_more.Goals as goal

pub returns-clause-lines : goal.returns-clause-lines
returns-clause-lines g c told input lines at =
    let was = g.S.Source.rest c.args.source.now in
    let left = g.S.Source.rest c.take_more.new.source in
    let bytes = c.take_more.new.self.bytes in
    let most = ap (λ (r : Reader). r.most) c.self.view_is in
    let taken = ap (λ (r : Reader). r.taken) c.self.view_is in
    let fits : c.args.self.now.taken + c.in_ok-n.n ≤ c.args.self.now.most + 1 =
    omega (arith, c.in_ok-n.ensures.bound, most, taken, c.requires.within) in
    let took : Extends was left c.args.self.now.held bytes c.in_ok-n.n =
    subst (λ (held : List ℕ). Extends was left held bytes c.in_ok-n.n) (ap (λ (r : Reader). r.held) c.self.view_is) (c.in_ok-n.ensures.ok told) in
    subst (λ (r : Reader). IsAt r input left lines)
    (ap (λ (r : Reader). with_counted (record r { held = bytes }) c.in_ok-n.n) (sym c.self.view_is) ∙ sym c.count.ensures)
    (more_taken c.args.self.now input was lines at left bytes c.in_ok-n.n c.requires.more c.requires.within fits took)
