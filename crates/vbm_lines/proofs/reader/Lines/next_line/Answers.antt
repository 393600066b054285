use Rattle.std.proofs.Common.{◌≡◌, ◌≤◌, IsFalse, ap, sym, subst, ◌∙◌, arith}
use Rattle.vbm_lines.specs.Lines.{HasNoNewline}
use Rattle.vbm_lines.specs.Reader.{Reader, IsAt}
use Rattle.vbm_lines.proofs.Readers.{too_long, cut_off}
use Rattle.vbm_lines.proofs.Windows.{from_on_err}
use Rattle.vbm_lines.proofs.reader.Lines.next_line.Goals as goal

pub returns-then-self-2-clause-lines : goal.returns-then-self-2-clause-lines
returns-then-self-2-clause-lines g c told input lines at =
    let now = c.takes.invariant.lines told input lines at in
    let none : HasNoNewline c.takes.self.held =
    subst HasNoNewline (c.bytes.ensures ∙ ap (λ (r : Reader). r.held) c.self.view_is) c.in_default.ensures in
    let most = ap (λ (r : Reader). r.most) c.self.view_is in
    let taken = ap (λ (r : Reader). r.taken) c.self.view_is in (
      now,
      too_long c.takes.self input (g.S.Source.rest c.takes.source) lines now (omega (arith, most, taken, c.if-self-2.true))
          (omega (arith, most, taken, c.self.invariant.1)) none,
    )

pub returns-then-is_err-clause-lines : goal.returns-then-is_err-clause-lines
returns-then-is_err-clause-lines g c told input lines at =
    let now = c.takes.invariant.lines told input lines at in
    let same : c.take_more.new.self ≡ c.drop_long-from.new.self = from_on_err c.take_more.result c.take_more.ensures.kept c.if-is_err.ensures.value in
    let before = same ∙ c.drop_long-from.ensures.frame in
    let none : HasNoNewline c.take_more.new.self.held = subst (λ (r : Reader). HasNoNewline r.held) (sym same) c.drop_long-from.ensures.none in
    let more : IsFalse c.take_more.new.self.ended =
    ap (λ (r : Reader). r.ended) before ∙ sym (ap (λ (r : Reader). r.ended) c.self.view_is) ∙ c.if-self.false in
    let within : c.take_more.new.self.taken ≤ c.take_more.new.self.most = omega (
      arith,
      ap (λ (r : Reader). r.taken) before,
      ap (λ (r : Reader). r.most) before,
      ap (λ (r : Reader). r.taken) c.self.view_is,
      ap (λ (r : Reader). r.most) c.self.view_is,
      c.if-self-2.false,
    ) in
    let then : IsAt c.take_more.new.self input (g.S.Source.rest c.take_more.new.source) lines =
    c.take_more.ensures.lines told input lines (c.drop_long-from.ensures.lines input (g.S.Source.rest c.takes.source) lines now) in
    (then, cut_off c.take_more.new.self input (g.S.Source.rest c.take_more.new.source) lines then more within none)
