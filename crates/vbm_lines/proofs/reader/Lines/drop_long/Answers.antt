use Rattle.std.proofs.Common.{◌+◌, ◌<◌, length, ap, subst, arith}
use Rattle.vbm_lines.specs.declared.lines.TheConstants.{LONGEST_LINE}
use Rattle.vbm_lines.specs.Reader.{Reader, IsAt}
use Rattle.vbm_lines.proofs.Readers.{dropped, moved}
use Rattle.vbm_lines.proofs.reader.Lines.drop_long.Goals as goal

pub returns-then-len-ge-ABOVE-clause-lines : goal.returns-then-len-ge-ABOVE-clause-lines
returns-then-len-ge-ABOVE-clause-lines c input rest lines at =
    let bytes = ap (λ (r : Reader). r.held) c.self.view_is in
    let long : LONGEST_LINE + 1 < length c.args.self.now.held = omega (arith, c.len.ensures, ap length bytes, c.if-len-ge-ABOVE.true) in
    subst (λ (r : Reader). IsAt r input rest lines) (moved _ _ _ _ _ _ _ _ _ c.self.view_is c.clear.ensures)
    (dropped c.args.self.now input rest lines at long c.requires)
