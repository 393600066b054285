use Rattle.std.proofs.Common.{◌≡◌, ◌≤◌, ◌⊎◌, ℕ, List, length, take, IsFalse}
use Rattle.vbm_lines.specs.Lines.{HasNoNewline, Line}
use Rattle.vbm_lines.specs.Reader.{IsAt, left_over}
use Rattle.vbm_lines.specs.Steps.{turns}
use Rattle.vbm_lines.proofs.reader.Lines.next_line.Given as goal

abbrev pub invariant-takes : goal.invariant-takes
invariant-takes g l = record {
  lines : g.S.Source.tells → (input : List ℕ) (lines : List Line) → IsAt l.fn.self input (g.S.Source.rest l.fn.source) lines
      → IsAt l.self input (g.S.Source.rest l.source) lines;
  within : l.from ≤ length l.self.held;
  searched : HasNoNewline (take l.from l.self.held);
  most : l.self.most ≡ l.fn.self.most;
  left : left_over l.self ≤ left_over l.fn.self;
  faults : g.S.Source.faults l.source ≡ g.S.Source.faults l.fn.source;
  taken : ((l.self ≡ l.fn.self) × (l.source ≡ l.fn.source)) ⊎ (HasNoNewline l.fn.self.held × IsFalse l.fn.self.ended);
}

abbrev pub decreases-takes : goal.decreases-takes
decreases-takes g l = turns l.self
