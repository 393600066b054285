use Rattle.std.proofs.Common.{[], ◌∷◌}
use Rattle.vbm_lines.specs.Lines.{Short, TooLong}
use Rattle.vbm_lines.specs.declared.reader.Next.TheVariants.{Line, End, ReadFault, Spent}
use Rattle.vbm_lines.proofs.Readers.{are_read}
use Rattle.vbm_top.proofs.Going.{fewer_read}
use Rattle.vbm_top.proofs.Turned.{gives_as}
use Rattle.vbm_top.proofs.scripting.next_request.Goals as goal

pub returns-in-Ok-clause-asks : goal.returns-in-Ok-clause-asks
returns-in-Ok-clause-asks g c = (
  Short c.in-Ok-Line.line,
  c.in-Ok.ensures.request,
  λ told input before at.
      gives_as c.in-Ok-Line.field-0 (Line c.in-Ok-Line.line) c.next_line.new.self input (g.S.Source.rest c.next_line.new.source) before
      c.in-Ok-Line.field-0-is (c.in-Ok-Line.ensures.lines told input before at),
)

pub returns-in-Ok-Line-clause-asks : goal.returns-in-Ok-Line-clause-asks
returns-in-Ok-Line-clause-asks g c = (
  TooLong,
  tt,
  λ told input before at.
      let rest = g.S.Source.rest c.next_line.new.source in
      fewer_read c.next_line.new.self.most input rest before (Short c.in-Ok-Line.line ∷ []) (are_read c.next_line.new.self input rest _
      (gives_as c.in-Ok-Line.field-0 (Line c.in-Ok-Line.line) c.next_line.new.self input rest before c.in-Ok-Line.field-0-is
      (c.in-Ok-Line.ensures.lines told input before at))),
)

pub returns-in-Ok-End-clause-asks : goal.returns-in-Ok-End-clause-asks
returns-in-Ok-End-clause-asks g c = (
  TooLong,
  tt,
  λ told input before at.
      (gives_as c.in-Ok-End.field-0 End c.next_line.new.self input (g.S.Source.rest c.next_line.new.source) before c.in-Ok-End.field-0-is
      (c.in-Ok-End.ensures.lines told input before at)).1,
)

pub returns-in-Ok-ReadFault-clause-asks : goal.returns-in-Ok-ReadFault-clause-asks
returns-in-Ok-ReadFault-clause-asks g c = (
  TooLong,
  tt,
  λ told input before at.
      (gives_as c.in-Ok-ReadFault.field-0 ReadFault c.next_line.new.self input (g.S.Source.rest c.next_line.new.source) before
      c.in-Ok-ReadFault.field-0-is (c.in-Ok-ReadFault.ensures.lines told input before at)).1,
)

pub returns-in-Ok-Spent-clause-asks : goal.returns-in-Ok-Spent-clause-asks
returns-in-Ok-Spent-clause-asks g c = (
  TooLong,
  tt,
  λ told input before at.
      (gives_as c.in-Ok-Spent.field-0 Spent c.next_line.new.self input (g.S.Source.rest c.next_line.new.source) before c.in-Ok-Spent.field-0-is
      (c.in-Ok-Spent.ensures.lines told input before at)).1,
)

pub returns-clause-asks : goal.returns-clause-asks
returns-clause-asks g c = (
  TooLong,
  tt,
  λ told input before at.
      are_read c.next_line.new.self input (g.S.Source.rest c.next_line.new.source) before (c.in-Err.ensures.kept told input before at),
)
