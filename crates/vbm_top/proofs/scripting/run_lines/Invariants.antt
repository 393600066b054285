use Rattle.vbm_lines.specs.Reader.{left_over}
use Rattle.vbm_engine.specs.Serves.{serves, IsSoundEngine}
use Rattle.vbm_top.specs.Streams.{stream, streams}
use Rattle.vbm_top.proofs.Going.{IsGoing}
use Rattle.vbm_top.proofs.scripting.run_lines.Given as goal

abbrev pub invariant-answers : goal.invariant-answers
invariant-answers g l = record {
  going : IsGoing g.D.Disk.tells l.fn.most
      (streams (stream g.S.Source.tells g.S.Source.rest g.S.Source.faults l.fn.source l.source)
      (stream g.K.Sink.tells g.K.Sink.written g.K.Sink.faults l.fn.sink l.sink))
      (g.D.Disk.state l.fn.disk) (serves l.fn.engine (g.D.Disk.state l.fn.disk).files) l.lines (g.D.Disk.state l.disk) l.engine l.status;
  sound : IsSoundEngine l.engine;
}

abbrev pub decreases-answers : goal.decreases-answers
decreases-answers g l = left_over l.lines
