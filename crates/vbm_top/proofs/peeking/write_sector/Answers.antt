use Rattle.std.proofs.Common.{subst, refl, inr}
use Rattle.vbm_world.specs.declared.command.Answer.TheVariants.{Sectors}
use Rattle.vbm_world.specs.Texts.{line_of}
use Rattle.vbm_top.specs.Streams.{stream}
use Rattle.vbm_top.specs.Run.{status_of, PeekEnds}
use Rattle.vbm_top.proofs.Counted.{answer_no_fault, says_no_fault}
use Rattle.vbm_top.proofs.Lines.{peek_says}
use Rattle.vbm_top.proofs.peeking.write_sector.Goals as goal

pub returns-in-Ok-clause-ends : goal.returns-in-Ok-clause-ends
returns-in-Ok-clause-ends g c =
    let sink = stream g.K.Sink.tells g.K.Sink.written g.K.Sink.faults c.args.sink.now c.write_answer.new.sink in
    subst (λ bytes. PeekEnds (Sectors bytes) sink c.write_answer.result)
    c.in-Ok.ensures (peek_says (Sectors c.in-Ok.bytes) sink c.write_answer.result c.write_answer.ensures)

pub returns-in-Ok-clause-not_disk : goal.returns-in-Ok-clause-not_disk
returns-in-Ok-clause-not_disk g c =
    let sink = stream g.K.Sink.tells g.K.Sink.written g.K.Sink.faults c.args.sink.now c.write_answer.new.sink in
    says_no_fault sink (line_of (Sectors c.in-Ok.bytes)) (status_of (Sectors c.in-Ok.bytes)) c.write_answer.result
    (answer_no_fault (Sectors c.in-Ok.bytes)) c.write_answer.ensures

pub returns-in-Err-clause-ends : goal.returns-in-Err-clause-ends
returns-in-Err-clause-ends g c = inr (inr refl, (λ told. refl, refl))
