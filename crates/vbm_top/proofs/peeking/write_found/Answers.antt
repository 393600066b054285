use Rattle.std.proofs.Common.{◌≡◌, Err, sym, subst}
use Rattle.vbm_world.specs.declared.command.Answer.TheVariants.{Refused}
use Rattle.vbm_peek.specs.Peek.{answer_of}
use Rattle.vbm_top.specs.Streams.{stream}
use Rattle.vbm_top.specs.Run.{PeekEnds}
use Rattle.vbm_top.proofs.Lines.{peek_says}
use Rattle.vbm_top.proofs.peeking.write_found.Goals as goal

pub returns-in-Refused-clause-ends : goal.returns-in-Refused-clause-ends
returns-in-Refused-clause-ends g c asked tells =
    let sink = stream g.K.Sink.tells g.K.Sink.written g.K.Sink.faults c.args.sink.now c.write_answer.new.sink in
    let told : asked ≡ Err c.in-Refused.refusal = rw c.in-Refused.is at tells in
    subst (λ x. PeekEnds (answer_of x) sink c.write_answer.result) (sym told)
    (peek_says (Refused c.in-Refused.refusal) sink c.write_answer.result c.write_answer.ensures)
