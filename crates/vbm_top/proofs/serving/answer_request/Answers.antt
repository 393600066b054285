use Rattle.std.proofs.Common.{subst, inr}
use Rattle.vbm_ports.proofs.States.{Passes-weaker}
use Rattle.vbm_top.specs.Streams.{stream}
use Rattle.vbm_top.specs.Turns.{IsRequest}
use Rattle.vbm_top.proofs.Turned.{command_turns, bad_turns}
use Rattle.vbm_top.proofs.serving.answer_request.Goals as goal

pub returns-in-Bad-clause-turns : goal.returns-in-Bad-clause-turns
returns-in-Bad-clause-turns g c line is =
    bad_turns g.D.Disk.tells (g.D.Disk.state c.args.disk.now) c.args.engine c.write_answer-status.result
    (stream g.K.Sink.tells g.K.Sink.written g.K.Sink.faults c.args.sink.now c.write_answer-status.new.sink) line
    (subst (IsRequest line) c.in-Bad.is is) c.write_answer-status.ensures

pub returns-in-Do-clause-turns : goal.returns-in-Do-clause-turns
returns-in-Do-clause-turns g c line is =
    command_turns g.D.Disk.tells (g.D.Disk.state c.args.disk.now) (g.D.Disk.state c.answer_command.new.disk) c.args.engine
    c.in-Do.command c.answer_command.result (stream g.K.Sink.tells g.K.Sink.written g.K.Sink.faults c.args.sink.now c.answer_command.new.sink) line
    (subst (IsRequest line) c.in-Do.is is) c.answer_command.ensures.turns

pub returns-in-Do-clause-any_moment : goal.returns-in-Do-clause-any_moment
returns-in-Do-clause-any_moment g c told line is u ready =
    Passes-weaker (g.D.Disk.state c.args.disk.now) (g.D.Disk.state c.answer_command.new.disk) _ _ (c.answer_command.ensures.any_moment told u ready)
    (λ image step. inr (c.in-Do.command, subst (IsRequest line) c.in-Do.is is, step))
