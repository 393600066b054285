use Rattle.std.proofs.Common.{inl, inr}
use Rattle.vbm_world.specs.Loose.{all_settled}
use Rattle.vbm_top.specs.Streams.{stream}
use Rattle.vbm_top.proofs.Counted.{closes_counted}
use Rattle.vbm_top.proofs.Commands.{next_ends, next_passes, memory_ends, memory_passes}
use Rattle.vbm_top.proofs.Turned.{command_no_fault}
use Rattle.vbm_top.proofs.commanding.serve.Goals as goal

pub answer_command-requires-clause-fits : goal.answer_command-requires-clause-fits
answer_command-requires-clause-fits g c told = (c.requires.ready told all_settled).fits

pub returns-in-Open-clause-ends : goal.returns-in-Open-clause-ends
returns-in-Open-clause-ends g c files stood =
    let d1 = g.D.Disk.state c.args.disk.now in
    let d2 = g.D.Disk.state c.answer_command.new.disk in
    let d3 = g.D.Disk.state c.close_with.new.disk in
    let sink = stream g.K.Sink.tells g.K.Sink.written g.K.Sink.faults c.args.sink.now c.answer_command.new.sink in
    elim c.in-Open.ensures.turns [
      | inl done ↦ next_ends g.D.Disk.tells files c.args.engine c.in-Open.next c.args.command.now done.0 d1 d2 d3 c.requires.served c.requires.ready done.2
          sink c.in-Open.status c.close_with.result stood c.close_with.ensures.images done.1 c.close_with.ensures.closes
      | inr none ↦ memory_ends g.D.Disk.tells files c.args.engine c.in-Open.next c.args.command.now d1 d2 d3 none.2
          sink c.in-Open.status c.close_with.result stood none.0 none.1 c.close_with.ensures.closes
    ]

pub returns-in-Open-clause-any_moment : goal.returns-in-Open-clause-any_moment
returns-in-Open-clause-any_moment g c told =
    let d1 = g.D.Disk.state c.args.disk.now in
    let d2 = g.D.Disk.state c.answer_command.new.disk in
    let d3 = g.D.Disk.state c.close_with.new.disk in
    let step = c.answer_command.ensures.any_moment told all_settled (c.requires.ready told all_settled) in
    elim c.in-Open.ensures.turns [
      | inl done ↦ next_passes g.D.Disk.tells d1.files c.args.engine c.in-Open.next c.args.command.now done.0 d1 d2 d3 c.requires.served c.requires.ready done.2 told
          step (c.close_with.ensures.any_moment told)
      | inr none ↦ memory_passes g.D.Disk.tells d1.files c.args.engine c.in-Open.next c.args.command.now d1 d2 d3 none.2 told
          (c.requires.ready told) step (c.close_with.ensures.any_moment told)
    ]

pub returns-in-Open-clause-faults : goal.returns-in-Open-clause-faults
returns-in-Open-clause-faults g c =
    let d1 = g.D.Disk.state c.args.disk.now in
    let d2 = g.D.Disk.state c.answer_command.new.disk in
    let d3 = g.D.Disk.state c.close_with.new.disk in
    let sink = stream g.K.Sink.tells g.K.Sink.written g.K.Sink.faults c.args.sink.now c.answer_command.new.sink in
    closes_counted g.D.Disk.tells c.in-Open.next d1.faults d2 d3 c.in-Open.status c.close_with.result
    (command_no_fault g.D.Disk.tells d1 d2 c.args.engine c.in-Open.next c.args.command.now c.in-Open.status sink c.in-Open.ensures.turns)
    c.in-Open.ensures.faults c.close_with.ensures.closes

pub returns-in-Broken-clause-any_moment : goal.returns-in-Broken-clause-any_moment
returns-in-Broken-clause-any_moment g c told = c.answer_command.ensures.any_moment told all_settled (c.requires.ready told all_settled)
