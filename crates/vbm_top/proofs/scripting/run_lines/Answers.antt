use Rattle.std.proofs.Common.{◌∙◌, true, refl, subst, sym, ap}
use Rattle.vbm_lines.specs.Inputs.{AreRead}
use Rattle.vbm_lines.specs.Reader.{Reader}
use Rattle.vbm_engine.specs.Serves.{serves}
use Rattle.vbm_top.specs.declared.status.Status.{Status}
use Rattle.vbm_top.specs.declared.status.Status.TheVariants.{Done, InputFault, NoMemory, InputTooLong}
use Rattle.vbm_top.specs.Statuses.{is_disk_fault}
use Rattle.vbm_top.specs.Streams.{stream, streams}
use Rattle.vbm_top.proofs.Counted.{closes_counted, counted_before}
use Rattle.vbm_top.proofs.Going.{IsGoing, starts, no_disk_fault_of_all, line_passes, line_goes_on}
use Rattle.vbm_top.proofs.Turned.{turned_fits, line_no_fault}
use Rattle.vbm_top.proofs.Ending.{ends_between, stops, breaks, comes_read, comes_cut_off, comes_too_long, comes_no_memory}
use Rattle.vbm_top.proofs.scripting.run_lines.Goals as goal

pub answers-init : goal.answers-init
answers-init g c = record {
  going = subst (λ (r : Reader). IsGoing g.D.Disk.tells c.args.most
      (streams (stream g.S.Source.tells g.S.Source.rest g.S.Source.faults c.args.source.now c.args.source.now)
      (stream g.K.Sink.tells g.K.Sink.written g.K.Sink.faults c.args.sink.now c.args.sink.now))
      (g.D.Disk.state c.args.disk.now) (serves c.args.engine (g.D.Disk.state c.args.disk.now).files) r (g.D.Disk.state c.args.disk.now)
      c.args.engine Done) (sym c.new-lines.ensures)
      (starts g.S.Source.tells g.K.Sink.tells _ _ (g.D.Disk.state c.args.disk.now) c.args.engine c.requires.ready);
  sound = c.requires.sound;
}

pub returns-in-End-clause-runs : goal.returns-in-End-clause-runs
returns-in-End-clause-runs g c files stood =
    let going = c.answers.invariant.going in
    ends_between stood going c.close_with.ensures.images c.close_with.ensures.closes
    (comes_read going c.in-End.ensures.most c.in-End.ensures.faults
    (λ n. c.in-End.ensures.asks.2 n (g.S.Source.rest c.args.source.now) going.lines (going.at n)))
    c.close_with.ensures.any_moment

pub returns-in-End-clause-faults : goal.returns-in-End-clause-faults
returns-in-End-clause-faults g c =
    let going = c.answers.invariant.going in
    closes_counted g.D.Disk.tells c.answers.engine (g.D.Disk.state c.args.disk.now).faults (g.D.Disk.state c.answers.disk)
    (g.D.Disk.state c.close_with.new.disk) c.answers.status c.close_with.result
    (ap is_disk_fault going.is_status ∙ no_disk_fault_of_all going.answers) going.disk c.close_with.ensures.closes

pub returns-in-Fault-clause-runs : goal.returns-in-Fault-clause-runs
returns-in-Fault-clause-runs g c files stood =
    let going = c.answers.invariant.going in
    ends_between stood going c.close_with-in-Fault.ensures.images c.close_with-in-Fault.ensures.closes
    (comes_cut_off going c.in-Fault.ensures.most c.in-Fault.ensures.faults
    (λ n. c.in-Fault.ensures.asks.2 n (g.S.Source.rest c.args.source.now) going.lines (going.at n)))
    c.close_with-in-Fault.ensures.any_moment

pub returns-in-Fault-clause-faults : goal.returns-in-Fault-clause-faults
returns-in-Fault-clause-faults g c =
    closes_counted g.D.Disk.tells c.answers.engine (g.D.Disk.state c.args.disk.now).faults (g.D.Disk.state c.answers.disk)
    (g.D.Disk.state c.close_with-in-Fault.new.disk) InputFault c.close_with-in-Fault.result refl
    c.answers.invariant.going.disk c.close_with-in-Fault.ensures.closes

pub returns-in-TooLong-clause-runs : goal.returns-in-TooLong-clause-runs
returns-in-TooLong-clause-runs g c files stood =
    let going = c.answers.invariant.going in
    ends_between stood going c.close_with-in-TooLong.ensures.images c.close_with-in-TooLong.ensures.closes
    (comes_too_long going c.in-TooLong.ensures.most c.in-TooLong.ensures.faults
    (λ n. c.in-TooLong.ensures.asks.2 n (g.S.Source.rest c.args.source.now) going.lines (going.at n)))
    c.close_with-in-TooLong.ensures.any_moment

pub returns-in-TooLong-clause-faults : goal.returns-in-TooLong-clause-faults
returns-in-TooLong-clause-faults g c =
    closes_counted g.D.Disk.tells c.answers.engine (g.D.Disk.state c.args.disk.now).faults (g.D.Disk.state c.answers.disk)
    (g.D.Disk.state c.close_with-in-TooLong.new.disk) InputTooLong c.close_with-in-TooLong.result refl
    c.answers.invariant.going.disk c.close_with-in-TooLong.ensures.closes

pub returns-in-NoMemory-clause-runs : goal.returns-in-NoMemory-clause-runs
returns-in-NoMemory-clause-runs g c files stood =
    let going = c.answers.invariant.going in
    ends_between stood going c.close_with-in-NoMemory.ensures.images c.close_with-in-NoMemory.ensures.closes
    (comes_no_memory going NoMemory refl (λ t. refl, refl) c.in-NoMemory.ensures.faults
    (λ n. subst (λ m. AreRead m (g.S.Source.rest c.args.source.now) (g.S.Source.rest c.next_request.new.source) going.lines)
    (c.in-NoMemory.ensures.most ∙ going.is_most)
    (c.in-NoMemory.ensures.asks.2 n (g.S.Source.rest c.args.source.now) going.lines (going.at n))))
    c.close_with-in-NoMemory.ensures.any_moment

pub returns-in-NoMemory-clause-faults : goal.returns-in-NoMemory-clause-faults
returns-in-NoMemory-clause-faults g c =
    closes_counted g.D.Disk.tells c.answers.engine (g.D.Disk.state c.args.disk.now).faults (g.D.Disk.state c.answers.disk)
    (g.D.Disk.state c.close_with-in-NoMemory.new.disk) NoMemory c.close_with-in-NoMemory.result refl
    c.answers.invariant.going.disk c.close_with-in-NoMemory.ensures.closes

pub returns-in-Broken-clause-runs : goal.returns-in-Broken-clause-runs
returns-in-Broken-clause-runs g c files stood =
    let going = c.answers.invariant.going in
    let line = c.in-Line.ensures.asks.0 in
    let asked = c.in-Line.ensures.asks.1 in
    let asks = λ (n : g.S.Source.tells). c.in-Line.ensures.asks.2 n (g.S.Source.rest c.args.source.now) going.lines (going.at n) in
    let most = c.in-Line.ensures.most ∙ going.is_most in
    let turned = c.in-Broken.ensures.turns line asked in
    breaks stood going line asks most c.in-Line.ensures.faults
    turned.0 turned.1 (λ t. line_passes line going asks most
    (g.D.Disk.state c.answer_request.new.disk) t (λ u ready. c.answer_request.ensures.any_moment t line asked u ready))
    c.answers.invariant.sound (g.met.D.Disk.coherent c.answers.disk) (g.met.D.Disk.coherent c.answer_request.new.disk)
    (λ t u ready. c.answer_request.ensures.any_moment t line asked u ready) turned.2

pub returns-in-Broken-clause-faults : goal.returns-in-Broken-clause-faults
returns-in-Broken-clause-faults g c = counted_before _ _ _ true c.answers.invariant.going.disk c.in-Broken.ensures.faults

pub close_with-requires-then-ends_run-clause-fits : goal.close_with-requires-then-ends_run-clause-fits
close_with-requires-then-ends_run-clause-fits g c t =
    let d = c.answers.invariant.going.on_disk t in
    turned_fits g.D.Disk.tells (g.D.Disk.state c.answers.disk) (g.D.Disk.state c.answer_request.new.disk) c.answers.engine c.in-Open.next
    c.in-Line.ensures.asks.0 c.in-Open.said
    (stream g.K.Sink.tells g.K.Sink.written g.K.Sink.faults c.answers.sink c.answer_request.new.sink) t d.left d.ready
    (c.in-Open.ensures.turns c.in-Line.ensures.asks.0 c.in-Line.ensures.asks.1)

pub returns-then-ends_run-clause-runs : goal.returns-then-ends_run-clause-runs
returns-then-ends_run-clause-runs g c files stood =
    let going = c.answers.invariant.going in
    let line = c.in-Line.ensures.asks.0 in
    let asked = c.in-Line.ensures.asks.1 in
    let asks = λ (n : g.S.Source.tells). c.in-Line.ensures.asks.2 n (g.S.Source.rest c.args.source.now) going.lines (going.at n) in
    let most = c.in-Line.ensures.most ∙ going.is_most in
    let close = c.close_with-then-ends_run.ensures in
    stops stood going line asks most c.in-Line.ensures.faults
    (sym c.ends_run.ensures ∙ c.if-ends_run.true)
    (λ t. line_passes line going asks most
    (g.D.Disk.state c.answer_request.new.disk) t (λ u ready. c.answer_request.ensures.any_moment t line asked u ready))
    close.images close.closes (c.in-Open.ensures.turns line asked) close.any_moment

pub returns-then-ends_run-clause-faults : goal.returns-then-ends_run-clause-faults
returns-then-ends_run-clause-faults g c =
    closes_counted g.D.Disk.tells c.in-Open.next (g.D.Disk.state c.args.disk.now).faults (g.D.Disk.state c.answer_request.new.disk)
    (g.D.Disk.state c.close_with-then-ends_run.new.disk) c.in-Open.said c.close_with-then-ends_run.result
    (line_no_fault g.D.Disk.tells (g.D.Disk.state c.answers.disk) (g.D.Disk.state c.answer_request.new.disk) c.answers.engine c.in-Open.next
    c.in-Line.ensures.asks.0 c.in-Open.said
    (stream g.K.Sink.tells g.K.Sink.written g.K.Sink.faults c.answers.sink c.answer_request.new.sink)
    (c.in-Open.ensures.turns c.in-Line.ensures.asks.0 c.in-Line.ensures.asks.1))
    (c.in-Open.ensures.faults ∙ c.answers.invariant.going.disk) c.close_with-then-ends_run.ensures.closes

pub answers-preserved : goal.answers-preserved
answers-preserved g c =
    let going = c.answers.invariant.going in
    let line = c.in-Line.ensures.asks.0 in
    let asked = c.in-Line.ensures.asks.1 in
    let asks = λ (n : g.S.Source.tells). c.in-Line.ensures.asks.2 n (g.S.Source.rest c.args.source.now) going.lines (going.at n) in
    let most = c.in-Line.ensures.most ∙ going.is_most in
    record {
      going = subst (λ (s : Status). IsGoing g.D.Disk.tells c.args.most
          (streams (stream g.S.Source.tells g.S.Source.rest g.S.Source.faults c.args.source.now c.next_request.new.source)
          (stream g.K.Sink.tells g.K.Sink.written g.K.Sink.faults c.args.sink.now c.answer_request.new.sink))
          (g.D.Disk.state c.args.disk.now) (serves c.args.engine (g.D.Disk.state c.args.disk.now).files) c.next_request.new.lines
          (g.D.Disk.state c.answer_request.new.disk) c.in-Open.next s) (sym c.worse-status.ensures)
          (line_goes_on line going asks most
          (g.D.Disk.state c.answer_request.new.disk) c.in-Open.next _ c.in-Line.ensures.faults c.in-Open.said
          (sym c.ends_run.ensures ∙ c.if-ends_run.false)
          (c.in-Open.ensures.turns line asked) c.in-Open.ensures.faults
          (λ t u ready. c.answer_request.ensures.any_moment t line asked u ready));
      sound = c.in-Open.ensures.sound;
    }
