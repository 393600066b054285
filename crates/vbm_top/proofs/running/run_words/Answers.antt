use Rattle.std.proofs.Common.{map, refl, ap, sym, subst, ◌∙◌}
use Rattle.vbm_served.proofs.Commands.{one_command}
use Rattle.vbm_peek.specs.Peek.{peeked, answer_of}
use Rattle.vbm_top.specs.Streams.{stream, streams}
use Rattle.vbm_top.specs.Run.{RunsInit, RunsCommand}
use Rattle.vbm_top.proofs.Counted.{peek_counts, init_counts, command_counts, script_counts}
use Rattle.vbm_top.proofs.Forms.{one_peek, one_init}
use Rattle.vbm_top.proofs.running.run_words.Goals as goal

pub returns-in-Some-clause-peek : goal.returns-in-Some-clause-peek
returns-in-Some-clause-peek g c = λ names lba spelled.
    let files = (g.D.Disk.state c.args.disk.now).files in
    let same = one_peek c.args.words.now names c.in-Some.files.now lba c.in-Some.lba spelled c.in-Some.ensures in
    let ends = c.do_peek.ensures.ends in
    record {
      found = ends.0;
      is = λ told. ends.1 told ∙ ap (λ ns. peeked (map files ns) c.in-Some.lba) (sym same.0) ∙ ap (λ i. peeked (map files names) i) (sym same.1);
      ends = ends.2;
      reads = c.do_peek.ensures.reads;
    }

pub returns-in-Some-clause-counted : goal.returns-in-Some-clause-counted
returns-in-Some-clause-counted g c =
    peek_counts (streams (stream g.S.Source.tells g.S.Source.rest g.S.Source.faults c.args.source.now c.args.source.now)
    (stream g.K.Sink.tells g.K.Sink.written g.K.Sink.faults c.args.sink.now c.do_peek.new.sink))
    c.do_peek.result refl (answer_of c.do_peek.ensures.ends.0) c.do_peek.ensures.ends.2

pub returns-in-Some-init_words-clause-init : goal.returns-in-Some-init_words-clause-init
returns-in-Some-init_words-clause-init g c = λ seed is.
    subst (λ s. RunsInit g.D.Disk.tells s (g.D.Disk.state c.args.disk.now) (g.D.Disk.state c.do_init.new.disk)
    (stream g.K.Sink.tells g.K.Sink.written g.K.Sink.faults c.args.sink.now c.do_init.new.sink) c.do_init.result)
    (one_init c.args.words.now c.args.fresh c.in-Some-init_words.seed seed c.in-Some-init_words.ensures is)
    (record { ends = c.do_init.ensures.ends; any_moment = c.do_init.ensures.any_moment; synced = c.do_init.ensures.synced })

pub returns-in-Some-init_words-clause-counted : goal.returns-in-Some-init_words-clause-counted
returns-in-Some-init_words-clause-counted g c =
    init_counts (streams (stream g.S.Source.tells g.S.Source.rest g.S.Source.faults c.args.source.now c.args.source.now)
    (stream g.K.Sink.tells g.K.Sink.written g.K.Sink.faults c.args.sink.now c.do_init.new.sink))
    c.do_init.result refl c.do_init.ensures.ends

pub returns-then-is_script-clause-counted : goal.returns-then-is_script-clause-counted
returns-then-is_script-clause-counted g c =
    script_counts g.D.Disk.tells c.args.most (g.D.Disk.state c.args.disk.now) (g.D.Disk.state c.do_script.new.disk)
    (streams (stream g.S.Source.tells g.S.Source.rest g.S.Source.faults c.args.source.now c.do_script.new.source)
    (stream g.K.Sink.tells g.K.Sink.written g.K.Sink.faults c.args.sink.now c.do_script.new.sink))
    c.do_script.ensures.runs.out c.do_script.result c.do_script.ensures.runs.ends

pub returns-in-Ok-clause-command : goal.returns-in-Ok-clause-command
returns-in-Ok-clause-command g c = λ command is.
    subst (λ d. RunsCommand g.D.Disk.tells d (g.D.Disk.state c.args.disk.now) (g.D.Disk.state c.do_command.new.disk)
    (stream g.K.Sink.tells g.K.Sink.written g.K.Sink.faults c.args.sink.now c.do_command.new.sink) c.do_command.result)
    (one_command c.args.words.now c.in-Ok.command command c.in-Ok.ensures is)
    (record { ends = c.do_command.ensures.ends; any_moment = c.do_command.ensures.any_moment; synced = c.do_command.ensures.synced })

pub returns-in-Ok-clause-counted : goal.returns-in-Ok-clause-counted
returns-in-Ok-clause-counted g c =
    command_counts (streams (stream g.S.Source.tells g.S.Source.rest g.S.Source.faults c.args.source.now c.args.source.now)
    (stream g.K.Sink.tells g.K.Sink.written g.K.Sink.faults c.args.sink.now c.do_command.new.sink))
    c.do_command.result refl c.do_command.ensures.ends

pub returns-in-Err-BadLine-clause-init : goal.returns-in-Err-BadLine-clause-init
returns-in-Err-BadLine-clause-init g c = λ seed is. absurd (c.in_default-init_words.ensures c.args.fresh seed is)

pub returns-in-Ok-clause-init : goal.returns-in-Ok-clause-init
returns-in-Ok-clause-init g c = λ seed is. absurd (c.in_default-init_words.ensures c.args.fresh seed is)
