use Rattle.std.proofs.Common.{◌≡◌, ℕ, ap, sym, subst, ◌∙◌}
use Rattle.vbm_top.specs.declared.status.Status.{Status}
use Rattle.vbm_top.specs.declared.status.Status.TheVariants.{NoForm, DiskFault, InputFault, OutputFault}
use Rattle.vbm_top.specs.Statuses.{code_of}
use Rattle.vbm_top.specs.Streams.{stream, streams}
use Rattle.vbm_top.specs.Run.{RunsPeek, RunsInit, RunsCommand}
use Rattle.vbm_top.specs.Script.{RunsScript}
use Rattle.vbm_top.proofs.Counted.{decoded, of_code, disk_grows, disk_rose, disk_same, input_rose, input_same, output_rose, output_same}
use Rattle.vbm_top.proofs.running.run.Goals as goal

-- another number is of another status
other : (code : ℕ) (status named : Status) → code ≡ code_of status → (code ≡ code_of named → ⊥) → status ≡ named → ⊥
other code status named is differs same = differs (is ∙ ap code_of same)

pub returns-clause-code : goal.returns-clause-code
returns-clause-code g c = c.code.ensures ∙ ap code_of (sym (decoded c.code.result c.run_words.result c.code.ensures))

pub returns-clause-words : goal.returns-clause-words
returns-clause-words g c = (
  λ two. c.run_words.ensures.words.0 (of_code c.code.result c.run_words.result NoForm c.code.ensures two),
  λ none. c.code.ensures ∙ ap code_of (c.run_words.ensures.words.1 none),
)

pub returns-clause-untouched : goal.returns-clause-untouched
returns-clause-untouched g c two = c.run_words.ensures.untouched (of_code c.code.result c.run_words.result NoForm c.code.ensures two)

pub returns-clause-peek : goal.returns-clause-peek
returns-clause-peek g c name lba is =
    subst (RunsPeek g.D.Disk.tells name lba (g.D.Disk.state c.args.disk.now) (g.D.Disk.state c.run_words.new.disk)
    (stream g.K.Sink.tells g.K.Sink.written g.K.Sink.faults c.args.sink.now c.run_words.new.sink))
    (sym (decoded c.code.result c.run_words.result c.code.ensures)) (c.run_words.ensures.peek name lba is)

pub returns-clause-init : goal.returns-clause-init
returns-clause-init g c seed is =
    subst (RunsInit g.D.Disk.tells seed (g.D.Disk.state c.args.disk.now) (g.D.Disk.state c.run_words.new.disk)
    (stream g.K.Sink.tells g.K.Sink.written g.K.Sink.faults c.args.sink.now c.run_words.new.sink))
    (sym (decoded c.code.result c.run_words.result c.code.ensures)) (c.run_words.ensures.init seed is)

pub returns-clause-command : goal.returns-clause-command
returns-clause-command g c command is =
    subst (RunsCommand g.D.Disk.tells command (g.D.Disk.state c.args.disk.now) (g.D.Disk.state c.run_words.new.disk)
    (stream g.K.Sink.tells g.K.Sink.written g.K.Sink.faults c.args.sink.now c.run_words.new.sink))
    (sym (decoded c.code.result c.run_words.result c.code.ensures)) (c.run_words.ensures.command command is)

pub returns-clause-script : goal.returns-clause-script
returns-clause-script g c is =
    subst (RunsScript g.D.Disk.tells c.args.most (g.D.Disk.state c.args.disk.now) (g.D.Disk.state c.run_words.new.disk)
    (streams (stream g.S.Source.tells g.S.Source.rest g.S.Source.faults c.args.source.now c.run_words.new.source)
    (stream g.K.Sink.tells g.K.Sink.written g.K.Sink.faults c.args.sink.now c.run_words.new.sink)))
    (sym (decoded c.code.result c.run_words.result c.code.ensures)) (c.run_words.ensures.script is)

pub returns-clause-faults : goal.returns-clause-faults
returns-clause-faults g c = disk_grows (g.D.Disk.state c.args.disk.now).faults (g.D.Disk.state c.run_words.new.disk).faults
    c.run_words.result c.run_words.ensures.faults

pub returns-clause-disk_fault : goal.returns-clause-disk_fault
returns-clause-disk_fault g c three =
    disk_rose (g.D.Disk.state c.args.disk.now).faults (g.D.Disk.state c.run_words.new.disk).faults
    c.run_words.result c.run_words.ensures.faults (of_code c.code.result c.run_words.result DiskFault c.code.ensures three)

pub returns-clause-no_disk_fault : goal.returns-clause-no_disk_fault
returns-clause-no_disk_fault g c no_disk =
    disk_same (g.D.Disk.state c.args.disk.now).faults (g.D.Disk.state c.run_words.new.disk).faults
    c.run_words.result c.run_words.ensures.faults (other c.code.result c.run_words.result DiskFault c.code.ensures no_disk)

pub returns-clause-input_fault : goal.returns-clause-input_fault
returns-clause-input_fault g c four =
    input_rose (streams (stream g.S.Source.tells g.S.Source.rest g.S.Source.faults c.args.source.now c.run_words.new.source)
    (stream g.K.Sink.tells g.K.Sink.written g.K.Sink.faults c.args.sink.now c.run_words.new.sink))
    c.run_words.result (of_code c.code.result c.run_words.result InputFault c.code.ensures four) c.run_words.ensures.counted

pub returns-clause-no_input_fault : goal.returns-clause-no_input_fault
returns-clause-no_input_fault g c no_disk no_input =
    input_same (streams (stream g.S.Source.tells g.S.Source.rest g.S.Source.faults c.args.source.now c.run_words.new.source)
    (stream g.K.Sink.tells g.K.Sink.written g.K.Sink.faults c.args.sink.now c.run_words.new.sink))
    c.run_words.result (other c.code.result c.run_words.result DiskFault c.code.ensures no_disk)
    (other c.code.result c.run_words.result InputFault c.code.ensures no_input) c.run_words.ensures.counted

pub returns-clause-output_fault : goal.returns-clause-output_fault
returns-clause-output_fault g c five =
    output_rose (streams (stream g.S.Source.tells g.S.Source.rest g.S.Source.faults c.args.source.now c.run_words.new.source)
    (stream g.K.Sink.tells g.K.Sink.written g.K.Sink.faults c.args.sink.now c.run_words.new.sink))
    c.run_words.result (of_code c.code.result c.run_words.result OutputFault c.code.ensures five) c.run_words.ensures.counted

pub returns-clause-no_output_fault : goal.returns-clause-no_output_fault
returns-clause-no_output_fault g c no_disk no_output =
    output_same (streams (stream g.S.Source.tells g.S.Source.rest g.S.Source.faults c.args.source.now c.run_words.new.source)
    (stream g.K.Sink.tells g.K.Sink.written g.K.Sink.faults c.args.sink.now c.run_words.new.sink))
    c.run_words.result (other c.code.result c.run_words.result DiskFault c.code.ensures no_disk)
    (other c.code.result c.run_words.result OutputFault c.code.ensures no_output) c.run_words.ensures.counted
