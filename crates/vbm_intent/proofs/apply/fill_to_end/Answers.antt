use Rattle.std.proofs.Common.{◌+◌, ◌-◌, arith}
use Rattle.std.proofs.lemmas.Result.{on_ok_weaker}
use Rattle.vbm_intent.proofs.Fills.{both_leave, both_time, both_written}
use Rattle.vbm_intent.proofs.apply.fill_to_end.Goals as goal

pub returns-clause-images : goal.returns-clause-images
returns-clause-images g c = λ told.
    both_leave c.args.name.now c.args.at c.args.len 0 (c.args.end - c.args.at) c.args.end (c.args.at + c.args.len - c.args.end)
    (g.D.Disk.state c.args.disk.now) (g.D.Disk.state c.fill_pieces-2.new.disk) (g.D.Disk.state c.write_last_zero-2.new.disk)
    (omega arith) (omega arith) (omega arith) (omega arith) (c.requires.fits told)
    (c.in_ok-fill_pieces.ensures.ok told) (c.fill_pieces-2.ensures.images told) (c.fill_pieces-2.ensures.time told)
    (c.write_last_zero-2.ensures.images told) c.write_last_zero-2.ensures.time

pub returns-clause-time : goal.returns-clause-time
returns-clause-time g c = λ told.
    both_time c.args.name.now c.args.at c.args.len 0 (c.args.end - c.args.at) c.args.end (c.args.at + c.args.len - c.args.end)
    (g.D.Disk.state c.args.disk.now) (g.D.Disk.state c.fill_pieces-2.new.disk) (g.D.Disk.state c.write_last_zero-2.new.disk)
    (omega arith) (omega arith) (omega arith) (omega arith) (c.requires.fits told)
    (c.in_ok-fill_pieces.ensures.ok told) (c.fill_pieces-2.ensures.images told) (c.fill_pieces-2.ensures.time told)
    (c.write_last_zero-2.ensures.images told) c.write_last_zero-2.ensures.time

pub returns-clause-ok : goal.returns-clause-ok
returns-clause-ok g c = λ told.
    on_ok_weaker c.write_last_zero-2.result
    (both_written c.args.name.now c.args.at c.args.len 0 (c.args.end - c.args.at) c.args.end (c.args.at + c.args.len - c.args.end)
    (g.D.Disk.state c.args.disk.now) (g.D.Disk.state c.fill_pieces-2.new.disk) (g.D.Disk.state c.write_last_zero-2.new.disk)
    (omega arith) (omega arith) (omega arith) (omega arith) (c.requires.fits told)
    (c.in_ok-fill_pieces.ensures.ok told) (c.fill_pieces-2.ensures.images told) (c.fill_pieces-2.ensures.time told)
    (c.write_last_zero-2.ensures.images told) c.write_last_zero-2.ensures.time)
    (c.write_last_zero-2.ensures.ok told)
