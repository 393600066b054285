use Rattle.vbm_ports.proofs.States.{Passes-weaker, Passes-trans}
use Rattle.vbm_intent.proofs.TornLog.{record_torn}
use Rattle.vbm_intent.proofs.log.write_record.Goals as goal

pub returns-in_err-write-clause-time : goal.returns-in_err-write-clause-time
returns-in_err-write-clause-time g c = λ told.
    Passes-weaker _ _ _ _ c.write.ensures.time (record_torn _ _ _ _ (c.requires.shut told) ((g.met.D.Disk.coherent c.args.disk.now).read_is_image told) (c.write.ensures.crash told))

pub returns-clause-time : goal.returns-clause-time
returns-clause-time g c = λ told.
    let here = record_torn _ _ _ _ (c.requires.shut told) ((g.met.D.Disk.coherent c.args.disk.now).read_is_image told) (c.write.ensures.crash told) in
    Passes-trans _ _ _ _ _ _ c.write.ensures.time c.sync.ensures.reads.time here here
