use Rattle.vbm_ports.proofs.States.{Passes-weaker, Passes-trans}
use Rattle.vbm_intent.proofs.TornLog.{gate_torn}
use Rattle.vbm_intent.proofs.log.set_gate.Goals as goal

pub returns-in_err-write-clause-time : goal.returns-in_err-write-clause-time
returns-in_err-write-clause-time g c = λ told.
    Passes-weaker _ _ _ _ c.write.ensures.time (gate_torn _ _ _ (c.requires.settled told) (c.requires.log told) (c.write.ensures.crash told))

pub returns-clause-time : goal.returns-clause-time
returns-clause-time g c = λ told.
    let here = gate_torn _ _ _ (c.requires.settled told) (c.requires.log told) (c.write.ensures.crash told) in
    Passes-trans _ _ _ _ _ _ c.write.ensures.time c.sync.ensures.reads.time here here
