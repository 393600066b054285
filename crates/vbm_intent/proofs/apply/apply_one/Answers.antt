use Rattle.vbm_ports.proofs.States.{Passes-weaker}
use Rattle.vbm_intent.proofs.apply.apply_one.Goals as goal

pub returns-in-Write-clause-images : goal.returns-in-Write-clause-images
returns-in-Write-clause-images g c = λ told. rw c.in-Write.is (c.write.ensures.crash told)

pub returns-in-Write-clause-time : goal.returns-in-Write-clause-time
returns-in-Write-clause-time g c = λ told. Passes-weaker _ _ _ _ c.write.ensures.time (returns-in-Write-clause-images g c told)

pub returns-in-Fill-clause-images : goal.returns-in-Fill-clause-images
returns-in-Fill-clause-images g c = λ told. rw c.in-Fill.is (c.fill.ensures.images told)

pub returns-in-Cut-clause-images : goal.returns-in-Cut-clause-images
returns-in-Cut-clause-images g c = λ told. rw c.in-Cut.is (c.cut.ensures.crash told)

pub returns-in-Cut-clause-time : goal.returns-in-Cut-clause-time
returns-in-Cut-clause-time g c = λ told. Passes-weaker _ _ _ _ c.cut.ensures.time (returns-in-Cut-clause-images g c told)
