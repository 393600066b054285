use Rattle.std.proofs.Common.{refl, subst, inl}
use Rattle.vbm_world.specs.declared.command.Answer.TheVariants.{Id}
use Rattle.vbm_world.specs.Texts.{line_of}
use Rattle.vbm_top.specs.declared.status.Status.TheVariants.{Done, StoreRefused}
use Rattle.vbm_top.specs.Streams.{stream}
use Rattle.vbm_top.specs.Run.{store_line, there_line, Says, made, there, refused}
use Rattle.vbm_top.proofs.Counted.{not_counted, says_no_fault}
use Rattle.vbm_top.proofs.Syncs.{syncs_or_fails}
use Rattle.vbm_top.proofs.making.do_init.Goals as goal

pub returns-in-Done-clause-ends : goal.returns-in-Done-clause-ends
returns-in-Done-clause-ends g c = made c.in-Done.ensures.made c.write_answer.ensures

pub returns-in-Refused-clause-ends : goal.returns-in-Refused-clause-ends
returns-in-Refused-clause-ends g c =
    let sink = stream g.K.Sink.tells g.K.Sink.written g.K.Sink.faults c.args.sink.now c.write_store.new.sink in
    refused c.in-Refused.ensures.made
    (subst (λ bad. Says sink (store_line bad) StoreRefused c.write_store.result) c.in-Refused.ensures.refused c.write_store.ensures)

pub returns-in-There-clause-ends : goal.returns-in-There-clause-ends
returns-in-There-clause-ends g c = there c.in-There.ensures.made c.write_line.ensures

pub returns-in-Done-clause-synced : goal.returns-in-Done-clause-synced
returns-in-Done-clause-synced g c told = syncs_or_fails (λ image is. is) (λ failed. absurd cc) (c.in-Done.ensures.synced told)

pub returns-in-Refused-clause-synced : goal.returns-in-Refused-clause-synced
returns-in-Refused-clause-synced g c told = syncs_or_fails (λ image is. is) (λ failed. absurd cc) (c.in-Refused.ensures.synced told)

pub returns-in-There-clause-synced : goal.returns-in-There-clause-synced
returns-in-There-clause-synced g c told = syncs_or_fails (λ image is. is) (λ failed. absurd cc) (c.in-There.ensures.synced told)

pub returns-in-NoMemory-clause-synced : goal.returns-in-NoMemory-clause-synced
returns-in-NoMemory-clause-synced g c told = syncs_or_fails (λ image is. is) (λ failed. absurd cc) (c.in-NoMemory.ensures.synced told)

pub returns-in-Failed-clause-synced : goal.returns-in-Failed-clause-synced
returns-in-Failed-clause-synced g c told = syncs_or_fails (λ image is. is) (λ failed. refl) (c.in-Failed.ensures.synced told)

pub returns-in-Done-clause-faults : goal.returns-in-Done-clause-faults
returns-in-Done-clause-faults g c =
    not_counted _ _ c.write_answer.result
    (says_no_fault (stream g.K.Sink.tells g.K.Sink.written g.K.Sink.faults c.args.sink.now c.write_answer.new.sink)
    (line_of (Id c.args.seed)) Done c.write_answer.result refl c.write_answer.ensures) c.in-Done.ensures.faults

pub returns-in-Refused-clause-faults : goal.returns-in-Refused-clause-faults
returns-in-Refused-clause-faults g c =
    not_counted _ _ c.write_store.result
    (says_no_fault (stream g.K.Sink.tells g.K.Sink.written g.K.Sink.faults c.args.sink.now c.write_store.new.sink)
    (store_line c.in-Refused.bad) StoreRefused c.write_store.result refl c.write_store.ensures) c.in-Refused.ensures.faults

pub returns-in-There-clause-faults : goal.returns-in-There-clause-faults
returns-in-There-clause-faults g c =
    not_counted _ _ c.write_line.result
    (says_no_fault (stream g.K.Sink.tells g.K.Sink.written g.K.Sink.faults c.args.sink.now c.write_line.new.sink)
    there_line StoreRefused c.write_line.result refl (inl c.write_line.ensures)) c.in-There.ensures.faults
