use Rattle.std.proofs.Common.{refl, inl}
use Rattle.vbm_top.specs.declared.status.Status.TheVariants.{StoreRefused}
use Rattle.vbm_top.specs.Statuses.{is_disk_fault}
use Rattle.vbm_top.specs.Streams.{stream}
use Rattle.vbm_top.specs.Run.{store_line, faulty, unopened}
use Rattle.vbm_top.proofs.Commands.{run_passes, run_syncs}
use Rattle.vbm_top.proofs.Counted.{counted_before, not_counted, says_no_fault}
use Rattle.vbm_top.proofs.Syncs.{syncs_or_fails}
use Rattle.vbm_top.proofs.commanding.do_command.Goals as goal

pub serve-requires-clause-ready : goal.serve-requires-clause-ready
serve-requires-clause-ready g c told = (c.in-Open.ensures.opens told).2

pub returns-in-Open-clause-ends : goal.returns-in-Open-clause-ends
returns-in-Open-clause-ends g c = c.serve.ensures.ends (g.D.Disk.state c.args.disk.now).files (λ told. (c.in-Open.ensures.opens told).0)

pub returns-in-Open-clause-any_moment : goal.returns-in-Open-clause-any_moment
returns-in-Open-clause-any_moment g c told =
    run_passes c.args.command.now c.in-Open.engine (g.D.Disk.state c.args.disk.now) (g.D.Disk.state c.open.new.disk) (g.D.Disk.state c.serve.new.disk)
    (c.in-Open.ensures.opens told).0 (c.open.ensures.any_moment told) (c.serve.ensures.any_moment told)

pub returns-in-Open-clause-faults : goal.returns-in-Open-clause-faults
returns-in-Open-clause-faults g c = counted_before _ _ _ (is_disk_fault c.serve.result) c.in-Open.ensures.faults c.serve.ensures.faults

pub returns-in-Open-clause-synced : goal.returns-in-Open-clause-synced
returns-in-Open-clause-synced g c told =
    run_syncs g.D.Disk.tells c.args.command.now c.in-Open.engine (g.D.Disk.state c.args.disk.now) (g.D.Disk.state c.open.new.disk)
    (g.D.Disk.state c.serve.new.disk) c.serve.result (c.in-Open.ensures.opens told).0 (c.in-Open.ensures.synced told)
    (c.serve.ensures.any_moment told)

pub returns-in-Refused-clause-ends : goal.returns-in-Refused-clause-ends
returns-in-Refused-clause-ends g c = faulty c.in-Refused.bad c.in-Refused.ensures.opens c.write_store.ensures

pub returns-in-Refused-clause-synced : goal.returns-in-Refused-clause-synced
returns-in-Refused-clause-synced g c told = syncs_or_fails (λ image alike. inl alike) (λ fault. absurd cc) (c.in-Refused.ensures.synced told)

pub returns-in-Refused-clause-faults : goal.returns-in-Refused-clause-faults
returns-in-Refused-clause-faults g c =
    not_counted _ _ c.write_store.result
    (says_no_fault (stream g.K.Sink.tells g.K.Sink.written g.K.Sink.faults c.args.sink.now c.write_store.new.sink)
    (store_line c.in-Refused.bad) StoreRefused c.write_store.result refl c.write_store.ensures) c.in-Refused.ensures.faults

pub returns-in-Fault-clause-synced : goal.returns-in-Fault-clause-synced
returns-in-Fault-clause-synced g c told = syncs_or_fails (λ image alike. inl alike) (λ fault. refl) (c.in-Fault.ensures.synced told)

pub returns-in-NoMemory-clause-ends : goal.returns-in-NoMemory-clause-ends
returns-in-NoMemory-clause-ends g c = unopened c.in-NoMemory.ensures.opens (λ t. refl, refl) refl

pub returns-in-NoMemory-clause-synced : goal.returns-in-NoMemory-clause-synced
returns-in-NoMemory-clause-synced g c told = syncs_or_fails (λ image alike. inl alike) (λ fault. absurd cc) (c.in-NoMemory.ensures.synced told)
