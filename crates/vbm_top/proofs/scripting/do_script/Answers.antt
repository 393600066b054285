use Rattle.std.proofs.Common.{refl}
use Rattle.vbm_top.specs.declared.status.Status.TheVariants.{StoreRefused}
use Rattle.vbm_top.specs.Statuses.{is_disk_fault}
use Rattle.vbm_top.specs.Streams.{stream}
use Rattle.vbm_top.specs.Run.{store_line}
use Rattle.vbm_top.proofs.Counted.{counted_before, not_counted, says_no_fault}
use Rattle.vbm_top.proofs.Scripts.{opened_script, refused_script, unopened_script, forgotten_script}
use Rattle.vbm_top.proofs.scripting.do_script.Goals as goal

pub run_lines-requires-clause-ready : goal.run_lines-requires-clause-ready
run_lines-requires-clause-ready g c told = (c.in-Open.ensures.opens told).2

pub returns-in-Open-clause-runs : goal.returns-in-Open-clause-runs
returns-in-Open-clause-runs g c =
    opened_script c.in-Open.engine (λ t. (c.in-Open.ensures.opens t).0) c.open.ensures.any_moment c.in-Open.ensures.synced
    (c.run_lines.ensures.runs (g.D.Disk.state c.args.disk.now).files (λ t. (c.in-Open.ensures.opens t).0))

pub returns-in-Open-clause-faults : goal.returns-in-Open-clause-faults
returns-in-Open-clause-faults g c = counted_before _ _ _ (is_disk_fault c.run_lines.result) c.in-Open.ensures.faults c.run_lines.ensures.faults

pub returns-in-Refused-clause-runs : goal.returns-in-Refused-clause-runs
returns-in-Refused-clause-runs g c =
    refused_script (λ t. refl, refl) c.open.ensures.any_moment c.in-Refused.bad c.in-Refused.ensures.opens c.in-Refused.ensures.synced
    c.write_store.ensures

pub returns-in-Refused-clause-faults : goal.returns-in-Refused-clause-faults
returns-in-Refused-clause-faults g c =
    not_counted _ _ c.write_store.result
    (says_no_fault (stream g.K.Sink.tells g.K.Sink.written g.K.Sink.faults c.args.sink.now c.write_store.new.sink)
    (store_line c.in-Refused.bad) StoreRefused c.write_store.result refl c.write_store.ensures) c.in-Refused.ensures.faults

pub returns-in-Fault-clause-runs : goal.returns-in-Fault-clause-runs
returns-in-Fault-clause-runs g c =
    unopened_script (λ t. refl, refl) c.open.ensures.any_moment (g.met.D.Disk.coherent c.args.disk.now) (g.met.D.Disk.coherent c.open.new.disk)
    c.in-Fault.ensures.synced (λ t. refl, refl)

pub returns-in-NoMemory-clause-runs : goal.returns-in-NoMemory-clause-runs
returns-in-NoMemory-clause-runs g c =
    forgotten_script (λ t. refl, refl) c.open.ensures.any_moment c.in-NoMemory.ensures.opens c.in-NoMemory.ensures.synced (λ t. refl, refl)
