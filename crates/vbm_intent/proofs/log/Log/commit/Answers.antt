use Rattle.std.proofs.Common.{subst}
use Rattle.std.proofs.lemmas.Result.{on_ok_weaker}
use Rattle.vbm_intent.specs.Changes.{log_name}
use Rattle.vbm_intent.specs.Partly.{IsPartly}
use Rattle.vbm_intent.proofs.Commits.{record_time, open_time, second_fits, apply_time, third_long, close_time, log_kept}
use Rattle.vbm_intent.proofs.Unread.{committed}
use Rattle.vbm_intent.proofs.log.Log.commit.Goals as goal

pub returns-in_err-write_record-clause-any_moment : goal.returns-in_err-write_record-clause-any_moment
returns-in_err-write_record-clause-any_moment g c = λ told.
    let here = (g.met.D.Disk.coherent c.args.disk.now).read_is_image told in
    record_time c.args.plan.now.changes c.text.ensures.record.plan (g.D.Disk.state c.args.disk.now) (c.requires.shut told) here (c.requires.fits told)
    (g.D.Disk.state c.write_record.new.disk) (c.write_record.ensures.time told)

pub returns-in_err-set_gate-clause-any_moment : goal.returns-in_err-set_gate-clause-any_moment
returns-in_err-set_gate-clause-any_moment g c = λ told.
    let here = (g.met.D.Disk.coherent c.args.disk.now).read_is_image told in
    open_time c.args.plan.now.changes c.text.ensures.record.plan (g.D.Disk.state c.args.disk.now) (c.requires.shut told) here (c.requires.fits told)
    c.text.result.now c.text.ensures.record (g.D.Disk.state c.write_record.new.disk) (c.in_ok-write_record.ensures.ok told) (c.write_record.ensures.time told)
    (g.D.Disk.state c.set_gate.new.disk) (c.set_gate.ensures.time told)

pub apply-requires-clause-fits : goal.apply-requires-clause-fits
apply-requires-clause-fits g c = λ told.
    let here = (g.met.D.Disk.coherent c.args.disk.now).read_is_image told in
    rw c.changes.ensures.value
    (second_fits c.args.plan.now.changes c.text.ensures.record.plan (g.D.Disk.state c.args.disk.now) (c.requires.shut told) here (c.requires.fits told)
    c.text.result.now c.text.ensures.record (g.D.Disk.state c.write_record.new.disk) (c.in_ok-write_record.ensures.ok told) (c.write_record.ensures.time told)
    (g.D.Disk.state c.set_gate.new.disk) (c.in_ok-set_gate.ensures.ok told))

pub returns-in_err-apply-clause-any_moment : goal.returns-in_err-apply-clause-any_moment
returns-in_err-apply-clause-any_moment g c = λ told.
    let here = (g.met.D.Disk.coherent c.args.disk.now).read_is_image told in
    apply_time c.args.plan.now.changes c.text.ensures.record.plan (g.D.Disk.state c.args.disk.now) (c.requires.shut told) here (c.requires.fits told)
    c.text.result.now c.text.ensures.record (g.D.Disk.state c.write_record.new.disk) (c.in_ok-write_record.ensures.ok told) (c.write_record.ensures.time told)
    (g.D.Disk.state c.set_gate.new.disk) (c.in_ok-set_gate.ensures.ok told) (c.set_gate.ensures.time told)
    c.changes.result c.changes.ensures.value (g.D.Disk.state c.apply.new.disk) (c.apply.ensures.time told)

pub set_gate-requires-2-clause-log : goal.set_gate-requires-2-clause-log
set_gate-requires-2-clause-log g c = λ told.
    let here = (g.met.D.Disk.coherent c.args.disk.now).read_is_image told in
    third_long c.args.plan.now.changes c.text.ensures.record.plan (g.D.Disk.state c.args.disk.now) (c.requires.shut told) here (c.requires.fits told)
    c.text.result.now c.text.ensures.record (g.D.Disk.state c.write_record.new.disk) (c.in_ok-write_record.ensures.ok told) (c.write_record.ensures.time told)
    (g.D.Disk.state c.set_gate.new.disk) (c.in_ok-set_gate.ensures.ok told) (c.set_gate.ensures.time told)
    c.changes.result c.changes.ensures.value (g.D.Disk.state c.apply.new.disk) (c.in_ok-apply.ensures.partly told) (c.in_ok-apply.ensures.ok told)

pub returns-clause-any_moment : goal.returns-clause-any_moment
returns-clause-any_moment g c = λ told.
    let here = (g.met.D.Disk.coherent c.args.disk.now).read_is_image told in
    close_time c.args.plan.now.changes c.text.ensures.record.plan (g.D.Disk.state c.args.disk.now) (c.requires.shut told) here (c.requires.fits told)
    c.text.result.now c.text.ensures.record (g.D.Disk.state c.write_record.new.disk) (c.in_ok-write_record.ensures.ok told) (c.write_record.ensures.time told)
    (g.D.Disk.state c.set_gate.new.disk) (c.in_ok-set_gate.ensures.ok told) (c.set_gate.ensures.time told)
    c.changes.result c.changes.ensures.value (g.D.Disk.state c.apply.new.disk) (c.in_ok-apply.ensures.partly told) (c.in_ok-apply.ensures.ok told)
    (g.D.Disk.state c.set_gate-2.new.disk) (c.apply.ensures.time told) (c.set_gate-2.ensures.time told)

pub returns-clause-log : goal.returns-clause-log
returns-clause-log g c = λ told.
    let old = (g.D.Disk.state c.args.disk.now).files in
    let first = (g.D.Disk.state c.write_record.new.disk).files in
    let second = (g.D.Disk.state c.set_gate.new.disk).files in
    let third = (g.D.Disk.state c.apply.new.disk).files in
    let here = (g.met.D.Disk.coherent c.args.disk.now).read_is_image told in
    let kept = log_kept c.args.plan.now.changes c.text.ensures.record.plan second third
    (subst (λ l. IsPartly l second third) c.changes.ensures.value (c.in_ok-apply.ensures.partly told)) in
    on_ok_weaker c.set_gate-2.result
    (λ sets. committed c.text.result.now 165 (old log_name) (first log_name) (second log_name) (third log_name) ((g.D.Disk.state c.set_gate-2.new.disk).files log_name)
    (c.requires.shut told old here) (c.in_ok-write_record.ensures.ok told).here (c.in_ok-set_gate.ensures.ok told).here kept sets.here)
    (c.set_gate-2.ensures.ok told)
