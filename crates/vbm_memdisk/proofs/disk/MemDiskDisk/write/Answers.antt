use Rattle.std.proofs.Common.{◌≡◌, ◌∙◌, ◌/◌, ℕ, length, sym, ap, subst}
use Rattle.vbm_ports.specs.Counts.{Rose}
use Rattle.vbm_ports.specs.Crash.{WriteLeaves}
use Rattle.vbm_memdisk.specs.Past.{Past, past_in, AddsWrite, files_now}
use Rattle.vbm_memdisk.specs.MemDisk.{past_of, refused_of}
use Rattle.vbm_memdisk.specs.declared.disk.MemDisk.{MemDisk}
use Rattle.vbm_memdisk.proofs.Outcomes.{OnOk-map, OnErr-map, OnOk-along, one_or_two, on_success}
use Rattle.vbm_memdisk.proofs.Moments.{whole_write_sets, write_leaves_files}
use Rattle.vbm_memdisk.proofs.Crashes.{write_refl}
use Rattle.vbm_memdisk.proofs.disk.MemDiskDisk.write.Goals as goal
use Rattle.vbm_memdisk.proofs.disk.MemDiskDisk.write.Goals.{else-not-stopped-via-then-not-stopped+else-is_err, else-not-stopped-via-else-not-stopped}

pub returns-then-is_ok-clause-ok : goal.returns-then-is_ok-clause-ok
returns-then-is_ok-clause-ok c = λ told.
    let old : Past = past_of c.args.self.now in
    let kept : past_of c.finish.new.self ≡ past_in c.write-outcome.new.self = ap (λ (disk : MemDisk). past_of disk) c.finish.ensures.only in
    let was : past_in c.count.new.self.history ≡ old = ap (λ (disk : MemDisk). past_of disk) c.count.ensures.only in
    OnOk-along c.finish.result c.write-outcome.result _ c.finish.ensures.ok
    (OnOk-map c.write-outcome.result
    (λ it. whole_write_sets c.args.name.now c.args.at c.args.bytes.now old (past_of c.finish.new.self) c.requires.some
    (subst (λ (now : Past). AddsWrite c.args.name.now c.args.at c.args.bytes.now (length c.args.bytes.now) old now) (sym kept)
    (subst (λ (before : Past). AddsWrite c.args.name.now c.args.at c.args.bytes.now (length c.args.bytes.now) before (past_in c.write-outcome.new.self)) was it)))
    c.write-outcome.ensures.ok)

pub returns-then-is_ok-clause-refused : goal.returns-then-is_ok-clause-refused
returns-then-is_ok-clause-refused c =
    let old : Past = past_of c.args.self.now in
    let kept : past_of c.finish.new.self ≡ past_in c.write-outcome.new.self = ap (λ (disk : MemDisk). past_of disk) c.finish.ensures.only in
    let was : past_in c.count.new.self.history ≡ old = ap (λ (disk : MemDisk). past_of disk) c.count.ensures.only in
    let before : refused_of c.count.new.self ≡ refused_of c.args.self.now = ap (λ (disk : MemDisk). refused_of disk) c.count.ensures.only in
    one_or_two c.finish.result c.write-outcome.result c.finish.ensures.ok
    (OnOk-map c.finish.result (λ same. same ∙ before) c.finish.ensures.unrefused)
    (OnErr-map c.finish.result (λ rose. subst (λ (n : ℕ). Rose n (refused_of c.finish.new.self)) before rose) c.finish.ensures.refused)
    (OnErr-map c.write-outcome.result (λ same. kept ∙ same ∙ was) c.write-outcome.ensures.err)

pub returns-else-not-stopped-clause-err : goal.returns-else-not-stopped-clause-err
returns-else-not-stopped-clause-err c = λ told.
    let old : Past = past_of c.args.self.now in
    let was : past_in c.count.new.self.history ≡ old = ap (λ (disk : MemDisk). past_of disk) c.count.ensures.only in
    elim c.else-not-stopped.branch [
      | else-not-stopped-via-then-not-stopped+else-is_err w ↦
          let kept : past_of c.else-not-stopped.self ≡ past_in w.write.new.self = ap (λ (disk : MemDisk). past_of disk) w.self-is in
          let it = on_success w.write.result _ (sym w.is_err.ensures.value ∙ w.if-is_err.false) w.write.ensures.ok in
          write_leaves_files c.args.name.now c.args.at c.args.bytes.now (length c.args.bytes.now / 2) old (past_of c.else-not-stopped.self)
          (subst (λ (now : Past). AddsWrite c.args.name.now c.args.at c.args.bytes.now (length c.args.bytes.now / 2) old now) (sym kept)
          (subst (λ (before : Past). AddsWrite c.args.name.now c.args.at c.args.bytes.now (length c.args.bytes.now / 2) before (past_in w.write.new.self)) was it))
      | else-not-stopped-via-else-not-stopped w ↦
          subst (λ (now : Past). WriteLeaves c.args.name.now c.args.at (length c.args.bytes.now) (files_now old) (files_now old) (files_now now)) (sym (ap (λ (disk : MemDisk). past_of disk) w.self-is ∙ was))
          (write_refl c.args.name.now c.args.at (length c.args.bytes.now) (files_now old) (files_now old))
    ]

pub returns-else-not-stopped-clause-half : goal.returns-else-not-stopped-clause-half
returns-else-not-stopped-clause-half c = λ listed running room.
    let old : Past = past_of c.args.self.now in
    let was : past_in c.count.new.self.history ≡ old = ap (λ (disk : MemDisk). past_of disk) c.count.ensures.only in
    elim c.else-not-stopped.branch [
      | else-not-stopped-via-then-not-stopped+else-is_err w ↦
          let kept : past_of c.else-not-stopped.self ≡ past_in w.write.new.self = ap (λ (disk : MemDisk). past_of disk) w.self-is in
          let it = on_success w.write.result _ (sym w.is_err.ensures.value ∙ w.if-is_err.false) w.write.ensures.ok in
          subst (λ (now : Past). AddsWrite c.args.name.now c.args.at c.args.bytes.now (length c.args.bytes.now / 2) old now) (sym kept)
          (subst (λ (before : Past). AddsWrite c.args.name.now c.args.at c.args.bytes.now (length c.args.bytes.now / 2) before (past_in w.write.new.self)) was it)
      | else-not-stopped-via-else-not-stopped w ↦ absurd (running (c.is_stopped-stopped.ensures.0 w.if-not-stopped.false))
    ]
