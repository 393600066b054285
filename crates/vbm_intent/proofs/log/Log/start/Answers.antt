use Rattle.std.proofs.Common.{◌<◌, length, sym, subst, arith}
use Rattle.vbm_ports.specs.Files.{bytes_of}
use Rattle.vbm_intent.specs.Changes.{log_name}
use Rattle.vbm_intent.proofs.Starts.{length_told, IsReady, read_ready, write_ready, sync_ready}
use Rattle.vbm_intent.proofs.log.Log.start.Goals as goal
use Rattle.vbm_intent.proofs.log.Log.start.Goals.{then-len+in_ok-write, else-len}

pub returns-in_err-write-clause-any_moment : goal.returns-in_err-write-clause-any_moment
returns-in_err-write-clause-any_moment g c = λ told only.
    let old = g.D.Disk.state c.args.disk.now in
    let counted = length_told (old.files log_name) c.in_ok-length.field-0 (c.in_ok-length.ensures.answer told) in
    let short : length (bytes_of (old.files log_name)) < 16 = omega (arith, counted, c.unwrap_or-len.ensures, c.if-len.true) in
    (write_ready g.D.Disk.tells old (c.requires.closed told) only _ _ told c.length.ensures.reads short (c.write.ensures.crash told) c.write.ensures.time).time

pub returns-in_err-sync-clause-any_moment : goal.returns-in_err-sync-clause-any_moment
returns-in_err-sync-clause-any_moment g c = λ told only.
    let old = g.D.Disk.state c.args.disk.now in
    let counted = length_told (old.files log_name) c.in_ok-length.field-0 (c.in_ok-length.ensures.answer told) in
    let ready : IsReady old (g.D.Disk.state c.if-len.disk) = elim c.if-len.branch [
      | then-len+in_ok-write w ↦
          let short : length (bytes_of (old.files log_name)) < 16 = omega (arith, counted, c.unwrap_or-len.ensures, w.if-len.true) in
          subst (λ d. IsReady old (g.D.Disk.state d)) (sym w.disk-is)
          (write_ready g.D.Disk.tells old (c.requires.closed told) only _ _ told c.length.ensures.reads short (w.write.ensures.crash told) w.write.ensures.time)
      | else-len w ↦
          subst (λ d. IsReady old (g.D.Disk.state d)) (sym w.disk-is) (read_ready g.D.Disk.tells old (c.requires.closed told) only _ c.length.ensures.reads)
    ] in
    sync_ready g.D.Disk.tells _ _ _ ready c.sync.ensures.reads

pub returns-clause-any_moment : goal.returns-clause-any_moment
returns-clause-any_moment g c = λ told only.
    let old = g.D.Disk.state c.args.disk.now in
    let counted = length_told (old.files log_name) c.in_ok-length.field-0 (c.in_ok-length.ensures.answer told) in
    let ready : IsReady old (g.D.Disk.state c.if-len.disk) = elim c.if-len.branch [
      | then-len+in_ok-write w ↦
          let short : length (bytes_of (old.files log_name)) < 16 = omega (arith, counted, c.unwrap_or-len.ensures, w.if-len.true) in
          subst (λ d. IsReady old (g.D.Disk.state d)) (sym w.disk-is)
          (write_ready g.D.Disk.tells old (c.requires.closed told) only _ _ told c.length.ensures.reads short (w.write.ensures.crash told) w.write.ensures.time)
      | else-len w ↦
          subst (λ d. IsReady old (g.D.Disk.state d)) (sym w.disk-is) (read_ready g.D.Disk.tells old (c.requires.closed told) only _ c.length.ensures.reads)
    ] in
    sync_ready g.D.Disk.tells _ _ _ ready c.sync.ensures.reads
