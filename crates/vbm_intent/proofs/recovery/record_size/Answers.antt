use Rattle.std.proofs.Common.{◌≤◌, length, replicate, subst, arith}
use Rattle.vbm_ports.specs.Files.{bytes_of, Reads}
use Rattle.vbm_intent.specs.Changes.{log_name}
use Rattle.vbm_intent.proofs.Starts.{length_told}
use Rattle.vbm_intent.proofs.Redos.{head_tells}
use Rattle.vbm_intent.proofs.recovery.record_size.Goals as goal

pub returns-clause-answer : goal.returns-clause-answer
returns-clause-answer g c = λ told.
    let file = (g.D.Disk.state c.args.disk.now).files log_name in
    let counted = length_told file c.in_ok-length.field-0 (c.in_ok-length.ensures.answer told) in
    let long : 16 ≤ length (bytes_of file) = omega (arith, counted, c.unwrap_or-len.ensures, c.if-len.false) in
    let reads = subst (λ f. Reads (bytes_of (f log_name)) 0 (replicate 16 0) c.read.new.out c.in_ok-read.field-0)
    (c.length.ensures.reads.files told) (c.in_ok-read.ensures.answer told) in
    let tells = head_tells file (replicate 16 0) c.read.new.out c.in_ok-read.field-0 reads long (omega arith) (omega arith) in
    (tells.0, cc (tells.1, c.u32_at.ensures, c.min.ensures))
