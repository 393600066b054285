use Rattle.std.proofs.Common.{List, ℕ, take, replicate, sym, ap, subst, ◌∙◌, arith}
use Rattle.std.proofs.lemmas.List.{length-replicate}
use Rattle.vbm_ports.specs.Files.{Reads, bytes_of}
use Rattle.vbm_volume.proofs.Images.{front_read, sound_header}
use Rattle.vbm_volume.proofs.image.read_front.Goals as goal

pub returns-in-Ok-clause-exact : goal.returns-in-Ok-clause-exact
returns-in-Ok-clause-exact g c = λ told f is.
    let n = c.in_ok-read.field-0 in
    let blank : List ℕ = replicate 456 0 in
    let size = c.requires.told told f is in
    let read = subst (λ file. Reads (bytes_of file) 0 blank c.read.new.out n) is (c.in_ok-read.ensures.answer told) in
    let front = front_read f blank c.read.new.out n c.args.file_len read (length-replicate {A = ℕ} 456 0) size in
    sym (c.read_header.ensures.whole f size (front ∙ ap (λ m. take m c.read.new.out) (sym c.min-size.ensures))) ∙ c.in-Ok.is

pub returns-in-Err-clause-exact : goal.returns-in-Err-clause-exact
returns-in-Err-clause-exact g c = λ told f is.
    let n = c.in_ok-read.field-0 in
    let blank : List ℕ = replicate 456 0 in
    let size = c.requires.told told f is in
    let read = subst (λ file. Reads (bytes_of file) 0 blank c.read.new.out n) is (c.in_ok-read.ensures.answer told) in
    let front = front_read f blank c.read.new.out n c.args.file_len read (length-replicate {A = ℕ} 456 0) size in
    sym (c.read_header.ensures.whole f size (front ∙ ap (λ m. take m c.read.new.out) (sym c.min-size.ensures))) ∙ c.in-Err.is

pub returns-in-Ok-clause-sound : goal.returns-in-Ok-clause-sound
returns-in-Ok-clause-sound g c =
    sound_header _ c.args.file_len c.in-Ok.header (sym c.read_header.ensures.exact ∙ c.in-Ok.is) (omega arith)
