use Rattle.std.proofs.Common.{◌≡◌, ◌+◌, ◌-◌, List, ℕ, length, map, take, drop, slice_get, Some, None, Err, refl, ap, sym, subst, ◌∙◌, arith}
use Rattle.std.specs.Option.{option_map}
use Rattle.std.proofs.lemmas.List.{take_rest}
use Rattle.std.proofs.lemmas.Option.{slice_get_read}
use Rattle.vbm_ports.specs.Files.{Files}
use Rattle.vbm_volume.specs.Image.{image_of}
use Rattle.vbm_header.specs.Header.{condition_number}
use Rattle.vbm_world.specs.declared.command.Refusal.TheVariants.{NotAnImage}
use Rattle.vbm_peek.specs.Peek.{all_there, unless_missing, Tells}
use Rattle.vbm_peek.proofs.PeekedFiles.{peeked-missing, peeked-stopped}
use Rattle.vbm_peek.proofs.peeking.peek_names.Goals as goal

pub returns-in-Err-Missing-clause-exact : goal.returns-in-Err-Missing-clause-exact
returns-in-Err-Missing-clause-exact g c = λ told.
    let files = (g.D.Disk.state c.args.disk.now).files in
    let names = c.args.names.now in
    let name = c.index-names-i.result in
    let at : slice_get names c.loop-i.i ≡ Some name = slice_get_read names _ c.loop-i.i name refl (omega arith) c.index-names-i.is in
    let there = c.loop-i.invariant.reads.files told in
    let fault = rw c.in-Err-Missing.field-0-is at c.in-Err-Missing.ensures.fault told in
    let absent : files name ≡ None = sym (ap (λ (fs : Files). fs name) there) ∙ ap (g.D.Disk.state c.loop-i.disk).files (sym c.bytes.ensures)
    ∙ fault in
    peeked-missing files names c.loop-i.i name c.args.lba at absent

pub returns-in-Err-Bad-clause-exact : goal.returns-in-Err-Bad-clause-exact
returns-in-Err-Bad-clause-exact g c = λ told.
    let files = (g.D.Disk.state c.args.disk.now).files in
    let names = c.args.names.now in
    let name = c.index-names-i.result in
    let at : slice_get names c.loop-i.i ≡ Some name = slice_get_read names _ c.loop-i.i name refl (omega arith) c.index-names-i.is in
    let bad = c.in-Err-Bad.bad in
    let there = c.loop-i.invariant.reads.files told in
    let fault = rw c.in-Err-Bad.field-0-is at c.in-Err-Bad.ensures.fault told in
    let exact = rw c.in-Err-Bad.field-0-is at c.refuse_image.ensures.exact told in
    let is : option_map image_of (files name) ≡ Some (Err bad) =
    sym (ap (λ (fs : Files). option_map image_of (fs name)) there)
    ∙ ap (λ n. option_map image_of ((g.D.Disk.state c.loop-i.disk).files n)) (sym c.bytes.ensures) ∙ fault in
    let refused = λ (fs : Files) (above : List (List ℕ)). unless_missing (all_there (map fs above)) (NotAnImage (condition_number bad)) in
    let later = c.loop-i.i + 1 in
    subst (Tells c.refuse_image.result)
    (ap (λ (fs : Files). refused fs (take (length names - later) (drop later names))) (c.open.ensures.reads.files told ∙ there)
    ∙ ap (refused files) (take_rest names later)
    ∙ sym (peeked-stopped files c.loop-i.opened names c.loop-i.i name bad c.args.lba (c.loop-i.invariant.from told) c.loop-i.invariant.names at is))
    exact
