use Rattle.std.proofs.Common.{◌≡◌, ◌≢◌, ℕ, length, slice_get, Some, None, refl, ap, sym, subst, ◌∙◌, arith, rules}
use Rattle.std.specs.Option.{option_map}
use Rattle.std.proofs.lemmas.Option.{slice_get_read}
use Rattle.vbm_ports.specs.Files.{Files}
use Rattle.vbm_header.specs.Header.{condition_number}
use Rattle.vbm_world.specs.declared.command.Refusal.TheVariants.{NotAnImage}
use Rattle.vbm_peek.specs.Peek.{unless_missing}
use Rattle.vbm_peek.proofs.PeekedFiles.{there-missing, more_there, no_length, has_length}
use Rattle.vbm_peek.proofs.peeking.refuse_image.Goals as goal

pub returns-in-Ok-None-clause-exact : goal.returns-in-Ok-None-clause-exact
returns-in-Ok-None-clause-exact g c = λ told.
    let files = (g.D.Disk.state c.args.disk.now).files in
    let names = c.args.above.now in
    let name = c.name-item.result in
    let at : slice_get names c.loop-name.name-index ≡ Some name =
    slice_get_read names _ c.loop-name.name-index name refl (omega arith) c.name-item.is in
    let told_now : None ≡ option_map (length {A = ℕ}) ((g.D.Disk.state c.loop-name.disk).files name) =
    sym c.in-Ok-None.field-0-is ∙ c.in-Ok-None.ensures.answer told
    ∙ ap (λ n. option_map length ((g.D.Disk.state c.loop-name.disk).files n)) c.bytes.ensures in
    let absent : files name ≡ None = sym (ap (λ (fs : Files). fs name) (c.loop-name.invariant.reads.files told)) ∙ no_length _ told_now in
    ap (λ there. unless_missing there (NotAnImage (condition_number c.args.bad))) (there-missing files names c.loop-name.name-index name at absent)

pub loop-name-preserved : goal.loop-name-preserved
loop-name-preserved g c =
    let names = c.args.above.now in
    let name = c.name-item.result in
    let at : slice_get names c.loop-name.name-index ≡ Some name =
    slice_get_read names _ c.loop-name.name-index name refl (omega arith) c.name-item.is in
    record {
      there = λ told.
          let told_now : Some c.in-Ok-Some.field-0-0 ≡ option_map (length {A = ℕ}) ((g.D.Disk.state c.loop-name.disk).files name) =
          sym c.in-Ok-Some.field-0-is ∙ c.in-Ok-Some.ensures.answer told
          ∙ ap (λ n. option_map length ((g.D.Disk.state c.loop-name.disk).files n)) c.bytes.ensures in
          let there : (g.D.Disk.state c.args.disk.now).files name ≢ None =
          subst (λ (fs : Files). fs name ≢ None) (c.loop-name.invariant.reads.files told) (has_length _ _ told_now) in
          more_there (g.D.Disk.state c.args.disk.now).files names c.loop-name.name-index name at there (c.loop-name.invariant.there told);
      faults = c.in-Ok-Some.ensures.no_fault ∙ c.loop-name.invariant.faults;
      reads = search rules;
    }
