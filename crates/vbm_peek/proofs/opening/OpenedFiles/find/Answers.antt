use Rattle.std.proofs.Common.{◌≡◌, slice_get, Some, refl, ap, sym, ◌∙◌, arith}
use Rattle.std.specs.Cmp.Lexicographic.{same_text}
use Rattle.std.proofs.lemmas.Option.{slice_get_read}
use Rattle.vbm_peek.proofs.opening.OpenedFiles.find.Goals as goal

pub returns-then-eq : goal.returns-then-eq
returns-then-eq c =
    let image = c.image-item.result in
    let here : slice_get c.as_slice-image-items.result.now c.loop-number.number ≡ Some image =
    slice_get_read c.as_slice-image-items.result.now _ c.loop-number.number image refl (omega arith) c.image-item.is in (
      image,
      sym (ap (λ images. slice_get images c.loop-number.number) c.as_slice-image-items.ensures) ∙ here,
      sym c.bytes.ensures ∙ same_text _ _ (sym c.if-eq.true ∙ c.eq.ensures),
    )
