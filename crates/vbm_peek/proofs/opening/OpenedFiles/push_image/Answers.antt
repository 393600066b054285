use Rattle.std.proofs.Common.{◌≡◌, ◌++◌, [], ◌∷◌, Some, slice_get, refl, ap, sym, ◌∙◌}
use Rattle.vbm_peek.specs.declared.opening.OpenedFiles.{OpenedFiles}
use Rattle.vbm_peek.proofs.OpenedFiles.{get_last, adds_behind, on_ok, of_ok}
use Rattle.vbm_peek.proofs.opening.OpenedFiles.push_image.Goals as goal

pub returns-clause-added : goal.returns-clause-added
returns-clause-added c =
    let old = c.args.self.now in
    let image = c.args.image in
    let mid : OpenedFiles = record old { images = c.push.new.self } in
    let pushed : c.push.new.self.items ≡ old.images.items ++ image ∷ [] =
    of_ok c.push.result (sym c.is_err.ensures.value ∙ c.if-is_err.false) c.push.ensures.ok in
    let at : slice_get c.push.new.self.items c.len-number.result ≡ Some image =
    ap (λ xs. slice_get xs c.len-number.result) pushed ∙ ap (slice_get (old.images.items ++ image ∷ [])) c.len-number.ensures
    ∙ get_last old.images.items image in
    on_ok c.push-2.result (λ adds. adds_behind old mid c.push-2.new.self image pushed refl refl (adds image at)) c.push-2.ensures.added
