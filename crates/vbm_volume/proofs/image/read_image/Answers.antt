use Rattle.std.proofs.lemmas.Result.{err_from_is_err_and}
use Rattle.vbm_header.specs.declared.Header.{Header}
use Rattle.std.proofs.Common.{ℕ}
use Rattle.vbm_volume.proofs.Images.{Answers-front}
use Rattle.vbm_volume.proofs.image.read_image.Goals as goal

pub returns-in_err-header-clause-exact : goal.returns-in_err-header-clause-exact
returns-in_err-header-clause-exact g c = λ told f is.
    let same = err_from_is_err_and c.from_residual.result c.from_residual.ensures.1 in
    rw (same.1, same.2)
    (Answers-front {T = Header × ℕ} f c.args.file_len c.in_err-header.field-0.0 (λ read. read.0) (c.requires.told told f is) (c.in_err-header.ensures.exact told f is))
