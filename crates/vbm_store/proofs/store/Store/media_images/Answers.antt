use Rattle.std.proofs.Common.{List, length, length-take, ap, arith}
use Rattle.vbm_image.specs.declared.image.Image.{Image}
use Rattle.vbm_store.proofs.Listing.{enough_images}
use Rattle.vbm_store.proofs.store.Store.media_images.Goals as goal

pub slice_bounds-result-end : goal.slice_bounds-result-end
slice_bounds-result-end c =
    omega (arith, length-take c.len.result c.as_slice.result.now, c.len.ensures, enough_images c.args.self.now c.requires, ap (λ (images : List Image). length images) c.as_slice.ensures)
