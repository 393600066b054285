-- The lending of one image of a list, which may be changed.
use Rattle.std.specs.Prelude.{ℕ, slice_set}
use Rattle.std.specs.Borrow.{Lends, MutBor, Fml}
use Rattle.vbm_image.specs.declared.image.Image.{Image}
use Rattle.vbm_image.specs.contracts.image.Image.{the_row as image_row}
use Rattle.vbm_image.specs.contracts.images.Images.{the_row as images_row}
use Rattle.vbm_image.specs.Images.{ImagesState}

-- the images, with another one at a place
abbrev pub with_image : ImagesState → ℕ → Image → ImagesState
with_image images i image = record images { items = slice_set images.items i image }

-- The images end with that at the place as it is left behind r.
abbrev pub LendsImage : MutBor ImagesState → ℕ → MutBor Image → Fml
LendsImage s i r = Lends images_row image_row s r (with_image s.now i)
