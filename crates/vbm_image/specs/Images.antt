-- Lists of images.
use Rattle.std.specs.Prelude.{ℕ, List}
use Rattle.vbm_image.specs.declared.image.Image.{Image}

-- the images in their order, and how many more there is room for
pub record ImagesState : Type 0 where
  pub items : List Image
  pub spare : ℕ
