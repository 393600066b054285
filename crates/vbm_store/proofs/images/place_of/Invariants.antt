use Rattle.std.proofs.Common.{◌≡◌, ℕ, ◌<◌, false, get_or}
use Rattle.vbm_named.specs.Names.{is_before}
use Rattle.vbm_image.specs.declared.image.Image.{Image}
use Rattle.vbm_image.specs.Image.{image_name}
use Rattle.vbm_store.proofs.images.place_of.Given as goal

-- none so far is behind the name
abbrev pub invariant-loop-i : goal.invariant-loop-i
invariant-loop-i l = (d : Image) (k : ℕ) → k < l.i → is_before l.name (image_name (get_or l.images k d)) ≡ false
