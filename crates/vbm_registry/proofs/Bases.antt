-- The medium below an inner image.
use Rattle.std.proofs.Common.{◌≡◌, ℕ, List, [], ◌∷◌, reverse, Some, refl}
use Rattle.vbm_registry.specs.declared.library.Inner.{Inner}
use Rattle.vbm_registry.specs.declared.library.ImageRef.TheVariants as refs
use Rattle.vbm_registry.specs.Grammar.{base_down, base_of}

down_medium : (xs : List Inner) (place : ℕ) → base_down xs (refs.Medium place) ≡ Some place
down_medium [] place = refl
down_medium (x ∷ xs) place = refl

pub base_medium : (inners : List Inner) (place : ℕ) → base_of inners (refs.Medium place) ≡ Some place
base_medium inners place = down_medium (reverse inners) place
