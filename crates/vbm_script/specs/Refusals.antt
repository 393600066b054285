-- What stands behind the name of a refusal.
use Rattle.std.specs.Prelude.{ℕ, List, [], ◌++◌, codes, decimal}
use Rattle.vbm_world.specs.Texts.{which_text}
use Rattle.vbm_world.specs.declared.command.Refusal.{Refusal}
use Rattle.vbm_world.specs.declared.command.Refusal.TheVariants.{NotAnImage, HasChildren, Full, BrokenChain}

-- the number or word of a refusal, behind a space
abbrev pub detail_text : Refusal → List ℕ
detail_text (NotAnImage k) = codes " " ++ decimal k
detail_text (HasChildren n) = codes " " ++ decimal n
detail_text (Full which) = codes " " ++ which_text which
detail_text (BrokenChain i) = codes " " ++ decimal i
detail_text _ = []
