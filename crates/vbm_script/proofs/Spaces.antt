-- Words behind spaces.
use Rattle.std.proofs.Common.{◌≡◌, List, [], ◌∷◌, ◌++◌, ℕ, append-nil}
use Rattle.std.proofs.lemmas.List.{append_assoc}
use Rattle.std.specs.Prelude.{codes}
use Rattle.vbm_lines.specs.Lines.{Words}
use Rattle.vbm_world.specs.Texts.{spaced}

-- one more word at the end of a line
pub grow : (words : Words) (word line : List ℕ) → (line ++ spaced words) ++ (codes " " ++ word) ≡ line ++ spaced (words ++ word ∷ [])
grow [] word line = simp append-nil
grow (w ∷ words) word line =
    let more : _ = grow words word (line ++ (codes " " ++ w)) in simp append_assoc (simp append_assoc at more)
