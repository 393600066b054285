-- The bytes of the log between the gate and the record.
use Rattle.std.proofs.Common.{◌≡◌, ℕ, zero, suc, ◌+◌, ◌-◌, ◌≤◌, List, [], ◌∷◌, ◌++◌, length, take, drop, replicate, Option, Some, None, refl, sym, ◌∙◌, ap, arith, append_assoc, length-append, length-take}
use Rattle.std.proofs.lemmas.List.{take-append-le, take-replicate, length-replicate}
use Rattle.vbm_ports.specs.Files.{bytes_of, put}
use Rattle.vbm_intent.specs.Log.{IsShut, IsCommitted}
use Rattle.vbm_intent.specs.Partly.{behind_gate}

-- the first n bytes, with zeros for those that are missing
padded : (n m : ℕ) (bytes : List ℕ) → n ≤ m → take n (take n bytes ++ replicate (n - length bytes) 0) ≡ take n (bytes ++ replicate m 0)
padded zero m bytes enough = refl
padded (suc n) m [] enough = take-replicate (suc n) (suc n - 0) 0 (omega arith) ∙ sym (take-replicate (suc n) m 0 enough)
padded (suc n) m (b ∷ bytes) enough =
    let back : suc n - suc (length bytes) ≡ n - length bytes = omega arith in
    ap (λ (k : ℕ). b ∷ take n (take n bytes ++ replicate k 0)) back ∙ ap (λ (l : List ℕ). b ∷ l) (padded n m bytes (omega arith))

-- a record is put behind the gate, and the gate is written twice
pub committed : (text : List ℕ) (gate : ℕ) (file first second third new : Option (List ℕ)) → IsShut file → first ≡ Some (put 8 text (bytes_of file))
    → second ≡ Some (gate ∷ behind_gate first) → third ≡ second → new ≡ Some (0 ∷ behind_gate third) → IsCommitted file new
committed text gate None first second third new shut a b c d = absurd shut
committed text gate (Some []) first second third new shut a b c d = absurd shut
committed text gate (Some (g ∷ behind)) first second third new shut a b c d =
    ap (λ (f : Option (List ℕ)). take 8 (bytes_of f)) d
    ∙ ap (λ (f : Option (List ℕ)). 0 ∷ take 7 (behind_gate f)) (c ∙ b)
    ∙ ap (λ (f : Option (List ℕ)). 0 ∷ take 7 (behind_gate f)) a
    ∙ ap (λ (l : List ℕ). 0 ∷ take 7 l) (append_assoc front text back)
    ∙ ap (λ (l : List ℕ). 0 ∷ l) (take-append-le 7 front (text ++ back) (omega (arith, seven)))
    ∙ ap (λ (k : ℕ). 0 ∷ take 7 (take 7 behind ++ replicate k 0)) one_less
    ∙ ap (λ (l : List ℕ). 0 ∷ l) (padded 7 7 behind (omega arith))
  where
    front : List ℕ
    front = take 7 behind ++ replicate (8 - length (g ∷ behind)) 0

    back : List ℕ
    back = drop (8 + length text) (g ∷ behind)

    one_less : 8 - length (g ∷ behind) ≡ 7 - length behind
    one_less = omega arith

    seven : length front ≡ 7
    seven = omega (arith, length-append (take 7 behind) (replicate (8 - length (g ∷ behind)) 0), length-take 7 behind, length-replicate {A = ℕ} (8 - length (g ∷ behind)) 0)
