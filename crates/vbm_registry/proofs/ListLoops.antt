-- Reading items one after the other, as a loop does.
use Rattle.std.proofs.Common.{◌≡◌, ℕ, suc, ◌-◌, ◌+◌, ◌≤◌, ◌<◌, List, [], ◌∷◌, ◌++◌, Ok, Err, refl, sym, ap, ◌∙◌, append_assoc, arith}
use Rattle.std.proofs.lemmas.List.{append-nil}
use Rattle.vbm_registry.specs.declared.cursor.Stop.{Stop}
use Rattle.vbm_registry.specs.declared.cursor.Stop.TheVariants as stops
use Rattle.vbm_registry.specs.Parts.{FilePart, Parsed, and_then, read_items}
use Rattle.vbm_registry.specs.Given.{Stops}

module _ {X : Type 0} (item : List X → FilePart X) (front : List X) (count i : ℕ) (bytes : List ℕ) (total : Parsed (List X)) where
  abbrev pub with_front : List X → Parsed (List X) → Parsed (List X)
  with_front before read = and_then read (λ xs after. Ok (before ++ xs, after))

  -- what was read, and then what is left to read
  abbrev pub SoFar : Type 0
  SoFar = with_front front (read_items item (count - i) front bytes) ≡ total

  regroup : (x : X) (read : Parsed (List X)) → with_front front (and_then read (λ xs after. Ok (x ∷ xs, after))) ≡ with_front (front ++ x ∷ []) read
  regroup x (Ok y) = ap (λ (xs : List X). Ok (xs, y.1)) (simp append_assoc)
  regroup x (Err left) = refl

  pub goes_on : (x : X) (after : List ℕ) → i < count → (item front).read bytes ≡ Ok (x, after) → SoFar
      → with_front (front ++ x ∷ []) (read_items item (count - (i + 1)) (front ++ x ∷ []) after) ≡ total
  goes_on x after lt h so_far =
      let k : count - i ≡ suc (count - (i + 1)) = omega arith in
      let one : with_front front (read_items item (count - i) front bytes)
      ≡ with_front (front ++ x ∷ []) (read_items item (count - (i + 1)) (front ++ x ∷ []) after) =
      rw (k, h) (regroup x (read_items item (count - (i + 1)) (front ++ x ∷ []) after)) in
      sym one ∙ so_far

  pub stops_too : (stop : Stop) → i < count → Stops stop ((item front).read bytes) → SoFar → Stops stop total
  stops_too stops.NoMemory lt h so_far = tt
  stops_too (stops.Left left) lt h so_far =
      let k : count - i ≡ suc (count - (i + 1)) = omega arith in
      let one : with_front front (read_items item (count - i) front bytes) ≡ Err left = rw (k, h) refl in
      sym so_far ∙ one

  pub is_done : count ≤ i → SoFar → total ≡ Ok (front, bytes)
  is_done le so_far =
      let k : count - i ≡ 0 = omega arith in
      let one : with_front front (read_items item (count - i) front bytes) ≡ Ok (front, bytes) =
      rw k (ap (λ (xs : List X). Ok (xs, bytes)) (append-nil front)) in
      sym so_far ∙ one
