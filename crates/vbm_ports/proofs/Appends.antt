-- Writing a list of bytes piece by piece.
use Rattle.std.proofs.Common.{◌≡◌, ℕ, ◌+◌, ◌-◌, List, ◌++◌, length, take, drop, sym, ap, ◌∙◌, arith}
use Rattle.std.proofs.lemmas.List.{append_assoc, length-drop, take_all}
use Rattle.std.proofs.Math.Seq.{take-add}

-- what `&bytes[i..]` points to
pub slice_from : (i : ℕ) (bytes : List ℕ) → take (length bytes - i) (drop i bytes) ≡ drop i bytes
slice_from i bytes = take_all (length bytes - i) (drop i bytes) (omega (arith, length-drop i bytes))

-- one piece more
pub append-piece : (old mid new bytes : List ℕ) (i n : ℕ) → mid ≡ old ++ take i bytes
    → new ≡ mid ++ take n (take (length bytes - i) (drop i bytes)) → new ≡ old ++ take (i + n) bytes
append-piece old mid new bytes i n before now =
    now ∙ ap (λ xs. mid ++ take n xs) (slice_from i bytes) ∙ ap (λ xs. xs ++ take n (drop i bytes)) before
    ∙ append_assoc old (take i bytes) (take n (drop i bytes)) ∙ ap (λ xs. old ++ xs) (sym (take-add i n bytes))
