-- Bytes put at a place, and bytes filled.
use Rattle.std.proofs.Common.{◌≡◌, ⊎_elim, ℕ, ◌+◌, ◌-◌, ◌<◌, ◌≤◌, List, [], ◌∷◌, ◌++◌, Option, Some, None, IfSome, length, length-append, length-take, length-drop, get_or, min, take, drop, replicate, sym, ◌∙◌, ap, arith}
use Rattle.std.proofs.lemmas.List.{take-append-le, take_all, take-replicate, drop_all, append-nil, length-replicate, get_or_append_left, get_or-append_right, get_or-take, get_or-drop}
use Rattle.std.proofs.Math.ListN.{get_or-eq_default}
use Rattle.std.proofs.Math.Seq.{take-append-add}
use Rattle.std.proofs.lemmas.Bool.{cases_lt}
use Rattle.vbm_ports.specs.Files.{put, bytes_of}
use Rattle.vbm_memdisk.specs.Laws.{length-put}
use Rattle.vbm_memdisk.specs.Folders.{filled, wrote}

padded_front : (at n : ℕ) (old : List ℕ) → take at (old ++ replicate (at + n - length old) 0) ≡ take at old ++ replicate (at - length old) 0
padded_front at n old = ⊎_elim
    (λ (beyond : length old < at).
    let back : length old + (at - length old) ≡ at = omega arith in
    ap (λ (k : ℕ). take k (old ++ replicate (at + n - length old) 0)) (sym back)
    ∙ take-append-add old (replicate (at + n - length old) 0) (at - length old)
    ∙ ap (λ (l : List ℕ). old ++ l) (take-replicate (at - length old) (at + n - length old) 0 (omega arith))
    ∙ ap (λ (l : List ℕ). l ++ replicate (at - length old) 0) (sym (take_all at old (omega arith))))
    (λ (within : at ≤ length old).
    let none : at - length old ≡ 0 = omega arith in
    take-append-le at old (replicate (at + n - length old) 0) within
    ∙ sym (ap (λ (k : ℕ). take at old ++ replicate k 0) none ∙ append-nil (take at old)))
    (cases_lt (length old) at)

padded_back : (end : ℕ) (old : List ℕ) → drop end (old ++ replicate (end - length old) 0) ≡ drop end old
padded_back end old = ⊎_elim
    (λ (beyond : length old < end).
    drop_all end (old ++ replicate (end - length old) 0) (omega (arith, length-append old (replicate (end - length old) 0), length-replicate {A = ℕ} (end - length old) 0))
    ∙ sym (drop_all end old (omega arith)))
    (λ (within : end ≤ length old).
    let none : end - length old ≡ 0 = omega arith in
    ap (λ (k : ℕ). drop end (old ++ replicate k 0)) none ∙ ap (λ (l : List ℕ). drop end l) (append-nil old))
    (cases_lt (length old) end)

-- bytes that were copied into a file that was made long enough
pub put_padded : (at : ℕ) (bytes old padded : List ℕ) → padded ≡ old ++ replicate (at + length bytes - length old) 0
    → take at padded ++ bytes ++ drop (at + length bytes) padded ≡ put at bytes old
put_padded at bytes old padded is =
    ap (λ (l : List ℕ). take at l ++ bytes ++ drop (at + length bytes) l) is
    ∙ ap (λ (l : List ℕ). l ++ bytes ++ drop (at + length bytes) (old ++ replicate (at + length bytes - length old) 0)) (padded_front at (length bytes) old)
    ∙ ap (λ (l : List ℕ). take at old ++ replicate (at - length old) 0 ++ bytes ++ l) (padded_back (at + length bytes) old)

-- a slice of all bytes was written, as the code holds it
pub written_back : (len : ℕ) (new old : List ℕ) → length new ≡ length old → len ≡ length old → take len (new ++ drop (length new) old) ≡ new
written_back len new old same all =
    ap (λ (l : List ℕ). take len (new ++ l)) (drop_all (length new) old (omega arith))
    ∙ ap (λ (l : List ℕ). take len l) (append-nil new) ∙ take_all len new (omega arith)

-- what stands where after a part is filled
module _ (from to byte : ℕ) (bytes : List ℕ) (order : from ≤ to) where
  pub length-filled : length (filled from to byte bytes) ≡ length bytes
  length-filled = omega (
    arith,
    order,
    length-append (take from bytes ++ replicate (min to (length bytes) - from) byte) (drop to bytes),
    length-append (take from bytes) (replicate (min to (length bytes) - from) byte),
    length-take from bytes,
    length-replicate {A = ℕ} (min to (length bytes) - from) byte,
    length-drop to bytes,
  )

  pub filled_before : (i : ℕ) → i < from → i < length bytes → get_or (filled from to byte bytes) i 0 ≡ get_or bytes i 0
  filled_before i low within =
      let near : i < length (take from bytes) = omega (arith, length-take from bytes) in
      let both : i < length (take from bytes ++ replicate (min to (length bytes) - from) byte) = omega (arith, near, length-append (take from bytes) (replicate (min to (length bytes) - from) byte)) in
      get_or_append_left (take from bytes ++ replicate (min to (length bytes) - from) byte) (drop to bytes) 0 i both
      ∙ get_or_append_left (take from bytes) (replicate (min to (length bytes) - from) byte) 0 i near
      ∙ get_or-take from bytes i 0 low

  pub filled_after : (i : ℕ) → to ≤ i → get_or (filled from to byte bytes) i 0 ≡ get_or bytes i 0
  filled_after i high = ⊎_elim
      (λ (within : i < length bytes).
      let front : length (take from bytes ++ replicate (min to (length bytes) - from) byte) ≡ to = omega (arith, order, within, high, length-append (take from bytes) (replicate (min to (length bytes) - from) byte), length-take from bytes, length-replicate {A = ℕ} (min to (length bytes) - from) byte) in
      let back : to + (i - to) ≡ i = omega arith in
      get_or-append_right (take from bytes ++ replicate (min to (length bytes) - from) byte) (drop to bytes) to i 0 front high
      ∙ get_or-drop to bytes (i - to) 0 ∙ ap (λ (k : ℕ). get_or bytes k 0) back)
      (λ (beyond : length bytes ≤ i).
      let whole : length (filled from to byte bytes) ≤ i = omega (arith, length-filled) in
      get_or-eq_default (filled from to byte bytes) 0 whole ∙ sym (get_or-eq_default bytes 0 beyond))
      (cases_lt i (length bytes))

-- a write makes no file shorter
pub wrote_grows : (at to from : ℕ) (bytes : List ℕ) (old : Option (List ℕ)) → from ≤ length (bytes_of old) → from ≤ to
    → IfSome (wrote at bytes old) (λ new. (from ≤ length new) × (from ≤ to))
wrote_grows at to from [] None low order = tt
wrote_grows at to from [] (Some old) low order = (low, order)
wrote_grows at to from (byte ∷ bytes) None low order = (omega (arith, low), order)
wrote_grows at to from (byte ∷ bytes) (Some old) low order = (omega (arith, low, length-put at (byte ∷ bytes) old), order)
