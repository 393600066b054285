-- Pieces of a buffer part of which was written, and sectors in them.
use Rattle.std.proofs.Common.{◌≡◌, inl, inr, ℕ, ◌+◌, ◌-◌, ◌*◌, ◌%◌, ◌<◌, ◌≤◌, min, true, false, List, ◌++◌, length, get_or, take, replicate, Some, refl, sym, ◌∙◌, ap, arith, length-append, length-take}
use Rattle.std.specs.Prelude.{nat_lt}
use Rattle.std.proofs.lemmas.Bool.{cases_lt, lt-ltb, le-ltb}
use Rattle.std.proofs.lemmas.List.{get_or_append_left, get_or-append_right, get_or-take, ext_get_or, get_or-replicate, length-replicate}
use Rattle.vbm_ports.specs.Files.{Files, piece}
use Rattle.vbm_volume.specs.Image.{data_at}
use Rattle.vbm_volume.specs.Like.{sector_at}
use Rattle.vbm_volume.specs.Sectors.{sector_count}
use Rattle.vbm_volume.proofs.Pieces.{piece-ext, length-piece, get_or-piece, piece-piece}
use Rattle.vbm_image.specs.declared.image.Image.{Image}
use Rattle.vbm_image.specs.Image.{file_in}
use Rattle.vbm_chain.specs.Settled.{HoldSectors}
use Rattle.vbm_chain.specs.Resolved.{image_sector}

-- bytes whose part from `a` on was replaced by others
module _ (a : ℕ) (xs ys rest : List ℕ) (fits : a ≤ length xs) where
  front : length (take a xs) ≡ a
  front = omega (arith, length-take a xs)

  whole : length (take a xs ++ (ys ++ rest)) ≡ a + (length ys + length rest)
  whole = omega (arith, front, length-append (take a xs) (ys ++ rest), length-append ys rest)

  -- before the part
  pub piece_before : (s m : ℕ) → s + m ≤ a → piece (take a xs ++ (ys ++ rest)) s m ≡ piece xs s m
  piece_before s m inside = piece-ext xs (take a xs ++ (ys ++ rest)) s m (omega arith) (omega (arith, whole)) (λ i low high.
      get_or_append_left (take a xs) (ys ++ rest) 0 i (omega (arith, front)) ∙ get_or-take a xs i 0 (omega arith))

  -- in it
  pub piece_inside : (s m : ℕ) → s + m ≤ length ys → piece (take a xs ++ (ys ++ rest)) (a + s) m ≡ piece ys s m
  piece_inside s m inside =
      let long : a + s + m ≤ length (take a xs ++ (ys ++ rest)) = omega (arith, whole) in
      ext_get_or 0 (piece (take a xs ++ (ys ++ rest)) (a + s) m) (piece ys s m)
      (length-piece (take a xs ++ (ys ++ rest)) (a + s) m long ∙ sym (length-piece ys s m inside))
      (λ i h. let low : i < m = omega (arith, length-piece (take a xs ++ (ys ++ rest)) (a + s) m long) in
      get_or-piece (take a xs ++ (ys ++ rest)) (a + s) m i low
      ∙ get_or-append_right (take a xs) (ys ++ rest) a (a + s + i) 0 front (omega arith)
      ∙ ap (λ k. get_or (ys ++ rest) k 0) (let e : a + s + i - a ≡ s + i = omega arith in e)
      ∙ get_or_append_left ys rest 0 (s + i) (omega arith)
      ∙ sym (get_or-piece ys s m i low))

-- a piece of zeros
pub piece-zeros : (n s m : ℕ) → s + m ≤ n → piece (replicate n 0) s m ≡ replicate m 0
piece-zeros n s m inside =
    let long : s + m ≤ length {A = ℕ} (replicate n 0) = omega (arith, length-replicate {A = ℕ} n 0) in
    ext_get_or 0 (piece (replicate n 0) s m) (replicate m 0) (length-piece (replicate n 0) s m long ∙ sym (length-replicate {A = ℕ} m 0))
    (λ i h. let low : i < m = omega (arith, length-piece (replicate n 0) s m long) in
    get_or-piece (replicate n 0) s m i low ∙ get_or-replicate n (s + i) 0 0 (omega arith) ∙ sym (get_or-replicate m i 0 0 low))

-- Sectors that were read at a position: the first `have` are those of the file, and those past the capacity were made zeros.
module _ (files : Files) (image : Image) (at block first n have : ℕ) (bytes new : List ℕ)
    (reach : data_at image.header (at + 1) ≤ length (file_in files image)) (inside : first + n ≤ 2048)
    (read : bytes ≡ piece (file_in files image) (sector_at image.header at first) (n * 512)) (size : length new ≡ n * 512)
    (count : have ≡ min (sector_count image.header - (block * 2048 + first)) n)
    (kept : (s m : ℕ) → s + m ≤ have * 512 → piece new s m ≡ piece bytes s m)
    (zeros : (s m : ℕ) → have * 512 ≤ s → s + m ≤ length new → piece new s m ≡ replicate m 0) where
  pub sectors_read : HoldSectors (image_sector files (Some image) at) (block * 2048 + first) n new
  sectors_read k low = elim (cases_lt k have) [
    | inl early ↦
        let counted : nat_lt (block * 2048 + first + k) (sector_count image.header) ≡ true = lt-ltb _ _ (omega arith) in
        let sector : (block * 2048 + first + k) % 2048 ≡ first + k = omega arith in
        let place : sector_at image.header at first + k * 512 ≡ data_at image.header at + (first + k) * 512 = omega arith in
        kept (k * 512) 512 (omega arith)
        ∙ ap (λ xs. piece xs (k * 512) 512) read
        ∙ piece-piece (file_in files image) (sector_at image.header at first) (n * 512) (k * 512) 512 (omega arith) (omega arith)
        ∙ rw (counted, sector) (ap (λ (o : ℕ). piece (file_in files image) o 512) place)
    | inr late ↦
        let past : nat_lt (block * 2048 + first + k) (sector_count image.header) ≡ false = le-ltb _ _ (omega arith) in
        zeros (k * 512) 512 (omega arith) (omega arith) ∙ rw past refl
  ]
