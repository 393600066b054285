-- What stands where after bytes are put at a place.
use Rattle.std.proofs.Common.{◌≡◌, ℕ, ◌+◌, ◌-◌, ◌<◌, ◌≤◌, max, List, [], ◌∷◌, ◌++◌, append_assoc, length, get_or, take, drop, replicate, inl, inr, refl, sym, ◌∙◌, ap, arith, length-append, length-drop, length-take}
use Rattle.std.proofs.lemmas.List.{length-replicate, get_or-append_right, get_or_append_left, get_or-take, get_or-drop, append-nil, ext_get_or, take_all, drop_all, replicate_more}
use Rattle.std.proofs.lemmas.Bool.{cases_lt}
use Rattle.vbm_ports.specs.Files.{put}

module _ (at : ℕ) (bytes old : List ℕ) (fits : at ≤ length old) where
  -- no gap
  shape : put at bytes old ≡ (take at old ++ bytes) ++ drop (at + length bytes) old
  shape = let none : at - length old ≡ 0 = omega arith in
      ap (λ (k : ℕ). ((take at old ++ replicate k 0) ++ bytes) ++ drop (at + length bytes) old) none
      ∙ ap (λ (l : List ℕ). (l ++ bytes) ++ drop (at + length bytes) old) (append-nil (take at old))

  front : length (take at old) ≡ at
  front = omega (arith, length-take at old)

  middle : length (take at old ++ bytes) ≡ at + length bytes
  middle = omega (arith, front, length-append (take at old) bytes)

  pub length-put : length (put at bytes old) ≡ max (length old) (at + length bytes)
  length-put = omega (arith, ap length shape, length-append (take at old ++ bytes) (drop (at + length bytes) old), middle, length-drop (at + length bytes) old)

  pub put_before : (i : ℕ) → i < at → get_or (put at bytes old) i 0 ≡ get_or old i 0
  put_before i h =
      let short : i < length (take at old) = omega (arith, front) in
      let long : i < length (take at old ++ bytes) = omega (arith, middle) in
      ap (λ (l : List ℕ). get_or l i 0) shape
      ∙ get_or_append_left (take at old ++ bytes) (drop (at + length bytes) old) 0 i long
      ∙ get_or_append_left (take at old) bytes 0 i short
      ∙ get_or-take at old i 0 h

  pub put_inside : (i : ℕ) → at ≤ i → i < at + length bytes → get_or (put at bytes old) i 0 ≡ get_or bytes (i - at) 0
  put_inside i low high =
      let long : i < length (take at old ++ bytes) = omega (arith, middle) in
      ap (λ (l : List ℕ). get_or l i 0) shape
      ∙ get_or_append_left (take at old ++ bytes) (drop (at + length bytes) old) 0 i long
      ∙ get_or-append_right (take at old) bytes at i 0 front low

  pub put_after : (i : ℕ) → at + length bytes ≤ i → get_or (put at bytes old) i 0 ≡ get_or old i 0
  put_after i h =
      let back : at + length bytes + (i - (at + length bytes)) ≡ i = omega arith in
      ap (λ (l : List ℕ). get_or l i 0) shape
      ∙ get_or-append_right (take at old ++ bytes) (drop (at + length bytes) old) (at + length bytes) i 0 middle h
      ∙ get_or-drop (at + length bytes) old (i - (at + length bytes)) 0
      ∙ ap (λ (k : ℕ). get_or old k 0) back

-- the same at any place, with a gap or without
module _ (at : ℕ) (bytes old : List ℕ) where
  length-padded : length (take at old ++ replicate (at - length old) 0) ≡ at
  length-padded = omega (arith, length-append (take at old) (replicate (at - length old) 0), length-take at old, length-replicate {A = ℕ} (at - length old) 0)

  length-middle : length ((take at old ++ replicate (at - length old) 0) ++ bytes) ≡ at + length bytes
  length-middle = omega (arith, length-padded, length-append (take at old ++ replicate (at - length old) 0) bytes)

  pub length-put_any : length (put at bytes old) ≡ max (length old) (at + length bytes)
  length-put_any = omega (arith, length-append ((take at old ++ replicate (at - length old) 0) ++ bytes) (drop (at + length bytes) old), length-middle, length-drop (at + length bytes) old)

  pub put_before_any : (i : ℕ) → i < at → i < length old → get_or (put at bytes old) i 0 ≡ get_or old i 0
  put_before_any i h within =
      let near : i < length (take at old) = omega (arith, length-take at old) in
      get_or_append_left ((take at old ++ replicate (at - length old) 0) ++ bytes) (drop (at + length bytes) old) 0 i (omega (arith, length-middle))
      ∙ get_or_append_left (take at old ++ replicate (at - length old) 0) bytes 0 i (omega (arith, length-padded))
      ∙ get_or_append_left (take at old) (replicate (at - length old) 0) 0 i near
      ∙ get_or-take at old i 0 h

  pub put_after_any : (i : ℕ) → at + length bytes ≤ i → get_or (put at bytes old) i 0 ≡ get_or old i 0
  put_after_any i h =
      let back : at + length bytes + (i - (at + length bytes)) ≡ i = omega arith in
      get_or-append_right ((take at old ++ replicate (at - length old) 0) ++ bytes) (drop (at + length bytes) old) (at + length bytes) i 0 length-middle h
      ∙ get_or-drop (at + length bytes) old (i - (at + length bytes)) 0
      ∙ ap (λ (k : ℕ). get_or old k 0) back

-- two puts side by side
pub put_put : (at : ℕ) (xs ys old : List ℕ) → at ≤ length old → put (at + length xs) ys (put at xs old) ≡ put at (xs ++ ys) old
put_put at xs ys old fits = ext_get_or 0 (put (at + length xs) ys (put at xs old)) (put at (xs ++ ys) old) (omega (arith, len_left, len_mid, len_right, both)) each
  where
    both : length (xs ++ ys) ≡ length xs + length ys
    both = length-append xs ys

    len_mid : length (put at xs old) ≡ max (length old) (at + length xs)
    len_mid = length-put at xs old fits

    fits_mid : at + length xs ≤ length (put at xs old)
    fits_mid = omega (arith, len_mid)

    len_left : length (put (at + length xs) ys (put at xs old)) ≡ max (length (put at xs old)) (at + length xs + length ys)
    len_left = length-put (at + length xs) ys (put at xs old) fits_mid

    len_right : length (put at (xs ++ ys) old) ≡ max (length old) (at + length (xs ++ ys))
    len_right = length-put at (xs ++ ys) old fits

    each : (i : ℕ) → i < length (put (at + length xs) ys (put at xs old)) → get_or (put (at + length xs) ys (put at xs old)) i 0 ≡ get_or (put at (xs ++ ys) old) i 0
    each i h = elim (cases_lt i (at + length xs)) [
      | inl in_front ↦ put_before (at + length xs) ys (put at xs old) fits_mid i in_front ∙ front i in_front
      | inr behind ↦ elim (cases_lt i (at + length xs + length ys)) [
        | inl inside ↦
            put_inside (at + length xs) ys (put at xs old) fits_mid i behind inside
            ∙ ap (λ (k : ℕ). get_or ys k 0) (let e : i - (at + length xs) ≡ (i - at) - length xs = omega arith in e)
            ∙ sym (get_or-append_right xs ys (length xs) (i - at) 0 refl (omega arith))
            ∙ sym (put_inside at (xs ++ ys) old fits i (omega arith) (omega (arith, both)))
        | inr past ↦ put_after (at + length xs) ys (put at xs old) fits_mid i past ∙ put_after at xs old fits i (omega arith) ∙ sym (put_after at (xs ++ ys) old fits i (omega (arith, both)))
      ]
    ]
      where
        front : (i : ℕ) → i < at + length xs → get_or (put at xs old) i 0 ≡ get_or (put at (xs ++ ys) old) i 0
        front i in_front = elim (cases_lt i at) [
          | inl before ↦ put_before at xs old fits i before ∙ sym (put_before at (xs ++ ys) old fits i before)
          | inr from ↦ put_inside at xs old fits i from in_front ∙ sym (get_or_append_left xs ys 0 (i - at) (omega arith)) ∙ sym (put_inside at (xs ++ ys) old fits i from (omega (arith, both)))
        ]

-- bytes put at the end of a file or past it
put_past_end : (at : ℕ) (bytes old : List ℕ) → length old ≤ at → put at bytes old ≡ old ++ (replicate (at - length old) 0 ++ bytes)
put_past_end at bytes old past =
    ap (λ (l : List ℕ). ((l ++ replicate (at - length old) 0) ++ bytes) ++ drop (at + length bytes) old) (take_all at old past)
    ∙ ap (λ (l : List ℕ). ((old ++ replicate (at - length old) 0) ++ bytes) ++ l) (drop_all (at + length bytes) old (omega arith))
    ∙ append-nil ((old ++ replicate (at - length old) 0) ++ bytes)
    ∙ append_assoc old (replicate (at - length old) 0) bytes

-- The last of n zeros behind the end makes the others.
pub put_last_zero : (at n : ℕ) (old : List ℕ) → length old ≡ at → 0 < n → put (at + n - 1) (0 ∷ []) old ≡ put at (replicate n 0) old
put_last_zero at n old ends some = put_past_end (at + n - 1) (0 ∷ []) old (omega arith) ∙ ap (λ (l : List ℕ). old ++ l) (zeros ∙ sym none) ∙ sym (put_past_end at (replicate n 0) old (omega arith))
  where
    zeros : ◌≡◌ {A = List ℕ} (replicate (at + n - 1 - length old) 0 ++ 0 ∷ []) (replicate n 0)
    zeros = replicate_more (at + n - 1 - length old) 0 ∙ ap (λ (k : ℕ). replicate k 0) (let all : at + n - 1 - length old + 1 ≡ n = omega arith in all)

    none : ◌≡◌ {A = List ℕ} (replicate (at - length old) 0 ++ replicate n 0) (replicate n 0)
    none = ap (λ (k : ℕ). replicate k 0 ++ replicate n 0) (let no_gap : at - length old ≡ 0 = omega arith in no_gap)
