-- A file whose staged entries are settled is an accepted image.
use Rattle.std.proofs.Common.{◌≡◌, ◌⊎◌, inl, inr, ℕ, ◌+◌, ◌^◌, ◌<◌, ◌≤◌, max, true, List, [], ◌∷◌, length, Option, Some, None, Ok, refl, sym, ◌∙◌, ap, subst, arith}
use Rattle.std.specs.Prelude.{unwrap_or, nat_lt, nat_le}
use Rattle.std.proofs.lemmas.Bool.{lt-ltb, le-leb, ltb-true}
use Rattle.std.proofs.lemmas.Bool.Decides.{eqb_tells}
use Rattle.byteorder.specs.Endian.{little_bytes}
use Rattle.uuid.specs.Parts.{swap_fields}
use Rattle.vbm_ports.specs.Files.{piece}
use Rattle.vbm_header.specs.declared.Header.{Header}
use Rattle.vbm_header.specs.Field.{number_at, uuid_at}
use Rattle.vbm_header.specs.Header.{header_conditions, header_of, first_that_fails, unless, fields}
use Rattle.vbm_header.proofs.Headers.{unless-ok, all_hold, none_fails}
use Rattle.vbm_volume.specs.Image.{image_of, word_of, is_position, positions, map_conditions, data_at, IsSoundHeader}
use Rattle.vbm_volume.specs.Like.{map_end}
use Rattle.vbm_volume.proofs.Blocks.{distinct_from_blocks}
use Rattle.vbm_volume.proofs.Images.{image_of-ok, image_of-header}
use Rattle.vbm_volume.proofs.Likes.{all_positions, image_fields}
use Rattle.vbm_volume.proofs.Pieces.{piece-put_other, number_at-same_piece}
use Rattle.vbm_volume.proofs.Sectors.{at_block}
use Rattle.vbm_volume.proofs.Torn.{map_within}
use Rattle.vbm_blockmap.specs.Pending.{Staged, position_in}
use Rattle.vbm_image.specs.Image.{staged_word, AreStagedIn, FitStaged}
use Rattle.vbm_image.specs.Settling.{allocated_with, with_words, settled, settled_header}
use Rattle.vbm_image.proofs.SettledFiles.{Each, each_staged, each_below, length-with_words, length-little, number-put, piece-with_words}
use Rattle.vbm_image.proofs.SettledFiles.{counted_file, counted_length, settled_length, settled_word}
use Rattle.vbm_image.proofs.StagedWords.{staged_once, staged_within}

-- ---- the count

pub allocated_grows : (n : ℕ) (staged : Staged) → n ≤ allocated_with n staged
allocated_grows n [] = omega arith
allocated_grows n (s ∷ staged) = omega (arith, allocated_grows (max n (s.1 + 1)) staged)

pub allocated_small : (n : ℕ) (staged : Staged) → n < 2 ^ 32 → Each (λ b p. p + 1 < 2 ^ 32) staged → allocated_with n staged < 2 ^ 32
allocated_small n [] small each = small
allocated_small n (s ∷ staged) small each =
    let low : s.1 + 1 < 2 ^ 32 = each.0 in
    allocated_small (max n (s.1 + 1)) staged (omega arith) each.1

pub allocated_above : (n : ℕ) (staged : Staged) (b p : ℕ) → position_in staged b ≡ Some p → p < allocated_with n staged
allocated_above n [] b p is = absurd cc
allocated_above n (s ∷ staged) b p is = elim (eqb_tells b s.0) [
  | inl same ↦
      let e : s.1 ≡ p = (let both : Some s.1 ≡ Some p = sym (rw same.0 refl) ∙ is in cc both) in
      omega (arith, allocated_grows (max n (s.1 + 1)) staged)
  | inr apart ↦ allocated_above (max n (s.1 + 1)) staged b p (rw apart.0 at is)
]

module _ (h : Header) (f : List ℕ) (sound : IsSoundHeader h) (e : image_of f ≡ Ok h) where
  whole : map_end h ≤ length f
  whole = (map_within f h e).1

  -- the header's other fields
  settled_front : (staged : Staged) → AreStagedIn h staged → (s m : ℕ) → s + m ≤ 456 → (s + m ≤ 388) ⊎ (392 ≤ s)
      → piece (settled h staged f) s m ≡ piece f s m
  unfolding settled
  settled_front [] form s m inside apart = refl
  settled_front (t ∷ staged) form s m inside apart =
      let front = sound.header_end in
      let long = whole in
      let n : ℕ = allocated_with h.allocated (t ∷ staged) in
      let here = counted_length h sound (t ∷ staged) f whole in
      piece-with_words h (t ∷ staged) (counted_file h sound (t ∷ staged) f) s m (each_below h sound (t ∷ staged) form) (omega (arith, here))
      (omega (arith, here)) (inl (omega arith))
      ∙ piece-put_other 388 (little_bytes 4 n) f s m (omega arith) (elim apart [
        | inl before ↦ inl before
        | inr behind ↦ inr (omega (arith, length-little n))
      ])

  -- the count
  settled_allocated : (staged : Staged) → AreStagedIn h staged → allocated_with h.allocated staged < 2 ^ 32
      → number_at (settled h staged f) 388 4 ≡ allocated_with h.allocated staged
  unfolding settled
  settled_allocated [] form small = ap (λ (x : Header). x.allocated) (sym (image_fields f h e))
  settled_allocated (t ∷ staged) form small =
      let front = sound.header_end in
      let long = whole in
      let g : List ℕ = counted_file h sound (t ∷ staged) f in
      let here = counted_length h sound (t ∷ staged) f whole in
      let each = each_below h sound (t ∷ staged) form in
      let same = length-with_words h (t ∷ staged) g each (omega (arith, here)) in
      number_at-same_piece g (with_words h (t ∷ staged) g) 388 4 (omega arith) (omega arith)
      (piece-with_words h (t ∷ staged) g 388 4 each (omega arith) (omega arith) (inl (omega arith)))
      ∙ number-put 388 (allocated_with h.allocated (t ∷ staged)) f small

  module _ (staged : Staged) (form : AreStagedIn h staged) where
    same_length : length (settled h staged f) ≡ length f
    same_length = settled_length h sound staged f form whole

    same_number : (o w : ℕ) → o + w ≤ 456 → (o + w ≤ 388) ⊎ (392 ≤ o) → number_at (settled h staged f) o w ≡ number_at f o w
    same_number o w inside apart =
        let front = sound.header_end in
        let long = whole in
        let same = same_length in
        number_at-same_piece f (settled h staged f) o w (omega arith) (omega arith) (settled_front staged form o w inside apart)

    same_uuid : (o : ℕ) → o + 16 ≤ 456 → 392 ≤ o → uuid_at (settled h staged f) o ≡ uuid_at f o
    unfolding uuid_at
    same_uuid o inside behind = ap swap_fields (settled_front staged form o 16 inside (inr behind))

    pub settled_small : allocated_with h.allocated staged < 2 ^ 32
    settled_small = allocated_small h.allocated staged sound.allocated
        (each_staged (λ b p. p + 1 < 2 ^ 32) staged form.once (λ b p is. omega (arith, form.low b p is)))

    same_conditions : (len : ℕ) → header_conditions (settled h staged f) len ≡ header_conditions f len
    unfolding header_conditions
    same_conditions len =
        let e64 = same_number 64 4 (omega arith) (inl (omega arith)) in
        let e68 = same_number 68 4 (omega arith) (inl (omega arith)) in
        let e72 = same_number 72 4 (omega arith) (inl (omega arith)) in
        let e76 = same_number 76 4 (omega arith) (inl (omega arith)) in
        let e340 = same_number 340 4 (omega arith) (inl (omega arith)) in
        let e344 = same_number 344 4 (omega arith) (inl (omega arith)) in
        let e368 = same_number 368 8 (omega arith) (inl (omega arith)) in
        let e376 = same_number 376 4 (omega arith) (inl (omega arith)) in
        let e380 = same_number 380 4 (omega arith) (inl (omega arith)) in
        let e384 = same_number 384 4 (omega arith) (inl (omega arith)) in
        let u392 = same_uuid 392 (omega arith) (omega arith) in
        rw (e64, e68, e72, e76, e340, e344, e368, e376, e380, e384, u392) refl

    new_fields : fields (settled h staged f) ≡ settled_header h staged
    new_fields =
        let e72 = same_number 72 4 (omega arith) (inl (omega arith)) in
        let e76 = same_number 76 4 (omega arith) (inl (omega arith)) in
        let e340 = same_number 340 4 (omega arith) (inl (omega arith)) in
        let e344 = same_number 344 4 (omega arith) (inl (omega arith)) in
        let e368 = same_number 368 8 (omega arith) (inl (omega arith)) in
        let e384 = same_number 384 4 (omega arith) (inl (omega arith)) in
        let e388 = settled_allocated staged form settled_small in
        let u392 = same_uuid 392 (omega arith) (omega arith) in
        let u408 = same_uuid 408 (omega arith) (omega arith) in
        let u424 = same_uuid 424 (omega arith) (omega arith) in
        let u440 = same_uuid 440 (omega arith) (omega arith) in
        rw (e72, e76, e340, e344, e368, e384, e388, u392, u408, u424, u440)
        (ap (λ (x : Header). record x { allocated = allocated_with h.allocated staged }) (sym (image_fields f h e)))

    new_header : header_of (settled h staged f) (length (settled h staged f)) ≡ Ok (settled_header h staged)
    unfolding header_of
    new_header =
        let none = (unless-ok (first_that_fails (header_conditions f (length f))) (fields f) h (image_of-ok f h e).0).0 in
        ap (λ cs. unless (first_that_fails cs) (fields (settled h staged f))) (same_conditions (length (settled h staged f)))
        ∙ ap (λ (len : ℕ). unless (first_that_fails (header_conditions f len)) (fields (settled h staged f))) same_length
        ∙ ap (λ o. unless o (fields (settled h staged f))) none
        ∙ ap Ok new_fields

    same_word : (b : ℕ) → b < h.blocks → word_of (settled h staged f) h b ≡ staged_word f h staged b
    same_word = settled_word h sound staged f form whole

    counted : (b : ℕ) → b < h.blocks → is_position (staged_word f h staged b) ≡ true → staged_word f h staged b < allocated_with h.allocated staged
    counted b lt is = by (position_in staged b) refl is
      where
        by : (o : Option ℕ) → position_in staged b ≡ o → is_position (unwrap_or o (word_of f h b)) ≡ true
            → unwrap_or o (word_of f h b) < allocated_with h.allocated staged
        by None at is =
            let all = all_hold (map_conditions (positions f h) h (length f)) (image_of-ok f h e).1 in
            let low = ltb-true _ _ (at_block (λ p. nat_lt p h.allocated) f h.off_blocks h.blocks b all.0 lt is) in
            omega (arith, allocated_grows h.allocated staged)
        by (Some p) at is = allocated_above h.allocated staged b p at

    -- the image that the file is once its staged entries are settled
    pub settled_image : FitStaged h staged f → image_of (settled h staged f) ≡ Ok (settled_header h staged)
    settled_image fits =
        let g : List ℕ = settled h staged f in
        let k : Header = settled_header h staged in
        let was = λ (b : ℕ) (lt : b < h.blocks) (is : is_position (word_of g h b) ≡ true). ap is_position (sym (same_word b lt)) ∙ is in
        image_of-header g k new_header ∙ ap (λ o. unless o k) (none_fails (map_conditions (positions g k) k (length g)) (
          all_positions (λ p. nat_lt p (allocated_with h.allocated staged)) g h.off_blocks h.blocks (λ b lt is.
              lt-ltb _ _ (subst (λ (w : ℕ). w < allocated_with h.allocated staged) (sym (same_word b lt)) (counted b lt (was b lt is)))),
          (
            all_positions (λ p. nat_le (data_at h (p + 1)) (length g)) g h.off_blocks h.blocks (λ b lt is.
                le-leb _ _ (omega (arith, staged_within f h staged e fits b lt (was b lt is), same_word b lt, same_length))),
            (
              distinct_from_blocks g h.off_blocks h.blocks (λ a b less lt is_a is_b same.
                  let in_a : a < h.blocks = omega arith in
                  let one : a ≡ b = staged_once f h staged e fits a b in_a lt (was a in_a is_a)
                  (sym (same_word a in_a) ∙ same ∙ same_word b lt) in
                  omega arith),
              tt,
            ),
          ),
        ))
