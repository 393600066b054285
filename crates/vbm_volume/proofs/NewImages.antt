-- A new image is accepted, and its disk is of zeros.
use Rattle.std.proofs.Common.{◌≡◌, ℕ, zero, suc, ◌+◌, ◌-◌, ◌*◌, ◌/◌, ◌%◌, ◌^◌, ◌<◌, ◌≤◌, true, List, ◌++◌, length, take, drop, replicate, Ok, refl}
use Rattle.std.proofs.Common.{sym}
use Rattle.std.proofs.Common.{ap, ◌∙◌, add-one, arith, inl, inr}
use Rattle.std.specs.Prelude.{nat_le, nat_lt}
use Rattle.std.proofs.lemmas.Bool.{cases_Bool, cases_lt, le-leb, lt-ltb, ltb-true}
use Rattle.std.proofs.lemmas.List.{append_assoc, drop-drop, drop-replicate, drop_at, length-append}
use Rattle.std.proofs.lemmas.List.{length-replicate, replicate_more, take-replicate}
use Rattle.byteorder.specs.Endian.{little_bytes, little_number}
use Rattle.vbm_header.specs.declared.Header.{Header}
use Rattle.vbm_header.specs.declared.ImageType.{ImageType}
use Rattle.vbm_header.specs.declared.ImageType.TheVariants.{Dynamic, Fixed, Differencing}
use Rattle.vbm_header.specs.Field.{number_at}
use Rattle.vbm_header.specs.Header.{header_of, unless}
use Rattle.vbm_header.specs.Written.{zeros}
use Rattle.vbm_header.proofs.Fields.{number_at-append, number_at-little_bytes}
use Rattle.vbm_header.proofs.Headers.{none_fails}
use Rattle.vbm_volume.specs.Image.{image_of, map_conditions, positions, word_of, is_position, data_at}
use Rattle.vbm_volume.specs.Like.{map_end}
use Rattle.vbm_volume.specs.Made.{own_words, new_map, new_allocated, IsNewHeader, made_front, made_image, IsLaidOut}
use Rattle.vbm_volume.specs.Sectors.{first_sectors, base_sector, flat_of_base, sector_count}
use Rattle.vbm_volume.proofs.Blocks.{distinct_from_blocks}
use Rattle.vbm_volume.proofs.Images.{image_of-header}
use Rattle.vbm_volume.proofs.Likes.{all_positions}
use Rattle.vbm_volume.proofs.NewHeaders.{new_laid_out, enough, length-made_front, front_word, front_header}

length-own_words : (n : ℕ) → length (own_words n) ≡ 4 * n
unfolding own_words
length-own_words zero = refl
length-own_words (suc n) = length-append (own_words n) (little_bytes 4 n) ∙ omega (arith, length-own_words n)

own_word : (n b : ℕ) → n ≤ 2 ^ 32 → b < n → number_at (own_words n) (4 * b) 4 ≡ b
unfolding own_words number_at
own_word zero b fits lt = absurd (omega arith)
own_word (suc n) b fits lt = elim (cases_lt b n) [
  | inl below ↦
      number_at-append (own_words n) (little_bytes 4 n) (4 * b) 4 (omega (arith, length-own_words n)) ∙ own_word n b (omega arith) below
  | inr last ↦
      let same : n ≡ b = omega arith in
      ap (little_number 4) (drop_at (own_words n) (little_bytes 4 n) (4 * b) (length-own_words n ∙ ap (λ k. 4 * k) same))
      ∙ number_at-little_bytes 4 n (omega arith) ∙ same
]

-- a word of a map of free blocks
pub free_word : (n b : ℕ) → b < n → number_at (replicate (4 * n) 255) (4 * b) 4 ≡ 0xFFFFFFFF
unfolding number_at
free_word n b lt =
    let more : 4 * n - 4 * b ≡ suc (suc (suc (suc (4 * (n - b - 1))))) = omega arith in
    rw (drop-replicate {X = ℕ} (4 * b) (4 * n) 255, more) refl

length-new_map : (t : ImageType) (n : ℕ) → length (new_map t n) ≡ 4 * n
length-new_map Dynamic n = length-replicate (4 * n) 255
length-new_map Fixed n = length-own_words n
length-new_map Differencing n = length-replicate (4 * n) 255

-- a position in a new map is that of its own block, and below the count
new_position : (t : ImageType) (n b : ℕ) → n ≤ 2 ^ 32 → b < n → is_position (number_at (new_map t n) (4 * b) 4) ≡ true
    → (number_at (new_map t n) (4 * b) 4 ≡ b) × (b < new_allocated t n)
new_position Dynamic n b fits lt is = absurd (omega (arith, ltb-true _ _ is, free_word n b lt))
new_position Fixed n b fits lt is = (own_word n b fits lt, lt)
new_position Differencing n b fits lt is = absurd (omega (arith, ltb-true _ _ is, free_word n b lt))

-- a sector of the zeros at the end of a file
zeros_after : (xs : List ℕ) (n at : ℕ) → length xs ≤ at → at + 512 ≤ length xs + n → take 512 (drop at (xs ++ zeros n)) ≡ zeros 512
zeros_after xs n at behind within =
    let more = at - length xs in
    let place : at ≡ length xs + more = omega arith in
    let rest =
    sym (drop-drop more (length xs) (xs ++ zeros n)) ∙ ap (drop more) (drop_at xs (zeros n) (length xs) refl)
    ∙ drop-replicate {X = ℕ} more n 0 in
    ap (λ k. take 512 (drop k (xs ++ zeros n))) place ∙ ap (take 512) rest ∙ take-replicate {X = ℕ} 512 (n - more) 0 (omega arith)

-- a disk of one sector over and over
pub first_sectors-all : (sector : ℕ → List ℕ) (n : ℕ) (xs : List ℕ) → ((i : ℕ) → i < n → sector i ≡ xs)
    → first_sectors sector n ≡ replicate n xs
unfolding first_sectors
first_sectors-all sector zero xs all = refl
first_sectors-all sector (suc n) xs all =
    rw (first_sectors-all sector n xs (λ i lt. all i (omega arith)), all n (omega arith))
    (replicate_more n xs ∙ ap (λ k. replicate k xs) (add-one n))

module _ (h : Header) (new : IsNewHeader h) where
  laid : IsLaidOut h
  laid = new_laid_out h new

  abbrev parts : (h.capacity ≤ h.blocks * 2 ^ 20) × (h.blocks ≤ 2 ^ 21) × (map_end h ≤ h.off_data) × (h.off_data ≤ map_end h + 2 ^ 20)
  parts = enough h laid

  abbrev words : List ℕ
  words = new_map h.image_type h.blocks

  -- how many zeros follow the map
  abbrev room : ℕ
  room = h.off_data - map_end h + h.allocated * 2 ^ 20

  length-before : length (made_front h ++ words) ≡ map_end h
  length-before = length-append (made_front h) words ∙ omega (arith, length-made_front h laid, length-new_map h.image_type h.blocks)

  in_parts : made_image h ≡ (made_front h ++ words) ++ zeros room
  in_parts = sym (append_assoc (made_front h) words (zeros room))

  pub length-made_image : length (made_image h) ≡ h.off_data + h.allocated * 2 ^ 20
  length-made_image =
      ap length in_parts ∙ length-append (made_front h ++ words) (zeros room)
      ∙ omega (arith, length-before, length-replicate {A = ℕ} room 0, parts.2)

  -- a word of the new map
  pub made_word : (b : ℕ) → b < h.blocks → word_of (made_image h) h b ≡ number_at (new_map h.image_type h.blocks) (4 * b) 4
  made_word b lt = front_word h laid words (zeros room) b (length-new_map h.image_type h.blocks) lt

  made_position : (b : ℕ) → b < h.blocks → is_position (word_of (made_image h) h b) ≡ true
      → (word_of (made_image h) h b ≡ b) × (b < h.allocated)
  made_position b lt is =
      let own = new_position h.image_type h.blocks b (omega (arith, parts.1)) lt (rw (made_word b lt) at is) in
      (made_word b lt ∙ own.0, rw new.allocated own.1)

  made_header : header_of (made_image h) (length (made_image h)) ≡ Ok h
  made_header = front_header h laid (words ++ zeros room) (omega (arith, length-made_image, parts.2))

  -- a new image is accepted
  pub made_accepted : image_of (made_image h) ≡ Ok h
  made_accepted =
      let f = made_image h in
      let count = all_positions (λ p. nat_lt p h.allocated) f h.off_blocks h.blocks
      (λ b lt is. let own = made_position b lt is in lt-ltb _ _ (rw own.0 own.1)) in
      let file = all_positions (λ p. nat_le (data_at h (p + 1)) (length f)) f h.off_blocks h.blocks
      (λ b lt is. let own = made_position b lt is in le-leb _ _ (rw own.0 (omega (arith, own.1, length-made_image)))) in
      let twice = distinct_from_blocks f h.off_blocks h.blocks (λ a b less lt is_a is_b same.
      omega (arith, less, same, (made_position a (omega arith) is_a).0, (made_position b lt is_b).0)) in
      image_of-header f h made_header
      ∙ ap (λ o. unless o h) (none_fails (map_conditions (positions f h) h (length f)) (count, (file, (twice, tt))))

  made_sector : (i : ℕ) → i < sector_count h → base_sector (made_image h) h i ≡ replicate 512 0
  unfolding base_sector
  made_sector i lt =
      let block : i / 2048 < h.blocks = omega (arith, parts.0) in
      elim (cases_Bool (is_position (word_of (made_image h) h (i / 2048)))) [
        | inl is ↦
            let own = made_position (i / 2048) block is in
            let at = data_at h (word_of (made_image h) h (i / 2048)) + i % 2048 * 512 in
            let within : at + 512 ≤ map_end h + room = omega (arith, parts.2, own) in
            rw is (ap (λ xs. take 512 (drop at xs)) in_parts
            ∙ zeros_after (made_front h ++ words) room at (omega (arith, length-before, parts.2)) (omega (arith, length-before)))
        | inr none ↦ rw none refl
      ]

  -- its disk is of zeros
  pub made_flat : flat_of_base (made_image h) h ≡ replicate (sector_count h) (replicate 512 0)
  made_flat = first_sectors-all (base_sector (made_image h) h) (sector_count h) (replicate 512 0) made_sector
