-- An image of which every block is free: it is accepted, reads as what stands below it or as zeros, and comes of any old file.
use Rattle.std.proofs.Common.{◌≡◌, ◌≢◌, ℕ, ◌+◌, ◌-◌, ◌*◌, ◌/◌, ◌^◌, ◌<◌, true, List, [], ◌∷◌, ◌++◌, length, take, drop, replicate}
use Rattle.std.proofs.Common.{reverse}
use Rattle.std.proofs.Common.{Ok, refl, sym, ap, ◌∙◌, arith}
use Rattle.std.specs.Prelude.{nat_le, nat_lt}
use Rattle.std.proofs.lemmas.Bool.{false≢true}
use Rattle.std.proofs.lemmas.List.{append_assoc, append-nil, length-append, length-replicate, reverse-append, take_at}
use Rattle.vbm_ports.specs.Files.{put}
use Rattle.vbm_header.specs.declared.Header.{Header}
use Rattle.vbm_header.specs.declared.ImageType.{ImageType}
use Rattle.vbm_header.specs.declared.ImageType.TheVariants.{Dynamic, Fixed, Differencing}
use Rattle.vbm_header.specs.Header.{unless}
use Rattle.vbm_header.specs.Written.{header_bytes, zeros}
use Rattle.vbm_header.proofs.Headers.{none_fails}
use Rattle.vbm_volume.specs.Chain.{Link, count_down, flat_down, chain_count, flat_of_chain}
use Rattle.vbm_volume.specs.Image.{image_of, map_conditions, positions, word_of, is_position, data_at}
use Rattle.vbm_volume.specs.Like.{map_end}
use Rattle.vbm_volume.specs.Made.{new_map, new_allocated, IsNewHeader, made_front, made_image, free_image, IsLaidOut}
use Rattle.vbm_volume.specs.Sectors.{base_sector, flat_of_base, sector_count}
use Rattle.vbm_volume.proofs.Blocks.{distinct_from_blocks}
use Rattle.vbm_volume.proofs.Downs.{flat_down-free}
use Rattle.vbm_volume.proofs.Images.{image_of-header}
use Rattle.vbm_volume.proofs.Likes.{all_positions}
use Rattle.vbm_volume.proofs.NewHeaders.{new_laid_out, length-header_bytes, enough, length-made_front, front_word, front_header}
use Rattle.vbm_volume.proofs.NewImages.{free_word, first_sectors-all}
use Rattle.vbm_volume.proofs.Pieces.{put-next}

-- these are the first bytes of a file
abbrev pub Begins : List ℕ → List ℕ → Type 0
Begins done f = (rest : List ℕ) × (f ≡ done ++ rest)

-- more bytes are put behind the first
pub put-begins : (at : ℕ) (bytes done f : List ℕ) → length done ≡ at → Begins done f → Begins (done ++ bytes) (put at bytes f)
put-begins at bytes done f long begins =
    (drop (length bytes) begins.0, ap (put at bytes) begins.1 ∙ put-next at bytes done begins.0 long)

module _ (h : Header) (laid : IsLaidOut h) where
  abbrev free_words : List ℕ
  free_words = replicate (4 * h.blocks) 255

  abbrev gap : List ℕ
  gap = zeros (h.off_data - map_end h)

  length-mapped : length (made_front h ++ free_words) ≡ map_end h
  length-mapped =
      length-append (made_front h) free_words
      ∙ omega (arith, length-made_front h laid, length-replicate {A = ℕ} (4 * h.blocks) 255)

  pub length-free_image : length (free_image h) ≡ h.off_data
  length-free_image =
      ap length (sym (append_assoc (made_front h) free_words gap)) ∙ length-append (made_front h ++ free_words) gap
      ∙ omega (arith, length-mapped, length-replicate {A = ℕ} (h.off_data - map_end h) 0, enough h laid)

  pub free_image-word : (b : ℕ) → b < h.blocks → word_of (free_image h) h b ≡ 0xFFFFFFFF
  free_image-word b lt = front_word h laid free_words gap b (length-replicate {A = ℕ} (4 * h.blocks) 255) lt ∙ free_word h.blocks b lt

  no_position : (b : ℕ) → b < h.blocks → is_position (word_of (free_image h) h b) ≡ true → ⊥
  no_position b lt is = false≢true (sym (ap is_position (free_image-word b lt)) ∙ is)

  pub free_accepted : image_of (free_image h) ≡ Ok h
  free_accepted =
      let f = free_image h in
      let count = all_positions (λ p. nat_lt p h.allocated) f h.off_blocks h.blocks (λ b lt is. absurd (no_position b lt is)) in
      let file = all_positions (λ p. nat_le (data_at h (p + 1)) (length f)) f h.off_blocks h.blocks (λ b lt is. absurd (no_position b lt is)) in
      let twice = distinct_from_blocks f h.off_blocks h.blocks (λ a b less lt is_a is_b. absurd (no_position b lt is_b)) in
      image_of-header f h (front_header h laid (free_words ++ gap) (omega (arith, length-free_image, enough h laid)))
      ∙ ap (λ o. unless o h) (none_fails (map_conditions (positions f h) h (length f)) (count, (file, (twice, tt))))

  block_within : (i : ℕ) → i < sector_count h → i / 2048 < h.blocks
  block_within i lt = omega (arith, (enough h laid).0)

  -- alone it reads as zeros
  free_sector : (i : ℕ) → i < sector_count h → base_sector (free_image h) h i ≡ replicate 512 0
  unfolding base_sector
  free_sector i lt = rw (free_image-word (i / 2048) (block_within i lt)) refl

  pub free_flat : flat_of_base (free_image h) h ≡ replicate (sector_count h) (replicate 512 0)
  free_flat = first_sectors-all (base_sector (free_image h) h) (sector_count h) (replicate 512 0) free_sector

  -- above files of its capacity it reads as they do
  pub free_down : (below : List Link) → sector_count h ≡ count_down below → flat_down ((free_image h, h) ∷ below) ≡ flat_down below
  free_down below large =
      flat_down-free (free_image h, h) below large (λ i lt. rw (free_image-word (i / 2048) (block_within i lt)) refl)

  pub free_chain : (below : List Link) → sector_count h ≡ chain_count below
      → flat_of_chain (below ++ (free_image h, h) ∷ []) ≡ flat_of_chain below
  free_chain below large =
      ap flat_down (reverse-append below ((free_image h, h) ∷ [])) ∙ free_down (reverse below) large

  -- ---- it comes of any old file by these puts and a cut

  pub front_begins : (old : List ℕ) → Begins (made_front h) (put 472 (zeros (h.off_blocks - 472)) (put 0 (header_bytes h) old))
  front_begins old =
      put-begins 472 (zeros (h.off_blocks - 472)) (header_bytes h) (put 0 (header_bytes h) old) (length-header_bytes h)
      (put-begins 0 (header_bytes h) [] old refl (old, refl))

  pub map_begins : (f : List ℕ) → Begins (made_front h) f
      → Begins (made_front h ++ replicate (4 * h.blocks) 255) (put h.off_blocks (replicate (4 * h.blocks) 255) f)
  map_begins f begins = put-begins h.off_blocks free_words (made_front h) f (length-made_front h laid) begins

  whole : (made_front h ++ free_words) ++ gap ≡ free_image h
  whole = append_assoc (made_front h) free_words gap

  pub gap_begins : (f : List ℕ) → Begins (made_front h ++ replicate (4 * h.blocks) 255) f
      → Begins (free_image h) (put (map_end h) (zeros (h.off_data - map_end h)) f)
  gap_begins f begins =
      let both = put-begins (map_end h) gap (made_front h ++ free_words) f length-mapped begins in
      (both.0, both.1 ∙ ap (λ l. l ++ both.0) whole)

  -- where the data begins right behind the map there is no gap
  pub no_gap_begins : (f : List ℕ) → h.off_data ≡ map_end h → Begins (made_front h ++ replicate (4 * h.blocks) 255) f
      → Begins (free_image h) f
  no_gap_begins f close begins =
      let none : h.off_data - map_end h ≡ 0 = omega (arith, close) in
      let mapped : made_front h ++ free_words ≡ free_image h =
      sym (append-nil (made_front h ++ free_words)) ∙ ap (λ n. (made_front h ++ free_words) ++ zeros n) (sym none) ∙ whole in
      (begins.0, begins.1 ∙ ap (λ l. l ++ begins.0) mapped)

  -- what is behind, of an old file, is cut off at last
  pub free_cut : (f : List ℕ) → Begins (free_image h) f → take h.off_data f ≡ free_image h
  free_cut f begins = ap (take h.off_data) begins.1 ∙ take_at (free_image h) begins.0 h.off_data length-free_image

-- ---- new images that are not fixed begin so

made_parts : (h : Header) (t : ImageType) → t ≢ Fixed → h.allocated ≡ new_allocated t h.blocks
    → (new_map t h.blocks ≡ replicate (4 * h.blocks) 255) × (h.allocated ≡ 0)
made_parts h Dynamic differs is = (refl, is)
made_parts h Fixed differs is = absurd (differs refl)
made_parts h Differencing differs is = (refl, is)

pub made_image-free : (h : Header) → IsNewHeader h → h.image_type ≢ Fixed → made_image h ≡ free_image h
made_image-free h new differs =
    let both = made_parts h h.image_type differs new.allocated in
    let none : h.allocated ≡ 0 = both.1 in
    let room : h.off_data - map_end h + h.allocated * 2 ^ 20 ≡ h.off_data - map_end h = rw none (omega arith) in
    ap (λ words. made_front h ++ (words ++ zeros (h.off_data - map_end h + h.allocated * 2 ^ 20))) both.0
    ∙ ap (λ n. made_front h ++ (replicate (4 * h.blocks) 255 ++ zeros n)) room

-- a new differencing image reads as the files below it
pub new_down : (h : Header) (below : List Link) → IsNewHeader h → h.image_type ≢ Fixed → sector_count h ≡ count_down below
    → flat_down ((made_image h, h) ∷ below) ≡ flat_down below
new_down h below new differs large =
    ap (λ f. flat_down ((f, h) ∷ below)) (made_image-free h new differs) ∙ free_down h (new_laid_out h new) below large

pub new_chain : (h : Header) (below : List Link) → IsNewHeader h → h.image_type ≢ Fixed → sector_count h ≡ chain_count below
    → flat_of_chain (below ++ (made_image h, h) ∷ []) ≡ flat_of_chain below
new_chain h below new differs large =
    ap (λ f. flat_of_chain (below ++ (f, h) ∷ [])) (made_image-free h new differs) ∙ free_chain h (new_laid_out h new) below large
