-- What a file that is like an image keeps of it by pieces: whole blocks, and all of it where it is cut or filled at its end.
use Rattle.std.proofs.Common.{◌≡◌, ℕ, ◌+◌, ◌-◌, ◌*◌, ◌/◌, ◌%◌, ◌^◌, ◌<◌, ◌≤◌, Bool, List, length, get_or, take, Ok, sym, ap, ◌∙◌, arith, inl}
use Rattle.std.specs.Prelude.{IsFalse}
use Rattle.std.proofs.lemmas.List.{get_or-take, length-take, take-take}
use Rattle.vbm_ports.specs.Files.{piece, put}
use Rattle.vbm_ports.proofs.Puts.{length-put_any}
use Rattle.vbm_header.specs.declared.Header.{Header}
use Rattle.vbm_volume.specs.Image.{image_of, word_of, data_at}
use Rattle.vbm_volume.specs.Like.{map_end, HasPosition, sector_at, IsLikeFile}
use Rattle.vbm_volume.proofs.Pieces.{piece-ext, get_or-piece, piece-put_other}
use Rattle.vbm_volume.proofs.Torn.{map_within}

-- a block none of whose sectors is loose stands whole
module _ (f g : List ℕ) (h : Header) (loose : ℕ → Bool) (b : ℕ) (like : IsLikeFile h loose f g) (has : HasPosition h f b)
    (in_f : data_at h (word_of f h b + 1) ≤ length f) (settled : (k : ℕ) → k < 2048 → IsFalse (loose (b * 2048 + k))) where
  abbrev at : ℕ
  at = data_at h (word_of f h b)

  same_byte : (i : ℕ) → at ≤ i → i < at + 2 ^ 20 → get_or g i 0 ≡ get_or f i 0
  same_byte i low high =
      let k = (i - at) / 512 in
      let j = (i - at) % 512 in
      let place = sector_at h (word_of f h b) ((i - at) / 512) in
      let small : (i - at) / 512 < 2048 = omega arith in
      let inside : (i - at) % 512 < 512 = omega arith in
      let parts : sector_at h (word_of f h b) ((i - at) / 512) + (i - at) % 512 ≡ i = omega arith in
      ap (λ (n : ℕ). get_or g n 0) (sym parts)
      ∙ sym (get_or-piece g place 512 j inside)
      ∙ ap (λ (l : List ℕ). get_or l j 0) (like.bytes b k has small (settled k small))
      ∙ get_or-piece f place 512 j inside
      ∙ ap (λ (n : ℕ). get_or f n 0) parts

  pub like_block : piece g (data_at h (word_of f h b)) (2 ^ 20) ≡ piece f (data_at h (word_of f h b)) (2 ^ 20)
  like_block = let in_g = like.reach b has in piece-ext f g at (2 ^ 20) (omega arith) (omega arith) same_byte

-- a file that has the first bytes of an image, and all of its positions
pub front_like : (f g : List ℕ) (h : Header) (loose : ℕ → Bool) (n : ℕ) → take n g ≡ take n f → map_end h ≤ n
    → n ≤ length f → n ≤ length g → ((b : ℕ) → HasPosition h f b → data_at h (word_of f h b + 1) ≤ n) → IsLikeFile h loose f g
front_like f g h loose n same whole in_f in_g reach = record {
  head = sym (take-take (map_end h) n g whole) ∙ ap (take (map_end h)) same ∙ take-take (map_end h) n f whole;
  reach = λ b has. let r = reach b has in omega arith;
  bytes = λ b k has low settled.
      let r = reach b has in
      piece-ext f g (sector_at h (word_of f h b) k) 512 (omega arith) (omega arith) (λ i from to.
      let inside : i < n = omega arith in
      sym (get_or-take n g i 0 inside) ∙ ap (λ (l : List ℕ). get_or l i 0) same ∙ get_or-take n f i 0 inside);
}

-- a file that is cut behind all of its positions
pub cut_like : (f : List ℕ) (h : Header) (loose : ℕ → Bool) (n : ℕ) → map_end h ≤ n → n ≤ length f
    → ((b : ℕ) → HasPosition h f b → data_at h (word_of f h b + 1) ≤ n) → IsLikeFile h loose f (take n f)
cut_like f h loose n whole in_f reach =
    front_like f (take n f) h loose n (take-take n n f (omega arith)) whole in_f (omega (arith, length-take n f)) reach

-- bytes put at the end of a file or past it
pub fill_like : (f bytes : List ℕ) (h : Header) (loose : ℕ → Bool) (at : ℕ) → image_of f ≡ Ok h → length f ≤ at
    → ((b : ℕ) → HasPosition h f b → data_at h (word_of f h b + 1) ≤ length f) → IsLikeFile h loose f (put at bytes f)
fill_like f bytes h loose at e past reach =
    front_like f (put at bytes f) h loose (length f) (piece-put_other at bytes f 0 (length f) (omega arith) (inl (omega arith)))
    (map_within f h e).1 (omega arith) (omega (arith, length-put_any at bytes f)) reach
