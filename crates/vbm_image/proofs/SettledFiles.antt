-- A file with its staged entries settled: its words, and what stays.
use Rattle.std.proofs.Common.{◌≡◌, ◌≢◌, ◌⊎◌, inl, inr, ℕ, ◌+◌, ◌*◌, ◌^◌, ◌<◌, ◌≤◌, List, [], ◌∷◌, length, drop, Option, Some, None, refl, sym, ◌∙◌, ap, arith}
use Rattle.std.specs.Prelude.{unwrap_or}
use Rattle.std.proofs.lemmas.Bool.{cases_lt}
use Rattle.std.proofs.lemmas.Bool.Decides.{eqb_tells}
use Rattle.std.proofs.lemmas.List.{length-drop}
use Rattle.byteorder.specs.Endian.{little_bytes}
use Rattle.vbm_ports.specs.Files.{put, piece}
use Rattle.vbm_ports.proofs.Puts.{length-put_any}
use Rattle.vbm_header.specs.declared.Header.{Header}
use Rattle.vbm_header.specs.Field.{number_at}
use Rattle.vbm_header.proofs.Fields.{number_at-drop, number_at-take, number_at-little_bytes}
use Rattle.vbm_volume.specs.Image.{word_of, IsSoundHeader}
use Rattle.vbm_volume.specs.Like.{map_end}
use Rattle.vbm_volume.proofs.Pieces.{piece-put, piece-put_other, number_at-same_piece, length-piece}
use Rattle.vbm_blockmap.specs.Pending.{Staged, position_in}
use Rattle.vbm_image.specs.Image.{staged_word, HasEachOnce, AreStagedIn}
use Rattle.vbm_image.specs.Settling.{allocated_with, with_words, settled}
use Rattle.vbm_image.proofs.StagedWords.{found_first, found_later}

-- what holds of each staged entry
abbrev pub Each : (ℕ → ℕ → Type 0) → Staged → Type 0
Each Q [] = Unit {0}
Each Q (s ∷ staged) = Q s.0 s.1 × Each Q staged

pub each_staged : (Q : ℕ → ℕ → Type 0) (staged : Staged) → HasEachOnce staged → ((b p : ℕ) → position_in staged b ≡ Some p → Q b p)
    → Each Q staged
each_staged Q [] once all = tt
each_staged Q (s ∷ staged) once all =
    (all s.0 s.1 (found_first s staged), each_staged Q staged once.1 (λ b p is. all b p (found_later s staged b p once.0 is)))

-- ---- one number of four bytes

pub length-little : (n : ℕ) → length (little_bytes 4 n) ≡ 4
length-little n = refl

-- a number that was put is read back
pub number-put : (o n : ℕ) (f : List ℕ) → n < 2 ^ 32 → number_at (put o (little_bytes 4 n) f) o 4 ≡ n
number-put o n f small =
    let g : List ℕ = put o (little_bytes 4 n) f in
    let long : o + 4 ≤ length g = omega (arith, length-put_any o (little_bytes 4 n) f, length-little n) in
    let place : o + 0 ≡ o = omega arith in
    sym (ap (λ k. number_at g k 4) place)
    ∙ sym (number_at-drop g o 0 4)
    ∙ sym (number_at-take 4 (drop o g) 0 4 (omega arith) (omega (arith, length-piece g o 4 long, length-drop o g)))
    ∙ ap (λ xs. number_at xs 0 4) (piece-put o (little_bytes 4 n) f)
    ∙ number_at-little_bytes 4 n (omega arith)

number-put_other : (o n : ℕ) (f : List ℕ) (s : ℕ) → s + 4 ≤ length f → (s + 4 ≤ o) ⊎ (o + 4 ≤ s)
    → number_at (put o (little_bytes 4 n) f) s 4 ≡ number_at f s 4
number-put_other o n f s fits apart =
    number_at-same_piece f (put o (little_bytes 4 n) f) s 4 fits (omega (arith, length-put_any o (little_bytes 4 n) f))
    (piece-put_other o (little_bytes 4 n) f s 4 fits apart)

pub length-put4 : (o n : ℕ) (f : List ℕ) → o + 4 ≤ length f → length (put o (little_bytes 4 n) f) ≡ length f
length-put4 o n f inside = omega (arith, length-put_any o (little_bytes 4 n) f, length-little n)

module _ (h : Header) where
  -- each word lies in the map
  abbrev pub IsBelow : ℕ → ℕ → Type 0
  IsBelow b p = (b < h.blocks) × (p < 2 ^ 32)

  abbrev next : ℕ × ℕ → List ℕ → List ℕ
  next s f = put (h.off_blocks + 4 * s.0) (little_bytes 4 s.1) f

  next_length : (s : ℕ × ℕ) (f : List ℕ) → s.0 < h.blocks → map_end h ≤ length f → length (next s f) ≡ length f
  next_length s f low whole = length-put4 (h.off_blocks + 4 * s.0) s.1 f (omega arith)

  pub length-with_words : (staged : Staged) (f : List ℕ) → Each IsBelow staged → map_end h ≤ length f
      → length (with_words h staged f) ≡ length f
  length-with_words [] f each whole = refl
  length-with_words (s ∷ staged) f each whole =
      let here = next_length s f each.0.0 whole in
      length-with_words staged (next s f) each.1 (omega (arith, here)) ∙ here

  pub piece-with_words : (staged : Staged) (f : List ℕ) (s m : ℕ) → Each IsBelow staged → map_end h ≤ length f → s + m ≤ length f
      → (s + m ≤ h.off_blocks) ⊎ (map_end h ≤ s) → piece (with_words h staged f) s m ≡ piece f s m
  piece-with_words [] f s m each whole fits apart = refl
  piece-with_words (t ∷ staged) f s m each whole fits apart =
      let here = next_length t f each.0.0 whole in
      let low : t.0 < h.blocks = each.0.0 in
      piece-with_words staged (next t f) s m each.1 (omega (arith, here)) (omega (arith, here)) apart
      ∙ piece-put_other (h.off_blocks + 4 * t.0) (little_bytes 4 t.1) f s m fits (elim apart [
        | inl before ↦ inl (omega arith)
        | inr behind ↦ inr (omega (arith, length-little t.1))
      ])

  apart_words : (b c : ℕ) → b ≢ c → (h.off_blocks + 4 * b + 4 ≤ h.off_blocks + 4 * c) ⊎ (h.off_blocks + 4 * c + 4 ≤ h.off_blocks + 4 * b)
  apart_words b c other = elim (cases_lt b c) [
    | inl less ↦ inl (omega arith)
    | inr more ↦ inr (omega (arith, other))
  ]

  pub word-with_words : (staged : Staged) (f : List ℕ) (b : ℕ) → Each IsBelow staged → HasEachOnce staged → map_end h ≤ length f
      → b < h.blocks → word_of (with_words h staged f) h b ≡ staged_word f h staged b
  word-with_words [] f b each once whole inside = refl
  word-with_words (s ∷ staged) f b each once whole inside =
      let here = next_length s f each.0.0 whole in
      word-with_words staged (next s f) b each.1 once.1 (omega (arith, here)) inside ∙ elim (eqb_tells b s.0) [
        | inl same ↦
            let found : position_in (s ∷ staged) b ≡ Some s.1 = rw same.0 refl in
            let none : position_in staged b ≡ None = ap (position_in staged) same.1 ∙ once.0 in
            ap (λ (o : Option ℕ). unwrap_or o (word_of (next s f) h b)) none
            ∙ ap (λ k. number_at (next s f) (h.off_blocks + 4 * k) 4) same.1
            ∙ number-put (h.off_blocks + 4 * s.0) s.1 f each.0.1
            ∙ sym (ap (λ (o : Option ℕ). unwrap_or o (word_of f h b)) found)
        | inr differ ↦
            let later : position_in (s ∷ staged) b ≡ position_in staged b = rw differ.0 refl in
            let kept : word_of (next s f) h b ≡ word_of f h b =
            number-put_other (h.off_blocks + 4 * s.0) s.1 f (h.off_blocks + 4 * b) (omega arith) (apart_words b s.0 differ.1) in
            ap (λ (w : ℕ). unwrap_or (position_in staged b) w) kept
            ∙ sym (ap (λ (o : Option ℕ). unwrap_or o (word_of f h b)) later)
      ]

  module _ (sound : IsSoundHeader h) where
    pub each_below : (staged : Staged) → AreStagedIn h staged → Each IsBelow staged
    each_below staged form = each_staged IsBelow staged form.once (λ b p is. (form.block b p is, omega (arith, form.low b p is)))

    -- the file with the count put
    abbrev pub counted_file : Staged → List ℕ → List ℕ
    counted_file staged f = put 388 (little_bytes 4 (allocated_with h.allocated staged)) f

    pub counted_length : (staged : Staged) (f : List ℕ) → map_end h ≤ length f → length (counted_file staged f) ≡ length f
    counted_length staged f whole = length-put4 388 (allocated_with h.allocated staged) f (omega (arith, sound.header_end))

    pub settled_length : (staged : Staged) (f : List ℕ) → AreStagedIn h staged → map_end h ≤ length f → length (settled h staged f) ≡ length f
    unfolding settled
    settled_length [] f form whole = refl
    settled_length (s ∷ staged) f form whole =
        let here = counted_length (s ∷ staged) f whole in
        length-with_words (s ∷ staged) (counted_file (s ∷ staged) f) (each_below (s ∷ staged) form) (omega (arith, here)) ∙ here

    -- the word of each block is the staged one, or that of the file
    pub settled_word : (staged : Staged) (f : List ℕ) → AreStagedIn h staged → map_end h ≤ length f → (b : ℕ) → b < h.blocks
        → word_of (settled h staged f) h b ≡ staged_word f h staged b
    unfolding settled
    settled_word [] f form whole b inside = refl
    settled_word (s ∷ staged) f form whole b inside =
        let here = counted_length (s ∷ staged) f whole in
        let front = sound.header_end in
        word-with_words (s ∷ staged) (counted_file (s ∷ staged) f) b (each_below (s ∷ staged) form) form.once (omega (arith, here)) inside
        ∙ ap (λ (w : ℕ). unwrap_or (position_in (s ∷ staged) b) w)
        (number-put_other 388 (allocated_with h.allocated (s ∷ staged)) f (h.off_blocks + 4 * b) (omega arith) (inr (omega arith)))

    -- and what stands behind the map stays
    pub settled_data : (staged : Staged) (f : List ℕ) → AreStagedIn h staged → map_end h ≤ length f → (s m : ℕ) → map_end h ≤ s
        → s + m ≤ length f → piece (settled h staged f) s m ≡ piece f s m
    unfolding settled
    settled_data [] f form whole s m behind fits = refl
    settled_data (t ∷ staged) f form whole s m behind fits =
        let here = counted_length (t ∷ staged) f whole in
        let front = sound.header_end in
        let n : ℕ = allocated_with h.allocated (t ∷ staged) in
        piece-with_words (t ∷ staged) (counted_file (t ∷ staged) f) s m (each_below (t ∷ staged) form) (omega (arith, here)) (omega (arith, here))
        (inr behind)
        ∙ piece-put_other 388 (little_bytes 4 n) f s m fits (inr (omega (arith, length-little n)))
