-- The word of a block as it is read, and the data at its position.
use Rattle.std.proofs.Common.{◌≡◌, ℕ, zero, suc, ◌+◌, ◌-◌, ◌*◌, ◌/◌, ◌%◌, ◌^◌, ◌<◌, ◌≤◌, Bool, true, false, ◌&&◌, leb, List, [], ◌∷◌, ◌++◌, length, take, drop, replicate, min, Ok, refl, sym, ap, ◌∙◌, arith, inl, inr}
use Rattle.std.specs.List.{filter, list_all}
use Rattle.std.proofs.lemmas.Bool.{cases_lt, leb-true, lt-ltb, le-ltb}
use Rattle.std.proofs.lemmas.List.{length-drop, length-take, length-take-le, append-nil, drop_all, take_at, take-append-drop}
use Rattle.std.proofs.lemmas.List.Elements.{filter-append}
use Rattle.std.proofs.lemmas.List.Folds.{list_all-append}
use Rattle.vbm_ports.specs.Files.{Reads, piece}
use Rattle.vbm_header.specs.declared.Header.{Header}
use Rattle.vbm_header.specs.Field.{number_at}
use Rattle.vbm_header.proofs.Fields.{number_at-append, number_at-take, number_at-drop}
use Rattle.vbm_header.proofs.Headers.{accepted, all_hold}
use Rattle.vbm_volume.specs.Image.{image_of, map_conditions, positions, words_at, is_position}
use Rattle.vbm_volume.proofs.Images.{image_of-ok}

-- a field of what was read, whatever follows it
pub number_at-piece : (f rest : List ℕ) (at n o w : ℕ) → o + w ≤ n → at + o + w ≤ length f
    → number_at (piece f at n ++ rest) o w ≡ number_at f (at + o) w
number_at-piece f rest at n o w inside fits =
    let size : length (drop at f) ≡ length f - at = length-drop at f in
    let front : length (take n (drop at f)) ≡ min n (length (drop at f)) = length-take n (drop at f) in
    number_at-append (take n (drop at f)) rest o w (omega arith)
    ∙ number_at-take n (drop at f) o w inside (omega arith)
    ∙ number_at-drop f at o w

-- a field of what was read into a buffer that was changed behind it
pub number_at-read : (f old mid new : List ℕ) (at n o w : ℕ) → Reads f at old mid n → take n new ≡ take n mid
    → o + w ≤ length old → at + o + w ≤ length f → number_at new o w ≡ number_at f (at + o) w
number_at-read f old mid new at n o w read kept inside fits =
    let front : take n mid ≡ piece f at (length old) = ap (take n) read.buffer ∙ take_at (piece f at (length old)) (drop n old) n (sym read.count) in
    ap (λ xs. number_at xs o w) (sym (take-append-drop n new) ∙ ap (λ xs. xs ++ drop n new) (kept ∙ front))
    ∙ number_at-piece f (drop n new) at (length old) o w inside fits

both : (a b : Bool) → (a && b) ≡ true → (a ≡ true) × (b ≡ true)
both true b h = (refl, h)
both false b h = cc

-- what holds of all positions holds of the one of a block
pub at_block : (p : ℕ → Bool) (f : List ℕ) (at n b : ℕ) → list_all p (filter is_position (words_at f at n)) ≡ true → b < n
    → is_position (number_at f (at + 4 * b) 4) ≡ true → p (number_at f (at + 4 * b) 4) ≡ true
unfolding words_at
at_block p f at zero b h lt is = absurd (omega arith)
at_block p f at (suc n) b h lt is =
    let split = both _ _ (sym (list_all-append p (filter is_position (words_at f at n)) (filter is_position (number_at f (at + 4 * n) 4 ∷ [])))
    ∙ ap (list_all p) (sym (filter-append is_position (words_at f at n) (number_at f (at + 4 * n) 4 ∷ []))) ∙ h) in
    elim (cases_lt b n) [
      | inl below ↦ at_block p f at n b split.0 below is
      | inr last ↦
          let same : b ≡ n = omega arith in
          let here : is_position (number_at f (at + 4 * n) 4) ≡ true = ap (λ k. is_position (number_at f (at + 4 * k) 4)) (sym same) ∙ is in
          ap (λ k. p (number_at f (at + 4 * k) 4)) same ∙ (both _ _ (rw here at split.1)).0
    ]

-- the data of a block's position lies in the file
pub data_within : (f : List ℕ) (h : Header) (b : ℕ) → image_of f ≡ Ok h → b < h.blocks → number_at f (h.off_blocks + 4 * b) 4 < 0xFFFFFFFE
    → h.off_data + (number_at f (h.off_blocks + 4 * b) 4 + 1) * 2 ^ 20 ≤ length f
data_within f h b e lt is =
    let all = all_hold (map_conditions (positions f h) h (length f)) (image_of-ok f h e).1 in
    leb-true _ _ (at_block (λ p. leb (h.off_data + (p + 1) * 2 ^ 20) (length f)) f h.off_blocks h.blocks b all.1.0 lt (lt-ltb _ _ is))

-- the word of a sector's block lies in the map
pub word_within : (f : List ℕ) (h : Header) (i : ℕ) → image_of f ≡ Ok h → i < h.capacity / 512
    → (i / 2048 < h.blocks) × (h.off_blocks + 4 * (i / 2048) + 4 ≤ length f)
word_within f h i e lt =
    let facts = accepted f (length f) h (image_of-ok f h e).0 in
    let enough : h.capacity ≤ h.blocks * 1048576 = facts.enough in
    let block : i / 2048 < h.blocks = omega arith in
    (block, omega (arith, facts.map_end))
