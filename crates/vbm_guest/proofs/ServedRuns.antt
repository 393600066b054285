-- What an image serves after sectors of it were written in place, and after a block was staged.
use Rattle.std.proofs.Common.{◌≡◌, ◌≢◌, ◌⊎◌, inl, inr, ℕ, ◌+◌, ◌-◌, ◌*◌, ◌/◌, ◌%◌, ◌^◌, ◌<◌, ◌≤◌, true, false, ◌&&◌, eqb, List, [], ◌∷◌, ◌++◌, length, Option, Some, None, refl, sym, ◌∙◌, ap, arith}
use Rattle.std.specs.Prelude.{unwrap_or, nat_le, nat_lt}
use Rattle.std.proofs.lemmas.Bool.{cases_lt, cases_Bool, false≢true, lt-ltb, le-leb, ltb-true, leb-true, eqb-true, and_parts}
use Rattle.std.proofs.lemmas.Bool.Decides.{eqb_tells}
use Rattle.vbm_ports.specs.Files.{put, piece}
use Rattle.vbm_ports.proofs.Puts.{length-put_any}
use Rattle.vbm_header.specs.declared.Header.{Header}
use Rattle.vbm_volume.specs.Image.{word_of, is_free, is_position, data_at}
use Rattle.vbm_volume.specs.Like.{sector_at}
use Rattle.vbm_volume.specs.Sectors.{sector_count, sector_by}
use Rattle.vbm_volume.specs.Chain.{Link}
use Rattle.vbm_volume.specs.Wrote.{Covers, sectors_at}
use Rattle.vbm_volume.proofs.Blocks.{words_once}
use Rattle.vbm_volume.proofs.Pieces.{piece-put, piece-put_other, piece-piece}
use Rattle.vbm_blockmap.specs.Pending.{Staged, position_in}
use Rattle.vbm_image.specs.Image.{staged_word}
use Rattle.vbm_image.proofs.StagedWords.{staged_once}
use Rattle.vbm_guest.specs.Runs.{in_run, with_run}
use Rattle.vbm_guest.proofs.ServedSectors.{AreOver, served, block_within, word_put, data_behind, sectors_apart, word_reach, served_past, served_word, served_same, run_out, run_in, cases_run}

-- sectors written in place
module _ (h : Header) (staged : Staged) (f : List ℕ) (over : AreOver h staged f) (b first n : ℕ) (bytes : List ℕ) (inside : b < h.blocks) (p : ℕ)
    (here : staged_word f h staged b ≡ p) (position : is_position p ≡ true) (fits : first + n ≤ 2048) (size : length bytes ≡ n * 512) where
  abbrev written : List ℕ
  written = put (sector_at h p first) bytes f

  pub in_place_word : (c : ℕ) → c < h.blocks → staged_word written h staged c ≡ staged_word f h staged c
  in_place_word c block =
      ap (λ (w : ℕ). unwrap_or (position_in staged c) w)
      (word_put h f bytes (sector_at h p first) c over.accepted (data_behind h f p first over.accepted) block)

  -- the named sectors have the bytes, and all others are as before
  pub in_place_serves : AreOver h staged written → (below : List Link) (i : ℕ) → b * 2048 + first + n ≤ sector_count h
      → served h staged written below i ≡ with_run (b * 2048 + first) n bytes (served h staged f below) i
  in_place_serves now below i within = elim (cases_run (b * 2048 + first) n i) [
    | inl run ↦
        let lba : ℕ = b * 2048 + first in
        let counted : i < sector_count h = (let to = run.1 in omega arith) in
        let block : i / 2048 ≡ b = (let from = run.0 in let to = run.1 in omega arith) in
        let word : staged_word written h staged (i / 2048) ≡ p =
        ap (λ (c : ℕ). staged_word written h staged c) block ∙ in_place_word b inside ∙ here in
        let not_free : is_free p ≡ false = elim (eqb_tells p 4294967295) [
          | inl same ↦ absurd (let e = same.1 in let l = ltb-true _ _ position in omega arith)
          | inr apart ↦ apart.0
        ] in
        let place : data_at h p + i % 2048 * 512 ≡ sector_at h p first + (i - lba) * 512 = (let from = run.0 in let to = run.1 in omega arith) in
        served_word h staged written now below i counted (ap is_free word ∙ not_free)
        ∙ ap (λ (w : ℕ). sector_by written h w i) word
        ∙ rw position (ap (λ (o : ℕ). piece written o 512) place
        ∙ sym (piece-piece written (sector_at h p first) (length bytes) ((i - lba) * 512) 512 (let from = run.0 in let to = run.1 in omega arith)
        (omega (arith, length-put_any (sector_at h p first) bytes f)))
        ∙ ap (λ xs. piece xs ((i - lba) * 512) 512) (piece-put (sector_at h p first) bytes f))
        ∙ sym (run_in lba n bytes (served h staged f below) i run.0 run.1)
    | inr out ↦
        served_same h staged staged f written over now below i (λ counted. in_place_word (i / 2048) (block_within h i over.sound counted))
        (λ counted is.
        let q : ℕ = staged_word f h staged (i / 2048) in
        let q_block = block_within h i over.sound counted in
        let q_reach = word_reach h staged f over (i / 2048) q_block is in
        piece-put_other (sector_at h p first) bytes f (sector_at h q (i % 2048)) 512 (omega (arith, q_reach))
        (at_bytes q (sectors_apart h p q (i % 2048) first n (omega arith) fits (λ same.
        let block : i / 2048 ≡ b = staged_once f h staged over.accepted over.entries (i / 2048) b q_block inside is (sym same ∙ sym here) in
        elim out [ inl before ↦ inl (omega arith) | inr behind ↦ inr (omega arith) ]))))
        ∙ sym (run_out (b * 2048 + first) n bytes (served h staged f below) i out)
  ]
    where
      at_bytes : (q : ℕ) → (sector_at h q (i % 2048) + 512 ≤ sector_at h p first) ⊎ (sector_at h p first + n * 512 ≤ sector_at h q (i % 2048))
          → (sector_at h q (i % 2048) + 512 ≤ sector_at h p first) ⊎ (sector_at h p first + length bytes ≤ sector_at h q (i % 2048))
      at_bytes q (inl before) = inl before
      at_bytes q (inr behind) = inr (omega arith)

  -- a crash loosens the named sectors alone
  pub in_place_covers : Covers (in_run (b * 2048 + first) n) (sectors_at f h p first n)
  in_place_covers i settled = elim (cases_Bool (sectors_at f h p first n i)) [
    | inr none ↦ none
    | inl is ↦
        let first_three = and_parts (nat_lt (i / 2048) h.blocks && eqb (word_of f h (i / 2048)) p && nat_le first (i % 2048))
        (nat_lt (i % 2048) (first + n)) is in
        let first_two = and_parts (nat_lt (i / 2048) h.blocks && eqb (word_of f h (i / 2048)) p) (nat_le first (i % 2048)) first_three.0 in
        let two = and_parts (nat_lt (i / 2048) h.blocks) (eqb (word_of f h (i / 2048)) p) first_two.0 in
        let block : i / 2048 ≡ b = same_block (i / 2048) (ltb-true _ _ two.0) (eqb-true _ _ two.1) in
        let from : first ≤ i % 2048 = leb-true _ _ first_two.1 in
        let to : i % 2048 < first + n = ltb-true _ _ first_three.1 in
        let low : nat_le (b * 2048 + first) i ≡ true = le-leb _ _ (omega arith) in
        let high : nat_lt i (b * 2048 + first + n) ≡ true = lt-ltb _ _ (omega arith) in
        absurd (false≢true (sym settled ∙ rw (low, high) refl))
  ]
    where
      same_block : (c : ℕ) → c < h.blocks → word_of f h c ≡ p → c ≡ b
      same_block c block w = by (position_in staged b) refl here
        where
          by : (o : Option ℕ) → position_in staged b ≡ o → unwrap_or o (word_of f h b) ≡ p → c ≡ b
          by None none is = words_once f h over.accepted c b block inside (ap is_position w ∙ position) (w ∙ sym is)
          by (Some q) some is = absurd (over.entries.unused b q c some block (w ∙ sym is))

-- a block staged
module _ (h : Header) (staged : Staged) (f : List ℕ) (over : AreOver h staged f) (b p : ℕ) (inside : b < h.blocks)
    (no_word : (c : ℕ) → c < h.blocks → word_of f h c ≢ p) (none_staged : (c : ℕ) → position_in staged c ≢ Some p) (low : p < 2 ^ 22) (buf : List ℕ)
    (size : length buf ≡ 2 ^ 20) where
  abbrev more : Staged
  more = staged ++ (b, p) ∷ []

  abbrev staging : List ℕ
  staging = put (data_at h p) buf f

  stage_word : (c : ℕ) → c < h.blocks → word_of staging h c ≡ word_of f h c
  stage_word c block = word_put h f buf (data_at h p) c over.accepted (let order = data_behind h f p 0 over.accepted in omega arith) block

  differs : (c : ℕ) → c < h.blocks → staged_word f h staged c ≢ p
  differs c block is = by (position_in staged c) refl is
    where
      by : (o : Option ℕ) → position_in staged c ≡ o → unwrap_or o (word_of f h c) ≡ p → ⊥
      by None at same = no_word c block same
      by (Some q) at same = none_staged c (at ∙ ap Some same)

  -- the disk is the one before, with the named sectors
  pub stage_serves : AreOver h more staging → position_in more b ≡ Some p → ((c : ℕ) → c ≢ b → position_in more c ≡ position_in staged c)
      → (below : List Link) (first n : ℕ) (bytes : List ℕ) (i : ℕ) → first + n ≤ 2048 → b * 2048 + first + n ≤ sector_count h
      → ((k : ℕ) → k < 2048 → piece buf (k * 512) 512 ≡ with_run (b * 2048 + first) n bytes (served h staged f below) (b * 2048 + k))
      → served h more staging below i ≡ with_run (b * 2048 + first) n bytes (served h staged f below) i
  stage_serves now is_here is_other below first n bytes i fits within holds = elim (cases_lt i (sector_count h)) [
    | inr past ↦
        served_past h more staging now below i past
        ∙ sym (served_past h staged f over below i past)
        ∙ sym (run_out (b * 2048 + first) n bytes (served h staged f below) i (inr (omega arith)))
    | inl counted ↦ elim (eqb_tells (i / 2048) b) [
      | inl same ↦
          let word : staged_word staging h more (i / 2048) ≡ p =
          ap (λ (c : ℕ). staged_word staging h more c) same.1 ∙ ap (λ (o : Option ℕ). unwrap_or o (word_of staging h b)) is_here in
          let position : is_position p ≡ true = lt-ltb _ _ (omega arith) in
          let not_free : is_free p ≡ false = elim (eqb_tells p 4294967295) [
            | inl equal ↦ absurd (let e = equal.1 in omega arith)
            | inr apart ↦ apart.0
          ] in
          let at : b * 2048 + i % 2048 ≡ i = (let e = same.1 in omega arith) in
          served_word h more staging now below i counted (ap is_free word ∙ not_free)
          ∙ ap (λ (w : ℕ). sector_by staging h w i) word
          ∙ rw position (sym (piece-piece staging (data_at h p) (length buf) (i % 2048 * 512) 512 (omega (arith, size))
          (omega (arith, length-put_any (data_at h p) buf f)))
          ∙ ap (λ xs. piece xs (i % 2048 * 512) 512) (piece-put (data_at h p) buf f))
          ∙ holds (i % 2048) (omega arith)
          ∙ ap (with_run (b * 2048 + first) n bytes (served h staged f below)) at
      | inr other ↦
          let differ : i / 2048 ≢ b = other.1 in
          served_same h staged more f staging over now below i
          (λ inside_i.
          let block = block_within h i over.sound inside_i in
          let w : word_of staging h (i / 2048) ≡ word_of f h (i / 2048) = stage_word (i / 2048) block in
          ap (λ (o : Option ℕ). unwrap_or o (word_of staging h (i / 2048))) (is_other (i / 2048) differ)
          ∙ ap (λ (x : ℕ). unwrap_or (position_in staged (i / 2048)) x) w)
          (λ inside_i is.
          let q : ℕ = staged_word f h staged (i / 2048) in
          let q_block = block_within h i over.sound inside_i in
          let q_reach = word_reach h staged f over (i / 2048) q_block is in
          piece-put_other (data_at h p) buf f (sector_at h q (i % 2048)) 512 (omega (arith, q_reach))
          (at_bytes q (i % 2048)
          (sectors_apart h p q (i % 2048) 0 2048 (omega arith) (omega arith) (λ same. absurd (differs (i / 2048) q_block (sym same))))))
          ∙ sym (run_out (b * 2048 + first) n bytes (served h staged f below) i (out_of i differ first n fits))
    ]
  ]
    where
      at_bytes : (q k : ℕ) → (sector_at h q k + 512 ≤ sector_at h p 0) ⊎ (sector_at h p 0 + 2048 * 512 ≤ sector_at h q k)
          → (sector_at h q k + 512 ≤ data_at h p) ⊎ (data_at h p + length buf ≤ sector_at h q k)
      at_bytes q k (inl before) = inl (omega arith)
      at_bytes q k (inr behind) = inr (omega (arith, size))

      out_of : (i : ℕ) → i / 2048 ≢ b → (first n : ℕ) → first + n ≤ 2048 → (i < b * 2048 + first) ⊎ (b * 2048 + first + n ≤ i)
      out_of i differ first n fits = elim (cases_lt (i / 2048) b) [
        | inl less ↦ inl (omega arith)
        | inr above ↦ inr (let strict : b < i / 2048 = omega (arith, differ) in omega arith)
      ]
