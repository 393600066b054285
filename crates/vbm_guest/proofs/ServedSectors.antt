-- The sectors that an image serves above others, by the words of its blocks.
use Rattle.std.proofs.Common.{◌≡◌, ◌⊎◌, inl, inr, ℕ, ◌+◌, ◌-◌, ◌*◌, ◌/◌, ◌%◌, ◌<◌, ◌≤◌, true, false, List, ◌∷◌, length, Ok, refl, sym, ◌∙◌, ap, arith}
use Rattle.std.specs.Prelude.{nat_le, nat_lt}
use Rattle.std.proofs.lemmas.Bool.{cases_lt, cases_Bool, lt-ltb, le-ltb, le-leb, lt-leb}
use Rattle.vbm_ports.specs.Files.{put, piece}
use Rattle.vbm_ports.proofs.Puts.{length-put_any}
use Rattle.vbm_header.specs.declared.Header.{Header}
use Rattle.vbm_volume.specs.Image.{image_of, word_of, is_free, is_position, data_at, IsSoundHeader}
use Rattle.vbm_volume.specs.Like.{map_end, sector_at}
use Rattle.vbm_volume.specs.Sectors.{sector_count, sector_by}
use Rattle.vbm_volume.specs.Chain.{Link, sector_down}
use Rattle.vbm_volume.proofs.Pieces.{piece-put_other, number_at-same_piece}
use Rattle.vbm_volume.proofs.Torn.{map_within}
use Rattle.vbm_blockmap.specs.Pending.{Staged}
use Rattle.vbm_image.specs.Image.{staged_word, AreStagedIn, FitStaged}
use Rattle.vbm_image.specs.Settling.{settled}
use Rattle.vbm_image.proofs.SettledFiles.{settled_word, settled_data}
use Rattle.vbm_image.proofs.StagedWords.{staged_within}
use Rattle.vbm_guest.specs.Runs.{with_run}

-- a header and staged entries over a file
pub record AreOver (h : Header) (staged : Staged) (f : List ℕ) : Type 0 where
  pub sound : IsSoundHeader h
  pub form : AreStagedIn h staged
  pub accepted : image_of f ≡ Ok h
  pub entries : FitStaged h staged f

-- a sector of the image above others
abbrev pub served : Header → Staged → List ℕ → List Link → ℕ → List ℕ
served h staged f below i = sector_down ((settled h staged f, h) ∷ below) i

pub block_within : (h : Header) (i : ℕ) → IsSoundHeader h → i < sector_count h → i / 2048 < h.blocks
block_within h i sound inside = let enough = sound.enough in omega arith

-- bytes that are put behind the block map leave its words
pub word_put : (h : Header) (f bytes : List ℕ) (at b : ℕ) → image_of f ≡ Ok h → map_end h ≤ at → b < h.blocks
    → word_of (put at bytes f) h b ≡ word_of f h b
word_put h f bytes at b e behind inside =
    let within = (map_within f h e).1 in
    let longer = length-put_any at bytes f in
    number_at-same_piece f (put at bytes f) (h.off_blocks + 4 * b) 4 (omega arith) (omega arith)
    (piece-put_other at bytes f (h.off_blocks + 4 * b) 4 (omega arith) (inl (omega arith)))

pub data_behind : (h : Header) (f : List ℕ) (p k : ℕ) → image_of f ≡ Ok h → map_end h ≤ sector_at h p k
data_behind h f p k e = let order = (map_within f h e).0 in omega arith

-- sectors of two positions, or of two places of one, lie apart
pub sectors_apart : (h : Header) (p q k first count : ℕ) → k < 2048 → first + count ≤ 2048 → (p ≡ q → (k < first) ⊎ (first + count ≤ k))
    → (sector_at h q k + 512 ≤ sector_at h p first) ⊎ (sector_at h p first + count * 512 ≤ sector_at h q k)
sectors_apart h p q k first count low inside out = elim (cases_lt p q) [
  | inl less ↦ inr (omega arith)
  | inr more ↦ elim (cases_lt q p) [
    | inl less ↦ inl (omega arith)
    | inr more2 ↦
        let same : p ≡ q = omega arith in
        elim (out same) [
          | inl before ↦ inl (omega arith)
          | inr behind ↦ inr (omega arith)
        ]
  ]
]

module _ (h : Header) (staged : Staged) (f : List ℕ) (over : AreOver h staged f) where
  pub word_reach : (b : ℕ) → b < h.blocks → is_position (staged_word f h staged b) ≡ true → data_at h (staged_word f h staged b + 1) ≤ length f
  word_reach b inside is = staged_within f h staged over.accepted over.entries b inside is

  module _ (below : List Link) (i : ℕ) where
    pub served_past : sector_count h ≤ i → served h staged f below i ≡ sector_down below i
    served_past past = let out : nat_le (sector_count h) i ≡ true = le-leb _ _ past in rw out refl

    served_inside : i < sector_count h → word_of (settled h staged f) h (i / 2048) ≡ staged_word f h staged (i / 2048)
    served_inside inside =
        settled_word h over.sound staged f over.form (map_within f h over.accepted).1 (i / 2048) (block_within h i over.sound inside)

    pub served_free : i < sector_count h → is_free (staged_word f h staged (i / 2048)) ≡ true → served h staged f below i ≡ sector_down below i
    served_free inside free =
        let within : nat_le (sector_count h) i ≡ false = lt-leb _ _ inside in
        let w : is_free (word_of (settled h staged f) h (i / 2048)) ≡ true = ap is_free (served_inside inside) ∙ free in
        rw (within, w) refl

    pub served_word : i < sector_count h → is_free (staged_word f h staged (i / 2048)) ≡ false
        → served h staged f below i ≡ sector_by f h (staged_word f h staged (i / 2048)) i
    served_word inside not_free =
        let within : nat_le (sector_count h) i ≡ false = lt-leb _ _ inside in
        rw (within, served_inside inside, not_free) (elim (cases_Bool (is_position (staged_word f h staged (i / 2048)))) [
          | inl is ↦
              let order = map_within f h over.accepted in
              let reach = word_reach (i / 2048) (block_within h i over.sound inside) is in
              rw is (settled_data h over.sound staged f over.form order.1 (data_at h (staged_word f h staged (i / 2048)) + i % 2048 * 512) 512
              (let o = order.0 in omega arith) (omega arith))
          | inr none ↦ rw none refl
        ])

-- a sector that both serve
pub served_same : (h : Header) (staged more : Staged) (f g : List ℕ) → AreOver h staged f → AreOver h more g → (below : List Link) (i : ℕ)
    → (i < sector_count h → staged_word g h more (i / 2048) ≡ staged_word f h staged (i / 2048))
    → (i < sector_count h → is_position (staged_word f h staged (i / 2048)) ≡ true
    → piece g (sector_at h (staged_word f h staged (i / 2048)) (i % 2048)) 512
    ≡ piece f (sector_at h (staged_word f h staged (i / 2048)) (i % 2048)) 512)
    → served h more g below i ≡ served h staged f below i
served_same h staged more f g over now below i words pieces = elim (cases_lt i (sector_count h)) [
  | inr past ↦ served_past h more g now below i past ∙ sym (served_past h staged f over below i past)
  | inl inside ↦
      let w : staged_word g h more (i / 2048) ≡ staged_word f h staged (i / 2048) = words inside in
      elim (cases_Bool (is_free (staged_word f h staged (i / 2048)))) [
        | inl free ↦ served_free h more g now below i inside (ap is_free w ∙ free) ∙ sym (served_free h staged f over below i inside free)
        | inr not_free ↦
            served_word h more g now below i inside (ap is_free w ∙ not_free)
            ∙ ap (λ (x : ℕ). sector_by g h x i) w
            ∙ elim (cases_Bool (is_position (staged_word f h staged (i / 2048)))) [
              | inl is ↦ rw is (pieces inside is)
              | inr none ↦ rw none refl
            ]
            ∙ sym (served_word h staged f over below i inside not_free)
      ]
]

-- ---- runs

pub run_out : (lba n : ℕ) (bytes : List ℕ) (sector : ℕ → List ℕ) (i : ℕ) → (i < lba) ⊎ (lba + n ≤ i) → with_run lba n bytes sector i ≡ sector i
run_out lba n bytes sector i (inl before) = let low : nat_le lba i ≡ false = lt-leb _ _ before in rw low refl
run_out lba n bytes sector i (inr behind) = elim (cases_Bool (nat_le lba i)) [
  | inl low ↦ let high : nat_lt i (lba + n) ≡ false = le-ltb _ _ behind in rw (low, high) refl
  | inr before ↦ rw before refl
]

pub run_in : (lba n : ℕ) (bytes : List ℕ) (sector : ℕ → List ℕ) (i : ℕ) → lba ≤ i → i < lba + n
    → with_run lba n bytes sector i ≡ piece bytes ((i - lba) * 512) 512
run_in lba n bytes sector i from to =
    let low : nat_le lba i ≡ true = le-leb _ _ from in
    let high : nat_lt i (lba + n) ≡ true = lt-ltb _ _ to in
    rw (low, high) refl

pub cases_run : (lba n i : ℕ) → ((lba ≤ i) × (i < lba + n)) ⊎ ((i < lba) ⊎ (lba + n ≤ i))
cases_run lba n i = elim (cases_lt i lba) [
  | inl before ↦ inr (inl before)
  | inr from ↦ elim (cases_lt i (lba + n)) [
    | inl to ↦ inl (from, to)
    | inr behind ↦ inr (inr behind)
  ]
]
