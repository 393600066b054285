-- A torn write to sectors of an image keeps the image but for these sectors.
use Rattle.std.proofs.Common.{◌≡◌, ◌≢◌, ◌⊎◌, ℕ, ◌+◌, ◌*◌, ◌/◌, ◌%◌, ◌<◌, ◌≤◌, Bool, false, List, length, take, Ok, refl, sym, ap, ◌∙◌, arith}
use Rattle.std.proofs.Common.{inl, inr}
use Rattle.std.specs.Prelude.{◌==◌, nat_lt, IsTrue}
use Rattle.std.proofs.lemmas.Bool.{cases_Bool, cases_lt, eq-eqb, le-leb, lt-ltb, ltb-true, eqb-true, false≢true}
use Rattle.std.proofs.lemmas.List.{length-take}
use Rattle.vbm_ports.specs.Crash.{TornBytes}
use Rattle.vbm_header.specs.declared.Header.{Header}
use Rattle.vbm_header.proofs.Headers.{accepted}
use Rattle.vbm_volume.specs.Image.{image_of, word_of, data_at}
use Rattle.vbm_volume.specs.Like.{map_end, HasPosition, sector_at, IsLikeFile}
use Rattle.vbm_volume.specs.Wrote.{Covers, sectors_at, TouchesOnly}
use Rattle.vbm_volume.proofs.Images.{image_of-ok}
use Rattle.vbm_volume.proofs.Pieces.{torn_piece}

-- where the map ends
pub map_within : (f : List ℕ) (h : Header) → image_of f ≡ Ok h → (map_end h ≤ h.off_data) × (map_end h ≤ length f)
map_within f h e = let facts = accepted f (length f) h (image_of-ok f h e).0 in (facts.before_data, facts.map_end)

-- a file that begins as an image does has all of its map
map_long : (f g : List ℕ) (h : Header) → image_of f ≡ Ok h → take (map_end h) g ≡ take (map_end h) f → map_end h ≤ length g
map_long f g h e same = omega (arith, ap length same, length-take (map_end h) f, length-take (map_end h) g, map_within f h e)

-- `f` is the image as it was first read, `file` what was read before the write, `old` what a crash leaves before it
module _ (h : Header) (f : List ℕ) (loose sectors : ℕ → Bool) (at n : ℕ) (file old new : List ℕ) (e : image_of f ≡ Ok h)
    (touches : TouchesOnly h f sectors at n) (covers : Covers loose sectors)
    (like_file : IsLikeFile h loose f file) (like : IsLikeFile h loose f old) (torn : TornBytes at n file old new) where
  same_head : take (map_end h) new ≡ take (map_end h) f
  same_head =
      let before : 0 + map_end h ≤ at = omega (arith, touches.behind) in
      let in_old : 0 + map_end h ≤ length old = omega (arith, map_long f old h e like.head) in
      let in_file : 0 + map_end h ≤ length file = omega (arith, map_long f file h e like_file.head) in
      torn_piece at n file old new torn 0 (map_end h) in_old in_file (inl before) ∙ like.head

  pub torn_like : IsLikeFile h loose f new
  torn_like = record {
    head = same_head;
    reach = λ b has. let r = like.reach b has in omega (arith, torn.no_shorter);
    bytes = λ b k has low settled.
        let r = like.reach b has in
        let s = like_file.reach b has in
        torn_piece at n file old new torn (sector_at h (word_of f h b) k) 512 (omega arith) (omega arith)
        (touches.apart b k has low (covers (b * 2048 + k) settled))
        ∙ like.bytes b k has low settled;
  }

-- ---- sectors of one position

-- a sector of this block that is not among those at the position
outside : (f : List ℕ) (h : Header) (p first count b k : ℕ) → b < h.blocks → k < 2048
    → sectors_at f h p first count (b * 2048 + k) ≡ false → word_of f h b ≡ p → (k < first) ⊎ (first + count ≤ k)
outside f h p first count b k block low not_in is = elim (cases_lt k first) [
  | inl before ↦ inl before
  | inr from ↦ elim (cases_lt k (first + count)) [
    | inr behind ↦ inr behind
    | inl inside ↦
        let at_block : (b * 2048 + k) / 2048 ≡ b = omega arith in
        let at_sector : (b * 2048 + k) % 2048 ≡ k = omega arith in
        absurd (false≢true (sym not_in
        ∙ rw (at_block, at_sector, lt-ltb b h.blocks block, eq-eqb _ _ is, le-leb first k from, lt-ltb k (first + count) inside) refl))
  ]
]

-- sector k of position q lies beside sectors of position p, where it is none of them
beside : (h : Header) (p q k first count : ℕ) → k < 2048 → first + count ≤ 2048 → (q ≡ p → (k < first) ⊎ (first + count ≤ k))
    → (sector_at h q k + 512 ≤ sector_at h p first) ⊎ (sector_at h p first + count * 512 ≤ sector_at h q k)
beside h p q k first count low fits differ = elim (cases_lt q p) [
  | inl less ↦ inl (omega arith)
  | inr other ↦ elim (cases_lt p q) [
    | inl less ↦ inr (omega arith)
    | inr neither ↦
        let same : q ≡ p = omega arith in
        elim (differ same) [
          | inl before ↦ inl (omega (arith, same))
          | inr behind ↦ inr (omega (arith, same))
        ]
  ]
]

pub sectors_at-touches : (f : List ℕ) (h : Header) (p first count : ℕ) → image_of f ≡ Ok h → first + count ≤ 2048
    → TouchesOnly h f (sectors_at f h p first count) (sector_at h p first) (count * 512)
sectors_at-touches f h p first count e fits = record {
  behind = omega (arith, map_within f h e);
  apart = λ b k has low not_in. beside h p (word_of f h b) k first count low fits (outside f h p first count b k has.block low not_in);
}

-- no block's word is the position, so that a write there loosens nothing
pub sectors_at-none : (f : List ℕ) (h : Header) (p first count : ℕ) → ((b : ℕ) → b < h.blocks → word_of f h b ≢ p)
    → Covers (λ i. false) (sectors_at f h p first count)
sectors_at-none f h p first count unused i settled = elim (cases_Bool (nat_lt (i / 2048) h.blocks)) [
  | inr past ↦ rw past refl
  | inl block ↦ elim (cases_Bool (word_of f h (i / 2048) == p)) [
    | inr other ↦ rw (block, other) refl
    | inl is ↦ absurd (unused (i / 2048) (ltb-true _ _ block) (eqb-true _ _ is))
  ]
]

-- ---- the data of one position

-- where each sector of a block at the position is among these, a write into the position's data touches no other
pub place-touches : (f : List ℕ) (h : Header) (sectors : ℕ → Bool) (p at n : ℕ) → image_of f ≡ Ok h
    → ((b k : ℕ) → HasPosition h f b → word_of f h b ≡ p → k < 2048 → IsTrue (sectors (b * 2048 + k)))
    → data_at h p ≤ at → at + n ≤ data_at h (p + 1) → TouchesOnly h f sectors at n
place-touches f h sectors p at n e all from to = record {
  behind = omega (arith, map_within f h e);
  apart = λ b k has low not_in. elim (cases_lt (word_of f h b) p) [
    | inl less ↦ inl (omega arith)
    | inr other ↦ elim (cases_lt p (word_of f h b)) [
      | inl more ↦ inr (omega arith)
      | inr neither ↦ let same : word_of f h b ≡ p = omega arith in absurd (false≢true (sym not_in ∙ all b k has same low))
    ]
  ];
}
