-- Chains, read from the last file down.
use Rattle.std.proofs.Common.{◌≡◌, ℕ, zero, suc, ◌+◌, ◌*◌, ◌/◌, ◌%◌, ◌<◌, ◌≤◌, true, false, leb, Bool, List, [], ◌∷◌, ◌++◌, reverse, Ok, refl, sym, ap}
use Rattle.std.proofs.Common.{◌∙◌, length, replicate, Some}
use Rattle.std.proofs.Common.{append_assoc, arith, inl, inr}
use Rattle.std.specs.Prelude.{IsFalse, slice_get, nat_lt, if◌then◌else◌}
use Rattle.std.proofs.lemmas.Bool.{cases_Bool, cases_lt, le-leb, lt-leb, lt-ltb, le-ltb, ltb-true, ne_eqb}
use Rattle.std.proofs.lemmas.List.{reverse-append}
use Rattle.std.proofs.lemmas.Option.{slice_get_past}
use Rattle.vbm_header.specs.declared.Header.{Header}
use Rattle.vbm_volume.specs.Chain.{Link, sector_down, count_down, flat_down, chain_sector, chain_count, flat_of_chain, FallsFrom, Falls}
use Rattle.vbm_volume.specs.Image.{image_of, word_of, is_free, is_position}
use Rattle.vbm_volume.specs.Like.{IsLikeFile}
use Rattle.vbm_volume.specs.Sectors.{first_sectors, base_sector, flat_of_base, sector_by, sector_count}
use Rattle.vbm_volume.proofs.Chains.{chain_sector-one}
use Rattle.vbm_volume.proofs.Likes.{same_word, length-first_sectors, slice_get-first_sectors}
use Rattle.vbm_volume.proofs.Rising.{falls-past}
use Rattle.vbm_volume.proofs.Sectors.{word_within}

-- disks of which each sector is the same
pub first_sectors-same : (s t : ℕ → List ℕ) (n : ℕ) → ((i : ℕ) → i < n → s i ≡ t i) → first_sectors s n ≡ first_sectors t n
unfolding first_sectors
first_sectors-same s t zero each = refl
first_sectors-same s t (suc n) each = rw (first_sectors-same s t n (λ i lt. each i (omega arith)), each n (omega arith)) refl

-- a chain, base first or last file first
pub flat_of_chain-down : (links : List Link) → flat_of_chain links ≡ flat_down (reverse links)
flat_of_chain-down links = refl

pub chain_count-down : (links : List Link) → chain_count links ≡ count_down (reverse links)
chain_count-down links = refl

pub chain_count-last : (links below : List Link) (link : Link) → reverse links ≡ link ∷ below → chain_count links ≡ sector_count link.1
chain_count-last links below link e = ap count_down e

-- a base image alone
pub flat_down-one : (f : List ℕ) (h : Header) → flat_down ((f, h) ∷ []) ≡ flat_of_base f h
flat_down-one f h = first_sectors-same (sector_down ((f, h) ∷ [])) (base_sector f h) (sector_count h) (chain_sector-one f h)

-- A file whose blocks are all free reads as what stands below it, where it is as large.
pub flat_down-free : (link : Link) (below : List Link) → sector_count link.1 ≡ count_down below
    → ((i : ℕ) → i < sector_count link.1 → is_free (word_of link.0 link.1 (i / 2048)) ≡ true) → flat_down (link ∷ below) ≡ flat_down below
flat_down-free link below large free =
    first_sectors-same (sector_down (link ∷ below)) (sector_down below) (sector_count link.1)
    (λ i lt. let within : leb (sector_count link.1) i ≡ false = lt-leb _ _ lt in let is = free i lt in rw (within, is) refl)
    ∙ ap (first_sectors (sector_down below)) large

-- ---- chains that differ in the middle

-- files above others that read the same
pub sector_down-above : (above xs ys : List Link) (i : ℕ) → sector_down xs i ≡ sector_down ys i
    → sector_down (above ++ xs) i ≡ sector_down (above ++ ys) i
sector_down-above [] xs ys i same = same
sector_down-above (link ∷ above) xs ys i same = rw (sector_down-above above xs ys i same) refl

pub reverse-middle : (below mid above : List Link) → reverse (below ++ (mid ++ above)) ≡ reverse above ++ (reverse mid ++ reverse below)
reverse-middle below mid above =
    reverse-append below (mid ++ above)
    ∙ ap (λ (l : List Link). l ++ reverse below) (reverse-append mid above)
    ∙ append_assoc (reverse above) (reverse mid) (reverse below)

-- A chain whose middle has other files that read the same: `mid` and `other` are told from their last files down, x and y.
module _ (below mid other above : List Link) (x y : Link) (down other_down : List Link)
    (is : reverse mid ≡ x ∷ down) (other_is : reverse other ≡ y ∷ other_down) (capacity : y.1.capacity ≡ x.1.capacity)
    (each : (i : ℕ) → sector_down (y ∷ (other_down ++ reverse below)) i ≡ sector_down (x ∷ (down ++ reverse below)) i) where
  same_sector : (i : ℕ) → chain_sector (below ++ (other ++ above)) i ≡ chain_sector (below ++ (mid ++ above)) i
  same_sector i =
      let in_middle = λ (l : List Link). reverse above ++ (l ++ reverse below) in
      ap (λ (l : List Link). sector_down l i) (reverse-middle below other above ∙ ap in_middle other_is)
      ∙ sector_down-above (reverse above) (y ∷ (other_down ++ reverse below)) (x ∷ (down ++ reverse below)) i (each i)
      ∙ sym (ap (λ (l : List Link). sector_down l i) (reverse-middle below mid above ∙ ap in_middle is))

  same_count : (r : List Link) → reverse above ≡ r → chain_count (below ++ (other ++ above)) ≡ chain_count (below ++ (mid ++ above))
  same_count [] e =
      chain_count-last (below ++ (other ++ above)) (other_down ++ reverse below) y (reverse-middle below other above ∙ rw (e, other_is) refl)
      ∙ ap (λ (n : ℕ). n / 512) capacity
      ∙ sym (chain_count-last (below ++ (mid ++ above)) (down ++ reverse below) x (reverse-middle below mid above ∙ rw (e, is) refl))
  same_count (d ∷ r) e =
      chain_count-last (below ++ (other ++ above)) (r ++ (reverse other ++ reverse below)) d (reverse-middle below other above ∙ rw e refl)
      ∙ sym (chain_count-last (below ++ (mid ++ above)) (r ++ (reverse mid ++ reverse below)) d (reverse-middle below mid above ∙ rw e refl))

  pub same_disk : flat_of_chain (below ++ (other ++ above)) ≡ flat_of_chain (below ++ (mid ++ above))
  same_disk =
      ap (first_sectors (chain_sector (below ++ (other ++ above)))) (same_count (reverse above) refl)
      ∙ first_sectors-same (chain_sector (below ++ (other ++ above))) (chain_sector (below ++ (mid ++ above)))
      (chain_count (below ++ (mid ++ above))) (λ i lt. same_sector i)

-- ---- files that are like an image

-- a sector that is not loose, over the same files
pub like_sector_down : (f g : List ℕ) (h : Header) (loose : ℕ → Bool) (below : List Link) (i : ℕ) → image_of f ≡ Ok h
    → IsLikeFile h loose f g → (i < sector_count h → IsFalse (loose i)) → sector_down ((g, h) ∷ below) i ≡ sector_down ((f, h) ∷ below) i
like_sector_down f g h loose below i e like settled = elim (cases_lt i (sector_count h)) [
  | inr past ↦ let out : leb (sector_count h) i ≡ true = le-leb _ _ past in rw out refl
  | inl inside ↦
      let within : leb (sector_count h) i ≡ false = lt-leb _ _ inside in
      let block = (word_within f h i e inside).0 in
      let parts : i / 2048 * 2048 + i % 2048 ≡ i = omega arith in
      rw (within, same_word f g h e like.head (i / 2048) block) (elim (cases_Bool (is_position (word_of f h (i / 2048)))) [
        | inl is ↦
            let low : word_of f h (i / 2048) < 4294967294 = ltb-true _ _ is in
            let not_free : is_free (word_of f h (i / 2048)) ≡ false = ne_eqb _ _ (λ same. omega arith) in
            rw (not_free, is)
            (like.bytes (i / 2048) (i % 2048) (record { block = block; position = is }) (omega arith) (ap loose parts ∙ settled inside))
        | inr none ↦ rw none refl
      ])
]

-- chains through an image and through one that is like it, where no sector below the capacity is loose
pub like_chain : (f g : List ℕ) (h : Header) (loose : ℕ → Bool) (below above : List Link) → image_of f ≡ Ok h → IsLikeFile h loose f g
    → ((i : ℕ) → i < sector_count h → IsFalse (loose i)) → flat_of_chain (below ++ (g, h) ∷ above) ≡ flat_of_chain (below ++ (f, h) ∷ above)
like_chain f g h loose below above e like settled =
    same_disk below ((f, h) ∷ []) ((g, h) ∷ []) above (f, h) (g, h) [] [] refl refl refl
    (λ i. like_sector_down f g h loose (reverse below) i e like (settled i))

-- a chain through an image and one through a file that is like it, at a sector that is not loose
pub like_chain_sector : (f g : List ℕ) (h : Header) (loose : ℕ → Bool) (below above : List Link) (i : ℕ) → image_of f ≡ Ok h
    → IsLikeFile h loose f g → (i < sector_count h → IsFalse (loose i))
    → chain_sector (below ++ (g, h) ∷ above) i ≡ chain_sector (below ++ (f, h) ∷ above) i
like_chain_sector f g h loose below above i e like settled =
    let down = λ (l : List ℕ). ap (λ (links : List Link). sector_down links i) (reverse-middle below ((l, h) ∷ []) above) in
    down g
    ∙ sector_down-above (reverse above) ((g, h) ∷ reverse below) ((f, h) ∷ reverse below) i
    (like_sector_down f g h loose (reverse below) i e like settled)
    ∙ sym (down f)

-- a chain whose last file is like an image: its disk is the same but for loose sectors
pub like_last : (f g : List ℕ) (h : Header) (loose : ℕ → Bool) (below : List Link) → image_of f ≡ Ok h → IsLikeFile h loose f g
    → (length (flat_of_chain (below ++ (g, h) ∷ [])) ≡ length (flat_of_chain (below ++ (f, h) ∷ [])))
    × ((i : ℕ) → IsFalse (loose i)
    → slice_get (flat_of_chain (below ++ (g, h) ∷ [])) i ≡ slice_get (flat_of_chain (below ++ (f, h) ∷ [])) i)
like_last f g h loose below e like =
    let links = λ (l : List ℕ). below ++ (l, h) ∷ [] in
    let n = sector_count h in
    let count = λ (l : List ℕ). chain_count-last (below ++ (l, h) ∷ []) (reverse below) (l, h) (reverse-append below ((l, h) ∷ [])) in
    let size = λ (l : List ℕ). length-first_sectors (chain_sector (below ++ (l, h) ∷ [])) (chain_count (below ++ (l, h) ∷ [])) ∙ count l in
    let at = λ (l : List ℕ) (i : ℕ) (inside : i < n).
    slice_get-first_sectors (chain_sector (below ++ (l, h) ∷ [])) (chain_count (below ++ (l, h) ∷ [])) i (omega (arith, count l)) in
    let past = λ (l : List ℕ) (i : ℕ) (out : n ≤ i). slice_get_past (flat_of_chain (below ++ (l, h) ∷ [])) i (omega (arith, size l)) in (
      size g ∙ sym (size f),
      λ i settled. elim (cases_lt i n) [
        | inl inside ↦
            at g i inside
            ∙ ap Some (like_chain_sector f g h loose below [] i e like (λ lt. settled))
            ∙ sym (at f i inside)
        | inr out ↦ past g i out ∙ sym (past f i out)
      ],
    )

-- ---- one file on others, by the word w of a sector's block

module _ (f : List ℕ) (h : Header) (below : List Link) (i w : ℕ) (is : i < sector_count h → word_of f h (i / 2048) ≡ w) where
  -- a free block, or one past the capacity, leads to the file below
  pub down-free : is_free w ≡ true → sector_down ((f, h) ∷ below) i ≡ sector_down below i
  down-free free = elim (cases_lt i (sector_count h)) [
    | inl inside ↦ let within : leb (sector_count h) i ≡ false = lt-leb _ _ inside in rw (within, is inside, free) refl
    | inr past ↦ let out : leb (sector_count h) i ≡ true = le-leb _ _ past in rw out refl
  ]

  -- any other reads as its word says, and as zeros past the capacity
  pub down-here : is_free w ≡ false → FallsFrom (sector_count h) below
      → sector_down ((f, h) ∷ below) i ≡ (if nat_lt i (sector_count h) then sector_by f h w i else replicate 512 0)
  down-here not_free falls = elim (cases_lt i (sector_count h)) [
    | inl inside ↦
        let within : leb (sector_count h) i ≡ false = lt-leb _ _ inside in
        let counted : nat_lt i (sector_count h) ≡ true = lt-ltb _ _ inside in
        rw (within, is inside, not_free, counted) refl
    | inr past ↦
        let out : leb (sector_count h) i ≡ true = le-leb _ _ past in
        let none : nat_lt i (sector_count h) ≡ false = le-ltb _ _ past in
        rw (out, none) (falls-past (sector_count h) below i falls past)
  ]

-- a chain that rises, without its last file
pub falls-below : (n : ℕ) (below : List Link) → FallsFrom n below → Falls below
falls-below n [] falls = tt
falls-below n (link ∷ below) falls = falls.1
