-- In a chain no file has more sectors than the one above it, and past the end of such a chain there are zeros.
use Rattle.std.proofs.Common.{◌≡◌, ℕ, ◌+◌, ◌≤◌, true, leb, List, [], ◌∷◌, ◌++◌, reverse, replicate, Some, None, refl, sym, ap, subst, ◌∙◌}
use Rattle.std.proofs.Common.{append_assoc, arith, inl, inr}
use Rattle.std.specs.Prelude.{◌&&◌, nat_le}
use Rattle.std.specs.Str.{bytes_eq}
use Rattle.std.proofs.lemmas.Bool.{cases_Bool, and_parts, le-leb, leb-true}
use Rattle.std.proofs.lemmas.List.{reverse-append}
use Rattle.vbm_header.specs.declared.Header.{Header}
use Rattle.vbm_header.specs.Header.{is_differencing}
use Rattle.vbm_volume.specs.Chain.{Link, headers_of, is_linked_to, broken_from, broken_at, sector_down, count_down, chain_count, chain_sector}
use Rattle.vbm_volume.specs.Chain.{FallsFrom, Falls, IsRising}
use Rattle.vbm_volume.specs.Sectors.{sector_count}

pub falls-past : (n : ℕ) (down : List Link) (i : ℕ) → FallsFrom n down → n ≤ i → sector_down down i ≡ replicate 512 0
falls-past n [] i falls past = refl
falls-past n (link ∷ below) i falls past =
    let low : sector_count link.1 ≤ i = omega (arith, falls.0) in
    let out : leb (sector_count link.1) i ≡ true = le-leb _ _ low in
    rw out (falls-past (sector_count link.1) below i falls.1 low)

pub down-past : (down : List Link) (i : ℕ) → Falls down → count_down down ≤ i → sector_down down i ≡ replicate 512 0
down-past [] i falls past = refl
down-past (link ∷ below) i falls past =
    let out : leb (sector_count link.1) i ≡ true = le-leb _ _ past in
    rw out (falls-past (sector_count link.1) below i falls past)

pub rising-past : (links : List Link) (i : ℕ) → IsRising links → chain_count links ≤ i → chain_sector links i ≡ replicate 512 0
rising-past links i rising past = down-past (reverse links) i rising past

linked_count : (below h : Header) → is_linked_to below h ≡ true → sector_count below ≤ sector_count h
linked_count below h linked =
    let fits : leb below.capacity h.capacity ≡ true =
    (and_parts (is_differencing h.image_type && bytes_eq h.link below.id && bytes_eq h.parent_modify below.modify)
    (nat_le below.capacity h.capacity) linked).1 in
    omega (arith, leb-true _ _ fits)

-- files that are linked one to the other, on top of others
falls_onto : (i : ℕ) (link : Link) (down above : List Link) → Falls (link ∷ down) → broken_from i link.1 (headers_of above) ≡ None
    → Falls (reverse above ++ link ∷ down)
falls_onto i link down [] falls chain = falls
falls_onto i link down (x ∷ above) falls chain = elim (cases_Bool (is_linked_to link.1 x.1)) [
  | inr apart ↦ absurd (let none : Some i ≡ None = rw apart at chain in cc)
  | inl linked ↦
      let order : reverse (x ∷ above) ++ link ∷ down ≡ reverse above ++ x ∷ link ∷ down =
      ap (λ (l : List Link). l ++ link ∷ down) (reverse-append (x ∷ []) above) ∙ append_assoc (reverse above) (x ∷ []) (link ∷ down) in
      subst Falls (sym order)
      (falls_onto (i + 1) x (link ∷ down) above (linked_count link.1 x.1 linked, falls) (rw linked at chain))
]

pub rising_from_chain : (links : List Link) → broken_at (headers_of links) ≡ None → IsRising links
rising_from_chain [] chain = tt
rising_from_chain (base ∷ above) chain = elim (cases_Bool (is_differencing base.1.image_type)) [
  | inl child ↦ absurd (let none : Some 0 ≡ None = rw child at chain in cc)
  | inr is_base ↦
      subst Falls (sym (reverse-append (base ∷ []) above)) (falls_onto 1 base [] above tt (rw is_base at chain))
]
