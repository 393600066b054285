-- What a crash leaves of an image that guests write to: the same image, but for its loose sectors.
use Rattle.std.proofs.Common.{◌≡◌, ℕ, zero, suc, ◌+◌, ◌*◌, ◌/◌, ◌%◌, ◌^◌, ◌<◌, ◌≤◌, Bool, true, List, [], ◌∷◌, ◌++◌, length, take, get_or, Some, None, Ok, refl, sym, ap, subst, ◌∙◌, arith, inl, inr}
use Rattle.std.specs.Prelude.{IsFalse, slice_get, nat_le}
use Rattle.std.specs.List.{filter, list_all}
use Rattle.std.proofs.lemmas.Bool.{cases_Bool, cases_lt, and_from, and_parts, le-leb, ltb-true}
use Rattle.std.proofs.lemmas.List.{get_or_append_left, get_or_push, length_push, length-take, take-take}
use Rattle.std.proofs.lemmas.Option.{slice_get-get_or, slice_get_past}
use Rattle.std.proofs.lemmas.List.Elements.{filter-append}
use Rattle.std.proofs.lemmas.List.Folds.{list_all-append}
use Rattle.vbm_header.specs.declared.Header.{Header}
use Rattle.vbm_header.specs.Field.{number_at}
use Rattle.vbm_header.specs.Header.{first_that_fails, header_conditions, header_of, unless, fields, has_layout}
use Rattle.vbm_header.proofs.Fields.{number_at-take}
use Rattle.vbm_header.proofs.Headers.{unless-ok, all_hold, none_fails, accepted, header_of-take}
use Rattle.vbm_volume.specs.Image.{image_of, map_conditions, positions, words_at, word_of, is_position, data_at}
use Rattle.vbm_volume.specs.Like.{map_end, HasPosition, IsLikeFile}
use Rattle.vbm_volume.specs.Sectors.{first_sectors, base_sector, flat_of_base, sector_count}
use Rattle.vbm_volume.proofs.Images.{image_of-header, image_of-ok}
use Rattle.vbm_volume.proofs.Sectors.{data_within, word_within}
use Rattle.vbm_volume.proofs.Words.{words_at-same}

pub image_fields : (f : List ℕ) (h : Header) → image_of f ≡ Ok h → h ≡ fields f
unfolding image_of
image_fields f h e =
    let all = header_conditions f (length f) ++ map_conditions (positions f (fields f)) (fields f) (length f) in
    sym (unless-ok (first_that_fails all) (fields f) h e).1

layout-length : (h : Header) (len room : ℕ) → has_layout h len ≡ true → map_end h ≤ room → has_layout h room ≡ true
layout-length h len room layout whole = and_from _ _ (and_parts _ (nat_le (map_end h) len) layout).0 (le-leb _ _ whole)

-- the length of a file counts only as room for the header and the map
header_of-length : (f : List ℕ) (len room : ℕ) (h : Header) → header_of f len ≡ Ok h → 456 ≤ room → map_end h ≤ room
    → header_of f room ≡ Ok h
unfolding header_of header_conditions
header_of-length f len room h e long whole =
    let found = unless-ok (first_that_fails (header_conditions f len)) (fields f) h e in
    let all = all_hold (header_conditions f len) found.0 in
    let layout = layout-length (fields f) len room all.1.1.1.1.1.1.1.0 (subst (λ (x : Header). map_end x ≤ room) (sym found.1) whole) in
    let passed : first_that_fails (header_conditions f room) ≡ None =
    rw (le-leb 456 room long, layout) (rw (all.0, all.1.1.1.1.1.1.1.0) at found.0) in
    ap (λ o. unless o (fields f)) passed ∙ ap Ok found.1

-- what holds of the position of each block holds of all positions
pub all_positions : (p : ℕ → Bool) (f : List ℕ) (at n : ℕ)
    → ((b : ℕ) → b < n → is_position (number_at f (at + 4 * b) 4) ≡ true → p (number_at f (at + 4 * b) 4) ≡ true)
    → list_all p (filter is_position (words_at f at n)) ≡ true
unfolding words_at
all_positions p f at zero each = refl
all_positions p f at (suc n) each =
    ap (list_all p) (filter-append is_position (words_at f at n) (number_at f (at + 4 * n) 4 ∷ []))
    ∙ list_all-append p (filter is_position (words_at f at n)) (filter is_position (number_at f (at + 4 * n) 4 ∷ []))
    ∙ rw (all_positions p f at n (λ b lt. each b (omega arith))) (elim (cases_Bool (is_position (number_at f (at + 4 * n) 4))) [
      | inl is ↦ rw (is, each n (omega arith) is) refl
      | inr none ↦ rw none refl
    ])

module _ (f g : List ℕ) (h : Header) (e : image_of f ≡ Ok h) (same : take (map_end h) g ≡ take (map_end h) f) where
  -- the header and the map lie in the first bytes
  sizes : (456 ≤ map_end h) × (map_end h ≤ length f) × (map_end h ≤ length g)
  sizes =
      let facts = accepted f (length f) h (image_of-ok f h e).0 in
      let low : 456 ≤ map_end h = omega arith in
      let whole : map_end h ≤ length f = facts.map_end in
      (low, whole, omega (arith, ap length same, length-take (map_end h) f, length-take (map_end h) g))

  pub same_word : (b : ℕ) → b < h.blocks → word_of g h b ≡ word_of f h b
  same_word b lt =
      sym (number_at-take (map_end h) g (h.off_blocks + 4 * b) 4 (omega arith) (omega (arith, sizes.2)))
      ∙ ap (λ xs. number_at xs (h.off_blocks + 4 * b) 4) same
      ∙ number_at-take (map_end h) f (h.off_blocks + 4 * b) 4 (omega arith) (omega (arith, sizes.1))

  same_header : header_of g (length g) ≡ Ok h
  same_header =
      let front : take 456 g ≡ take 456 f =
      sym (take-take 456 (map_end h) g sizes.0) ∙ ap (take 456) same ∙ take-take 456 (map_end h) f sizes.0 in
      sym (header_of-take g (length g) (omega (arith, sizes.0, sizes.2)))
      ∙ ap (λ xs. header_of xs (length g)) front
      ∙ header_of-take f (length g) (omega (arith, sizes.0, sizes.1))
      ∙ header_of-length f (length f) (length g) h (image_of-ok f h e).0 (omega (arith, sizes.0, sizes.2)) sizes.2

pub like_refl : (f : List ℕ) (h : Header) (loose : ℕ → Bool) → image_of f ≡ Ok h → IsLikeFile h loose f f
like_refl f h loose e = record {
  head = refl;
  reach = λ b has. data_within f h b e has.block (ltb-true _ _ has.position);
  bytes = λ b k has low settled. refl;
}

pub like_image : (f g : List ℕ) (h : Header) (loose : ℕ → Bool) → image_of f ≡ Ok h → IsLikeFile h loose f g → image_of g ≡ Ok h
like_image f g h loose e like =
    let all = all_hold (map_conditions (positions f h) h (length f)) (image_of-ok f h e).1 in
    let reach = all_positions (λ p. nat_le (data_at h (p + 1)) (length g)) f h.off_blocks h.blocks
    (λ b lt is. le-leb _ _ (like.reach b (record { block = lt; position = is }))) in
    let words = words_at-same g f h.off_blocks h.off_blocks h.blocks (same_word f g h e like.head) in
    image_of-header g h (same_header f g h e like.head)
    ∙ ap (λ ws. unless (first_that_fails (map_conditions (filter is_position ws) h (length g))) h) words
    ∙ ap (λ o. unless o h) (none_fails (map_conditions (positions f h) h (length g)) (all.0, (reach, (all.1.1.0, tt))))

-- the sectors of two disks that are read sector by sector
pub length-first_sectors : (sector : ℕ → List ℕ) (n : ℕ) → length (first_sectors sector n) ≡ n
unfolding first_sectors
length-first_sectors sector zero = refl
length-first_sectors sector (suc n) = length_push (first_sectors sector n) (sector n) ∙ omega (arith, length-first_sectors sector n)

-- a sector of a disk that is read sector by sector
get_or-first_sectors : (sector : ℕ → List ℕ) (n i : ℕ) → i < n → get_or (first_sectors sector n) i [] ≡ sector i
unfolding first_sectors
get_or-first_sectors sector zero i lt = absurd (omega arith)
get_or-first_sectors sector (suc n) i lt = elim (cases_lt i n) [
  | inl below ↦
      get_or_append_left (first_sectors sector n) (sector n ∷ []) [] i (omega (arith, length-first_sectors sector n))
      ∙ get_or-first_sectors sector n i below
  | inr last ↦
      let same : n ≡ i = omega arith in
      get_or_push (first_sectors sector n) (sector n) [] i (length-first_sectors sector n ∙ same) ∙ ap sector same
]

pub slice_get-first_sectors : (sector : ℕ → List ℕ) (n i : ℕ) → i < n → slice_get (first_sectors sector n) i ≡ Some (sector i)
slice_get-first_sectors sector n i lt =
    slice_get-get_or (first_sectors sector n) i [] (omega (arith, length-first_sectors sector n)) ∙ ap Some (get_or-first_sectors sector n i lt)

-- a sector that is not loose
same_sector : (f g : List ℕ) (h : Header) (loose : ℕ → Bool) (i : ℕ) → image_of f ≡ Ok h → IsLikeFile h loose f g → i < sector_count h
    → IsFalse (loose i) → base_sector g h i ≡ base_sector f h i
unfolding base_sector
same_sector f g h loose i e like lt settled =
    let block = (word_within f h i e lt).0 in
    let parts : i / 2048 * 2048 + i % 2048 ≡ i = omega arith in
    rw (same_word f g h e like.head (i / 2048) block) (elim (cases_Bool (is_position (word_of f h (i / 2048)))) [
      | inl is ↦
          rw is (like.bytes (i / 2048) (i % 2048) (record { block = block; position = is }) (omega arith) (ap loose parts ∙ settled))
      | inr none ↦ rw none refl
    ])

-- the disk is the same but for its loose sectors
pub like_flat : (f g : List ℕ) (h : Header) (loose : ℕ → Bool) → image_of f ≡ Ok h → IsLikeFile h loose f g
    → (length (flat_of_base g h) ≡ length (flat_of_base f h))
    × ((i : ℕ) → IsFalse (loose i) → slice_get (flat_of_base g h) i ≡ slice_get (flat_of_base f h) i)
like_flat f g h loose e like =
    let n = sector_count h in
    let lengths = λ (x : List ℕ). length-first_sectors (base_sector x h) n in
    let past = λ (x : List ℕ) (i : ℕ) (out : n ≤ i). slice_get_past (flat_of_base x h) i (omega (arith, lengths x)) in (
      lengths g ∙ sym (lengths f),
      λ i settled. elim (cases_lt i n) [
        | inl inside ↦
            slice_get-first_sectors (base_sector g h) n i inside
            ∙ ap Some (same_sector f g h loose i e like inside settled)
            ∙ sym (slice_get-first_sectors (base_sector f h) n i inside)
        | inr out ↦ past g i out ∙ sym (past f i out)
      ],
    )

pub flat_length : (f : List ℕ) (h : Header) → length (flat_of_base f h) ≡ sector_count h
flat_length f h = length-first_sectors (base_sector f h) (sector_count h)

-- a capacity is whole sectors, from one to 2 TiB
pub capacity_good : (f : List ℕ) (h : Header) → image_of f ≡ Ok h
    → (h.capacity ≡ 512 * sector_count h) × (0 < h.capacity) × (h.capacity ≤ 2 ^ 41)
capacity_good f h e =
    let facts = accepted f (length f) h (image_of-ok f h e).0 in
    let whole : h.capacity % 512 ≡ 0 = facts.sectors in
    (omega arith, omega (arith, facts.some), facts.most)

-- more sectors may be loose
pub like_weaker : (f g : List ℕ) (h : Header) (loose more : ℕ → Bool) → ((i : ℕ) → IsFalse (more i) → IsFalse (loose i))
    → IsLikeFile h loose f g → IsLikeFile h more f g
like_weaker f g h loose more fewer like =
    record { head = like.head; reach = like.reach; bytes = λ b k has low settled. like.bytes b k has low (fewer (b * 2048 + k) settled) }

-- a position of the one is a position of the other
same_position : (f g : List ℕ) (h : Header) → image_of f ≡ Ok h → take (map_end h) g ≡ take (map_end h) f
    → (b : ℕ) → HasPosition h f b → HasPosition h g b
same_position f g h e same b has = record { block = has.block; position = rw (same_word f g h e same b has.block) has.position }

-- what a crash leaves is as good a start
pub like_sym : (f g : List ℕ) (h : Header) (loose : ℕ → Bool) → image_of f ≡ Ok h → IsLikeFile h loose f g → IsLikeFile h loose g f
like_sym f g h loose e like =
    let old = λ (b : ℕ) (has : HasPosition h g b). same_position g f h (like_image f g h loose e like) (sym like.head) b has in
    record {
      head = sym like.head;
      reach = λ b has. rw (same_word f g h e like.head b has.block) (data_within f h b e has.block (ltb-true _ _ (old b has).position));
      bytes = λ b k has low settled. rw (same_word f g h e like.head b has.block) (sym (like.bytes b k (old b has) low settled));
    }

-- what a crash leaves of what a crash leaves
pub like_trans : (f g j : List ℕ) (h : Header) (loose : ℕ → Bool) → image_of f ≡ Ok h
    → IsLikeFile h loose f g → IsLikeFile h loose g j → IsLikeFile h loose f j
like_trans f g j h loose e first next =
    let word = λ (b : ℕ) (has : HasPosition h f b). same_word f g h e first.head b has.block in
    record {
      head = next.head ∙ first.head;
      reach = λ b has. rw (word b has) at (next.reach b (same_position f g h e first.head b has));
      bytes = λ b k has low settled.
          rw (word b has) at (next.bytes b k (same_position f g h e first.head b has) low settled) ∙ first.bytes b k has low settled;
    }
