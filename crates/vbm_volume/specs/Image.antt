-- Which files are images: the block map of VDI 1.1, and all twelve conditions.
use Rattle.std.specs.Prelude.{◌≡◌, ℕ, zero, suc, ◌+◌, ◌*◌, ◌^◌, ◌%◌, ◌≤◌, ◌<◌, ◌==◌, ◌&&◌, not, nat_le, nat_lt, Bool, true, List, [], ◌∷◌, ◌++◌, length, filter, Result}
use Rattle.std.specs.List.{list_any, list_all}
use Rattle.vbm_header.specs.declared.BadImage.{BadImage}
use Rattle.vbm_header.specs.declared.BadImage.TheVariants.{PositionCount, PositionFile, PositionTwice}
use Rattle.vbm_header.specs.declared.Header.{Header}
use Rattle.vbm_header.specs.Field.{number_at}
use Rattle.vbm_header.specs.Header.{Condition, first_that_fails, header_conditions, unless, fields}

-- the n words of 4 bytes from `at` on
unfoldable pub words_at : List ℕ → ℕ → ℕ → List ℕ
words_at f at zero = []
words_at f at (suc n) = words_at f at n ++ number_at f (at + 4 * n) 4 ∷ []

-- the word of a block in the block map, which stands at offBlocks
abbrev pub word_of : List ℕ → Header → ℕ → ℕ
word_of f h b = number_at f (h.off_blocks + 4 * b) 4

-- 0xFFFFFFFF is a free block and 0xFFFFFFFE a zero block; every other word is a position
abbrev pub is_free : ℕ → Bool
is_free word = word == 0xFFFFFFFF

abbrev pub is_position : ℕ → Bool
is_position word = nat_lt word 0xFFFFFFFE

-- the positions in the block map, in the order of the blocks
abbrev pub positions : List ℕ → Header → List ℕ
positions f h = filter is_position (words_at f h.off_blocks h.blocks)

-- where the data of a position begins: blocks of 1 MiB follow one another from offData on
abbrev pub data_at : Header → ℕ → ℕ
data_at h p = h.off_data + p * 2 ^ 20

abbrev pub is_distinct : List ℕ → Bool
is_distinct [] = true
is_distinct (x ∷ xs) = not (list_any (λ y. x == y) xs) && is_distinct xs

-- The conditions on the positions in a file of len bytes, in their order: each is below cBlocksAllocated, the data of each
-- lies wholly in the file, and none stands twice.
abbrev pub map_conditions : List ℕ → Header → ℕ → List Condition
map_conditions ps h len =
    (PositionCount, list_all (λ p. nat_lt p h.allocated) ps)
    ∷ (PositionFile, list_all (λ p. nat_le (data_at h (p + 1)) len) ps)
    ∷ (PositionTwice, is_distinct ps)
    ∷ []

-- The header of an accepted image, or else the first of the twelve conditions that fails.
unfoldable pub image_of : List ℕ → Result Header BadImage
image_of f = unless (first_that_fails (header_conditions f (length f) ++ map_conditions (positions f (fields f)) (fields f) (length f))) (fields f)

-- What the conditions on sizes and places say of a header, whatever the length of its file is.
pub record IsSoundHeader (h : Header) : Type 0 where
  pub header_end : 456 ≤ h.off_blocks
  pub sectors : h.capacity % 512 ≡ 0
  pub some : 512 ≤ h.capacity
  pub most : h.capacity ≤ 2 ^ 41
  pub blocks : h.blocks ≤ 2 ^ 21
  pub enough : h.capacity ≤ h.blocks * 2 ^ 20
  pub map : h.off_blocks ≤ 2 ^ 31
  pub before_data : h.off_blocks + 4 * h.blocks ≤ h.off_data
  pub allocated : h.allocated < 2 ^ 32
