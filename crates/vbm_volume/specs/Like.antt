-- An image file as a crash may leave it while guests write to it.
use Rattle.std.specs.Prelude.{◌≡◌, ℕ, ◌+◌, ◌*◌, ◌<◌, ◌≤◌, Bool, List, length, take, drop, IsTrue, IsFalse}
use Rattle.vbm_header.specs.declared.Header.{Header}
use Rattle.vbm_volume.specs.Image.{word_of, is_position, data_at}

-- where the block map ends
abbrev pub map_end : Header → ℕ
map_end h = h.off_blocks + 4 * h.blocks

-- the word of block b is a position
pub record HasPosition (h : Header) (f : List ℕ) (b : ℕ) : Type 0 where
  pub block : b < h.blocks
  pub position : IsTrue (is_position (word_of f h b))

-- where sector k of a position stands
abbrev pub sector_at : Header → ℕ → ℕ → ℕ
sector_at h p k = data_at h p + k * 512

-- The file f as a crash may leave it, g: header and map stand, each position lies in it, and each sector of a position that
-- is not loose stands.
pub record IsLikeFile (h : Header) (loose : ℕ → Bool) (f g : List ℕ) : Type 0 where
  pub head : take (map_end h) g ≡ take (map_end h) f
  pub reach : (b : ℕ) → HasPosition h f b → data_at h (word_of f h b + 1) ≤ length g
  pub bytes : (b k : ℕ) → HasPosition h f b → k < 2048 → IsFalse (loose (b * 2048 + k))
      → take 512 (drop (sector_at h (word_of f h b) k) g) ≡ take 512 (drop (sector_at h (word_of f h b) k) f)
