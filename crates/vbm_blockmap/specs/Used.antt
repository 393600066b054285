-- Marked positions, a bit for each of those below the limit: the positions that the entries of an image have.
use Rattle.std.specs.Prelude.{◌≡◌, ◌⊎◌, ℕ, zero, suc, ◌+◌, ◌*◌, ◌<◌, true, false, List, if◌then◌else◌}
use Rattle.vbm_header.specs.declared.Header.{Header}
use Rattle.vbm_volume.specs.Image.{word_of}
use Rattle.vbm_volume.specs.Marks.{is_marked}
use Rattle.vbm_blockmap.specs.declared.used.TheConstants.{POSITION_LIMIT}

-- how many of the positions below n are marked
unfoldable pub marked_below : List ℕ → ℕ → ℕ
marked_below bits zero = 0
marked_below bits (suc n) = marked_below bits n + (if is_marked bits n then 1 else 0)

-- how many positions are marked
abbrev pub marked_count : List ℕ → ℕ
marked_count bits = marked_below bits (POSITION_LIMIT)

-- the words before this one have all their bits
abbrev pub AreFull : List ℕ → ℕ → Type 0
AreFull bits from = (p : ℕ) → p < 64 * from → is_marked bits p ≡ true

-- the least position that is not marked
pub record IsLeast (bits : List ℕ) (p : ℕ) : Type 0 where
  pub unmarked : is_marked bits p ≡ false
  pub least : (q : ℕ) → q < p → is_marked bits q ≡ true

-- Those of the n words that are below the limit were marked, and nothing else was.
pub record MarksWords (words : ℕ → ℕ) (n : ℕ) (old new : List ℕ) : Type 0 where
  pub kept : (p : ℕ) → is_marked old p ≡ true → is_marked new p ≡ true
  pub marked : (k : ℕ) → k < n → words k < POSITION_LIMIT → is_marked new (words k) ≡ true
  pub only : (p : ℕ) → is_marked new p ≡ true → (is_marked old p ≡ true) ⊎ ((k : ℕ) × (k < n) × (words k ≡ p))

-- the block map has this word for some block
abbrev pub HasWord : List ℕ → Header → ℕ → Type 0
HasWord f h p = (b : ℕ) × (b < h.blocks) × (word_of f h b ≡ p)

-- marked are the positions below the limit that the block map has, and no others
pub record MarksMap (f : List ℕ) (h : Header) (bits : List ℕ) : Type 0 where
  pub marked : (b : ℕ) → b < h.blocks → word_of f h b < POSITION_LIMIT → is_marked bits (word_of f h b) ≡ true
  pub only : (p : ℕ) → is_marked bits p ≡ true → HasWord f h p
