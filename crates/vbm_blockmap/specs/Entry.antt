-- Entries of a block map, and the words that they are (VDI 1.1: 0xFFFFFFFF is a free block, 0xFFFFFFFE a zero block).
use Rattle.std.specs.Prelude.{ℕ, ◌==◌, ◌<◌, if◌then◌else◌}
use Rattle.vbm_blockmap.specs.declared.entry.Entry.{Entry}
use Rattle.vbm_blockmap.specs.declared.entry.Entry.TheVariants.{Free, Zero, At}

abbrev pub entry_of_word : ℕ → Entry
entry_of_word word = if word == 0xFFFFFFFF then Free else if word == 0xFFFFFFFE then Zero else At word

abbrev pub word_of_entry : Entry → ℕ
word_of_entry Free = 0xFFFFFFFF
word_of_entry Zero = 0xFFFFFFFE
word_of_entry (At p) = p

-- a position is no word of another kind
abbrev pub IsEntry : Entry → Type 0
IsEntry Free = Unit {0}
IsEntry Zero = Unit {0}
IsEntry (At p) = p < 0xFFFFFFFE
