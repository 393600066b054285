-- What a line gives, and how a reader moves on.
use Rattle.std.specs.Prelude.{◌≡◌, ◌⊎◌, ℕ, ◌+◌, ◌-◌, ◌<◌, ◌≤◌, ◌==◌, nat_lt, Bool, if◌then◌else◌, List, length, take, IsTrue, IsFalse}
use Rattle.vbm_lines.specs.declared.lines.TheConstants.{LONGEST_LINE}
use Rattle.vbm_lines.specs.Reader.{Reader}
use Rattle.vbm_lines.specs.declared.reader.Next.{Next}
use Rattle.vbm_lines.specs.declared.reader.Next.TheVariants.{Line, Long, End, ReadFault, Spent}

-- what is given for a line of which these bytes are held, where others before them may have been let go
abbrev pub IsNext : Next → Bool → List ℕ → Type 0
IsNext (Line text) skipping line = IsFalse skipping × (length line ≤ LONGEST_LINE) × (text ≡ line)
IsNext Long skipping line = IsTrue skipping ⊎ (LONGEST_LINE < length line)
IsNext End skipping line = ⊥
IsNext ReadFault skipping line = ⊥
IsNext Spent skipping line = ⊥

-- how often bytes can still be taken
abbrev pub turns : Reader → ℕ
turns r = r.most + 1 - r.taken + (if r.ended then 0 else 1)

-- A reader that holds n bytes more, after they are counted. None means the end, and a byte past `most` is not kept.
abbrev pub with_counted : Reader → ℕ → Reader
with_counted r n = record r {
  taken = r.taken + n;
  held = if nat_lt r.most (r.taken + n) then take (length r.held - 1) r.held else r.held;
  ended = n == 0;
}
