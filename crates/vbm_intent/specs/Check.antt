-- What decides whether a record may be redone.
use Rattle.std.specs.Prelude.{◌≡◌, ℕ, ◌+◌, ◌-◌, ◌^◌, ◌≤◌, List, length, Some, All}
use Rattle.vbm_intent.specs.declared.change.Change.{Change}
use Rattle.vbm_intent.specs.declared.change.Change.TheVariants.{Write, Fill, Cut, Remove}
use Rattle.vbm_intent.specs.Changes.{name_of, TouchesByte, IsAllowed}
use Rattle.vbm_intent.specs.Record.{body_length, count_of, changes_in}
use Rattle.vbm_intent.specs.declared.limits.TheConstants.{LONGEST_BODY, MOST_CHANGES}

-- the first byte that a change touches
abbrev pub touched_from : Change → ℕ
touched_from (Write name at bytes) = at
touched_from (Fill name at len byte) = at
touched_from (Cut name len) = len
touched_from (Remove name) = 0

-- the end of the bytes that it touches; a cut and a removal touch all behind the first
abbrev pub touched_to : Change → ℕ
touched_to (Write name at bytes) = at + length bytes
touched_to (Fill name at len byte) = at + len
touched_to (Cut name len) = 2 ^ 64 - 1
touched_to (Remove name) = 2 ^ 64 - 1

-- the changes are of different files, or touch no byte in common
abbrev pub AreApart : Change → Change → Type 0
AreApart c d = name_of d ≡ name_of c → (i : ℕ) → TouchesByte c i → TouchesByte d i → ⊥

-- a record of these changes, which are allowed but may touch the same bytes
pub record IsRecordOfAllowed (text : List ℕ) (cs : List Change) : Type 0 where
  pub changes : changes_in text ≡ Some cs
  pub allowed : All IsAllowed cs
  pub size : body_length text ≤ LONGEST_BODY
  pub count : count_of text ≤ MOST_CHANGES
