-- The record of a plan, in bytes: the body's length n (u32), the count of changes (u32), and the n bytes of the changes. Numbers
-- are little-endian. A change is its kind byte, the length byte of its name, the name, and what its kind has:
--   1 write: at u64, len u32, len bytes; 2 fill: at u64, len u64, byte; 3 cut: len u64; 4 remove: nothing.
use Rattle.std.specs.Prelude.{◌≡◌, ℕ, ◌+◌, ◌≤◌, ◌==◌, nat_le, cond, zero, suc, List, [], ◌∷◌, length, take, drop, Option, Some, None, option_and_then, All}
use Rattle.std.specs.Int.{from_le_bytes, w32, w64}
use Rattle.vbm_intent.specs.declared.change.Change.{Change}
use Rattle.vbm_intent.specs.declared.change.Change.TheVariants.{Write, Fill, Cut, Remove}
use Rattle.vbm_intent.specs.Changes.{IsAllowed, IsApart, of_file}
use Rattle.vbm_intent.specs.declared.limits.TheConstants.{LONGEST_BODY, MOST_CHANGES}

-- the first n bytes, and those behind them
abbrev pub split_off : ℕ → List ℕ → Option (List ℕ × List ℕ)
split_off n bytes = cond (nat_le n (length bytes)) (Some (take n bytes, drop n bytes)) None

-- a change, and the bytes behind it
abbrev pub Part : Type 0
Part = Option (Change × List ℕ)

abbrev pub after_u64 : List ℕ → (ℕ → List ℕ → Part) → Part
after_u64 bytes next = option_and_then (λ (p : List ℕ × List ℕ). next (from_le_bytes w64 p.0) p.1) (split_off 8 bytes)

abbrev pub after_u32 : List ℕ → (ℕ → List ℕ → Part) → Part
after_u32 bytes next = option_and_then (λ (p : List ℕ × List ℕ). next (from_le_bytes w32 p.0) p.1) (split_off 4 bytes)

abbrev pub after_bytes : ℕ → List ℕ → (List ℕ → List ℕ → Part) → Part
after_bytes n bytes next = option_and_then (λ (p : List ℕ × List ℕ). next p.0 p.1) (split_off n bytes)

abbrev pub after_byte : List ℕ → (ℕ → List ℕ → Part) → Part
after_byte [] next = None
after_byte (b ∷ rest) next = next b rest

abbrev pub of_kind : ℕ → List ℕ → List ℕ → Part
of_kind kind name rest =
    cond (kind == 1) (after_u64 rest (λ at r. after_u32 r (λ len s. after_bytes len s (λ bytes t. Some (Write name at bytes, t)))))
    (cond (kind == 2) (after_u64 rest (λ at r. after_u64 r (λ len s. after_byte s (λ byte t. Some (Fill name at len byte, t)))))
    (cond (kind == 3) (after_u64 rest (λ len r. Some (Cut name len, r)))
    (cond (kind == 4) (Some (Remove name, rest)) None)))

abbrev pub change_of : List ℕ → Part
change_of bytes = after_byte bytes (λ kind r. after_byte r (λ n s. after_bytes n s (λ name t. of_kind kind name t)))

-- so many changes, which fill the bytes
abbrev pub changes_of : ℕ → List ℕ → Option (List Change)
changes_of zero [] = Some []
changes_of zero (b ∷ bytes) = None
changes_of (suc n) bytes = option_and_then (λ (p : Change × List ℕ). option_and_then (λ (cs : List Change). Some (p.0 ∷ cs)) (changes_of n p.1)) (change_of bytes)

abbrev pub body_length : List ℕ → ℕ
body_length text = from_le_bytes w32 (take 4 text)

abbrev pub count_of : List ℕ → ℕ
count_of text = from_le_bytes w32 (take 4 (drop 4 text))

-- the changes of a record; bytes behind its body are unread
abbrev pub changes_in : List ℕ → Option (List Change)
changes_in text = cond (nat_le (8 + body_length text) (length text)) (changes_of (count_of text) (take (body_length text) (drop 8 text))) None

-- A plan: allowed changes that touch different bytes.
pub record IsPlan (cs : List Change) : Type 0 where
  pub allowed : All IsAllowed cs
  pub apart : (name : List ℕ) → IsApart (of_file name cs)

-- a record of these changes: its body has LONGEST_BODY bytes at most, and MOST_CHANGES changes at most
pub record IsRecord (text : List ℕ) (cs : List Change) : Type 0 where
  pub changes : changes_in text ≡ Some cs
  pub plan : IsPlan cs
  pub size : body_length text ≤ LONGEST_BODY
  pub count : count_of text ≤ MOST_CHANGES
