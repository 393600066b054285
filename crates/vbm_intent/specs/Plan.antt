-- What a plan holds, and how its record grows.
use Rattle.std.specs.Prelude.{◌≡◌, ℕ, ◌+◌, ◌-◌, ◌≤◌, zero, suc, List, [], ◌∷◌, ◌++◌, length, take, drop, replicate, Some, unwrap_or}
use Rattle.std.specs.Int.{to_le_bytes, w32, w64}
use Rattle.vbm_intent.specs.declared.change.Change.{Change}
use Rattle.vbm_intent.specs.declared.change.Change.TheVariants.{Write, Fill, Cut, Remove}
use Rattle.vbm_intent.specs.Record.{changes_in, count_of, body_length, IsRecord}

-- the changes of a plan, and how many bytes its record's body can grow by without memory
pub record PlanState : Type 0 where
  pub changes : List Change
  pub spare : ℕ

-- a change as a record has it
abbrev pub change_bytes : Change → List ℕ
change_bytes (Write name at bytes) = 1 ∷ length name ∷ name ++ (to_le_bytes w64 at ++ (to_le_bytes w32 (length bytes) ++ bytes))
change_bytes (Fill name at len byte) = 2 ∷ length name ∷ name ++ (to_le_bytes w64 at ++ (to_le_bytes w64 len ++ byte ∷ []))
change_bytes (Cut name len) = 3 ∷ length name ∷ name ++ to_le_bytes w64 len
change_bytes (Remove name) = 4 ∷ length name ∷ name

-- how many bytes that is
abbrev pub text_size : Change → ℕ
text_size (Write name at bytes) = 2 + length name + 12 + length bytes
text_size (Fill name at len byte) = 2 + length name + 17
text_size (Cut name len) = 2 + length name + 8
text_size (Remove name) = 2 + length name

-- the bytes of a record's body
abbrev pub body_size : List Change → ℕ
body_size [] = 0
body_size (c ∷ cs) = text_size c + body_size cs

-- the record of a plan's bytes: an empty plan has none yet
abbrev pub record_of : List ℕ → List ℕ
record_of [] = replicate 8 0
record_of (b ∷ bytes) = b ∷ bytes

-- the changes of a record, or none
abbrev pub changes_of_record : List ℕ → List Change
changes_of_record text = unwrap_or (changes_in text) []

-- the changes of a plan's bytes
abbrev pub plan_of : List ℕ → List Change
plan_of bytes = changes_of_record (record_of bytes)

-- how many bytes the body can grow by in a block of this capacity
abbrev pub spare_in : ℕ → List ℕ → ℕ
spare_in capacity bytes = capacity - length (record_of bytes)

-- a record with its head, and one change more at its end
abbrev pub with_change : List ℕ → Change → List ℕ
with_change text c = to_le_bytes w32 ((length text - 8) + text_size c) ++ (to_le_bytes w32 (count_of text + 1) ++ (drop 8 text ++ change_bytes c))

-- a record that ends with its body
pub record IsWholeRecord (text : List ℕ) (cs : List Change) : Type 0 where
  pub plan : IsRecord text cs
  pub whole : length text ≡ 8 + body_length text

-- a change with other bytes from a place on; only a write has bytes
abbrev pub with_bytes : ℕ → List ℕ → Change → Change
with_bytes from bytes (Write name at all) = Write name at (take from all ++ (bytes ++ drop (from + length bytes) all))
with_bytes from bytes (Fill name at len byte) = Fill name at len byte
with_bytes from bytes (Cut name len) = Cut name len
with_bytes from bytes (Remove name) = Remove name

-- the changes, of which the one with index k has other bytes
abbrev pub set_bytes : ℕ → ℕ → List ℕ → List Change → List Change
set_bytes k from bytes [] = []
set_bytes zero from bytes (c ∷ cs) = with_bytes from bytes c ∷ cs
set_bytes (suc k) from bytes (c ∷ cs) = c ∷ set_bytes k from bytes cs

-- a write that has n bytes from a place on
abbrev pub HasBytes : ℕ → ℕ → Change → Type 0
HasBytes from n (Write name at bytes) = from + n ≤ length bytes
HasBytes from n (Fill name at len byte) = ⊥
HasBytes from n (Cut name len) = ⊥
HasBytes from n (Remove name) = ⊥

-- the change with index k is one
abbrev pub HasBytesAt : ℕ → ℕ → ℕ → List Change → Type 0
HasBytesAt k from n [] = ⊥
HasBytesAt zero from n (c ∷ cs) = HasBytes from n c
HasBytesAt (suc k) from n (c ∷ cs) = HasBytesAt k from n cs

-- the bytes of the write with index k lie at a place of a record, and may be others
pub record IsPlaceOf (text : List ℕ) (cs : List Change) (k place : ℕ) : Type 0 where
  pub front : List ℕ
  pub back : List ℕ
  pub name : List ℕ
  pub at : ℕ
  pub bytes : List ℕ
  pub before : List Change
  pub behind : List Change
  pub is_text : text ≡ front ++ (bytes ++ back)
  pub is_place : length front ≡ place
  pub behind_head : 8 ≤ place
  pub is_changes : cs ≡ before ++ Write name at bytes ∷ behind
  pub is_index : length before ≡ k
  pub other : (b : List ℕ) → length b ≡ length bytes → changes_in (front ++ (b ++ back)) ≡ Some (before ++ Write name at b ∷ behind)
