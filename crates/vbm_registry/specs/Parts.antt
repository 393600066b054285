-- The parts of a file, and how larger parts are made of smaller ones. A field is bad where it ends past the file or fails its test; what is
-- tested may depend on what was read before.
use Rattle.std.specs.Prelude.{ℕ, zero, suc, ◌^◌, Bool, true, ◌&&◌, ◌==◌, if◌then◌else◌, List, [], ◌∷◌, ◌++◌, length, take, drop, Result, Ok, Err, nat_lt}
use Rattle.std.specs.Int.{Width, byte_len, from_le_bytes}

-- what is read from the front of bytes: a value and the bytes after it, or how many bytes are left where the first bad field begins
abbrev pub Parsed : Type 0 → Type 0
Parsed X = Result (X × List ℕ) ℕ

-- A part of a file: how it is read, and which values it has.
pub record FilePart (X : Type 0) : Type 0 where
  pub read : List ℕ → Parsed X
  pub fits : X → Bool

abbrev pub and_then : {A B : Type 0} → Parsed A → (A → List ℕ → Parsed B) → Parsed B
and_then (Ok x) f = f x.0 x.1
and_then (Err left) f = Err left

-- a part, and another after it, which may depend on the first
infixl 10 ◌>>=◌
abbrev pub ◌>>=◌ : {A B : Type 0} → FilePart A → (A → FilePart B) → FilePart (A × B)
p >>= q = record {
  read = λ bytes. and_then (p.read bytes) (λ a rest. and_then ((q a).read rest) (λ b after. Ok ((a, b), after)));
  fits = λ x. p.fits x.0 && (q x.0).fits x.1;
}

-- a part as a value of another type, of whose values only those that pass a test stand in files
abbrev pub mapped_where : {A B : Type 0} → (A → B) → (B → A) → (B → Bool) → FilePart A → FilePart B
mapped_where to from test p = record {
  read = λ bytes. and_then (p.read bytes) (λ a rest. Ok (to a, rest));
  fits = λ b. p.fits (from b) && test b;
}

abbrev pub mapped : {A B : Type 0} → (A → B) → (B → A) → FilePart A → FilePart B
mapped to from p = mapped_where to from (λ b. true) p

-- a field that is bad where a test fails
abbrev pub tested : {A : Type 0} → FilePart A → (A → Bool) → FilePart A
tested p test = record {
  read = λ bytes. and_then (p.read bytes) (λ a rest. if test a then Ok (a, rest) else Err (length bytes));
  fits = λ a. p.fits a && test a;
}

-- several numbers that are one field: what is bad begins at the first
abbrev pub bad_at : {A : Type 0} → ℕ → Parsed A → Parsed A
bad_at left (Ok x) = Ok x
bad_at left (Err n) = Err left

abbrev pub one_field : {A : Type 0} → FilePart A → FilePart A
one_field p = record { read = λ bytes. bad_at (length bytes) (p.read bytes); fits = p.fits }

-- ---- what fields are made of

-- a number, little-endian
abbrev pub number : Width → FilePart ℕ
number w = record {
  read = λ bytes. if nat_lt (length bytes) (byte_len w) then Err (length bytes)
      else Ok (from_le_bytes w (take (byte_len w) bytes), drop (byte_len w) bytes);
  fits = λ n. nat_lt n (256 ^ byte_len w);
}

-- so many bytes
abbrev pub raw : ℕ → FilePart (List ℕ)
raw n = record {
  read = λ bytes. if nat_lt (length bytes) n then Err (length bytes) else Ok (take n bytes, drop n bytes);
  fits = λ text. length text == n;
}

-- no bytes: a value that is known
abbrev pub known : {A : Type 0} → (A → Bool) → A → FilePart A
known is_it a = record { read = λ bytes. Ok (a, bytes); fits = is_it }

-- ---- lists

-- so many items, each of which may depend on those before it
abbrev pub read_items : {X : Type 0} → (List X → FilePart X) → ℕ → List X → List ℕ → Parsed (List X)
read_items item zero before bytes = Ok ([], bytes)
read_items item (suc n) before bytes =
    and_then ((item before).read bytes) (λ x rest. and_then (read_items item n (before ++ x ∷ []) rest) (λ xs after. Ok (x ∷ xs, after)))

abbrev pub items_fit : {X : Type 0} → (List X → FilePart X) → List X → List X → Bool
items_fit item before [] = true
items_fit item before (x ∷ xs) = (item before).fits x && items_fit item (before ++ x ∷ []) xs

unfoldable pub items : {X : Type 0} → (List X → FilePart X) → ℕ → FilePart (List X)
items item n = record { read = read_items item n []; fits = λ xs. (length xs == n) && items_fit item [] xs }

-- a count that passes a test, and so many items
abbrev pub counted_list : {X : Type 0} → Width → (ℕ → Bool) → (ℕ → List X → FilePart X) → FilePart (List X)
counted_list w test item = mapped (λ x. x.1) (λ xs. (length xs, xs)) (do
  count ← tested (number w) test
  items (item count) count)
