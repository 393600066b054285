-- Lower-case hexadecimal digits and the bytes that they spell.
use Rattle.std.proofs.Common.{◌≡◌, ℕ, zero, suc, ◌+◌, ◌-◌, ◌*◌, ◌/◌, ◌%◌, ◌<◌, ◌≤◌, Bool, true, false, List, [], ◌∷◌, length, slice_index, Ok, refl, sym, ap, subst, ◌∙◌, arith, inl, inr}
use Rattle.std.specs.Prelude.{◌==◌, ◌&&◌, ◌||◌, not, nat_le, if◌then◌else◌}
use Rattle.std.specs.List.{All, list_all}
use Rattle.std.proofs.lemmas.Bool.{and_parts, cases_lt, eqb-true, leb-true}
use Rattle.std.proofs.lemmas.Bool.Decides.{nat_tests}
use Rattle.std.proofs.lemmas.List.Elements.{All-cons, All-head, All-nil, All-tail}
use Rattle.hex.specs.Hex.{decode_of, encode_lower, encode_with, lower_digits}
use Rattle.hex.proofs.HexLemmas.{decode_of-encode_lower, length-encode_with}
use Rattle.vbm_ports.specs.Names.{is_lower_hex}
use Rattle.vbm_lines.specs.Digits.{SpellsBytes}
use Rattle.vbm_world.specs.declared.limits.TheConstants.{WRITE_LIMIT}
use Rattle.vbm_world.proofs.Spelling.{bytes_of_all}
use Rattle.vbm_script.specs.Guests.{SpellsByte, SpellsSectors}

-- ---- the digits

-- a test of all numbers below one
abbrev holds_below : (ℕ → Bool) → ℕ → Bool
holds_below test zero = true
holds_below test (suc n) = test n && holds_below test n

at_below : (test : ℕ → Bool) (n c : ℕ) → holds_below test n ≡ true → c < n → test c ≡ true
at_below test zero c holds below = absurd (omega arith)
at_below test (suc n) c holds below =
    let parts = and_parts (test n) (holds_below test n) holds in
    elim (cases_lt c n) [
      | inl lower ↦ at_below test n c parts.1 lower
      | inr top ↦ let e : c ≡ n = omega arith in ap test e ∙ parts.0
    ]

-- the value of a lower-case digit
abbrev value_of : ℕ → ℕ
value_of c = if nat_le c 57 then c - 48 else c - 87

-- a digit is that of its value in the table
abbrev is_read_back : ℕ → Bool
is_read_back c = not (is_lower_hex c) || ((slice_index lower_digits (value_of c) == c) && nat_le (value_of c) 15)

implied : (a b : Bool) → (not a || b) ≡ true → a ≡ true → b ≡ true
implied true b either is = either
implied false b either is = absurd cc

digit_small : (c : ℕ) → is_lower_hex c ≡ true → c < 103
digit_small c is = grind (arith, nat_tests)

digit_of : (c : ℕ) → is_lower_hex c ≡ true → (slice_index lower_digits (value_of c) ≡ c) × (value_of c < 16)
digit_of c is =
    let read = at_below is_read_back 103 c refl (digit_small c is) in
    let parts = and_parts _ _ (implied (is_lower_hex c) _ read is) in
    let small : value_of c ≤ 15 = leb-true _ _ parts.1 in
    (eqb-true _ _ parts.0, omega (arith, small))

digit_at : (d : ℕ) → d < 16 → is_lower_hex (slice_index lower_digits d) ≡ true
digit_at d small = at_below (λ d. is_lower_hex (slice_index lower_digits d)) 16 d refl small

-- ---- words of digits

pair_spelled : (high low : ℕ) (bytes : List ℕ) → high < 16 → low < 16
    → encode_lower ((high * 16 + low) ∷ bytes) ≡ slice_index lower_digits high ∷ slice_index lower_digits low ∷ encode_lower bytes
unfolding encode_with
pair_spelled high low bytes high_small low_small =
    let first : (high * 16 + low) / 16 ≡ high = omega arith in
    let second : (high * 16 + low) % 16 ≡ low = omega arith in
    rw (first, second) refl

bytes_spelled : (n : ℕ) (word : List ℕ) → length word ≡ 2 * n → list_all is_lower_hex word ≡ true
    → (bytes : List ℕ) × (length bytes ≡ n) × All (λ b. b < 256) bytes × (word ≡ encode_lower bytes)
unfolding encode_with
bytes_spelled zero [] long are = ([], refl, All-nil (λ b. b < 256), refl)
bytes_spelled zero (c ∷ word) long are = absurd (omega arith)
bytes_spelled (suc n) [] long are = absurd (omega arith)
bytes_spelled (suc n) (c ∷ []) long are = absurd (omega arith)
bytes_spelled (suc n) (high ∷ low ∷ word) long are =
    let parts = and_parts _ _ are in
    let behind = and_parts _ _ parts.1 in
    let first = digit_of high parts.0 in
    let second = digit_of low behind.0 in
    let k = bytes_spelled n word (omega arith) behind.1 in
    let byte_fits : value_of high * 16 + value_of low < 256 = omega (arith, first.1, second.1) in
    let front : high ∷ low ∷ word ≡ slice_index lower_digits (value_of high) ∷ slice_index lower_digits (value_of low) ∷ encode_lower k.0 =
    cc (first.0, second.0, k.3) in (
      (value_of high * 16 + value_of low) ∷ k.0,
      omega (arith, k.1),
      All-cons (λ b. b < 256) (value_of high * 16 + value_of low) k.0 byte_fits k.2,
      front ∙ sym (pair_spelled (value_of high) (value_of low) k.0 first.1 second.1),
    )

spelled_in_digits : (bytes : List ℕ) → All (λ b. b < 256) bytes → list_all is_lower_hex (encode_lower bytes) ≡ true
unfolding encode_with
spelled_in_digits [] fit = refl
spelled_in_digits (b ∷ bytes) fit =
    let small : b < 256 = All-head (λ b. b < 256) b bytes fit in
    let first = digit_at (b / 16) (omega arith) in
    let second = digit_at (b % 16) (omega arith) in
    rw (first, second) (spelled_in_digits bytes (All-tail (λ b. b < 256) b bytes fit))

-- ---- sectors

pub sectors_spelled : (word : List ℕ) (count : ℕ) → length word ≡ 1024 * count → 1 ≤ count → count ≤ WRITE_LIMIT
    → list_all is_lower_hex word ≡ true → (bytes : List ℕ) × SpellsSectors word bytes
sectors_spelled word count long some few are =
    let k = bytes_spelled (512 * count) word (omega arith) are in
    (k.0, record { spelled = k.3; are_sectors = record { count = count; some = some; few = few; long = k.1; bytes_are = k.2 } })

pub sectors_long : (word bytes : List ℕ) (spells : SpellsSectors word bytes) → length word ≡ 1024 * spells.are_sectors.count
sectors_long word bytes spells =
    omega (arith, ap length spells.spelled, length-encode_with lower_digits bytes, spells.are_sectors.long)

pub sectors_in_digits : (word bytes : List ℕ) → SpellsSectors word bytes → list_all is_lower_hex word ≡ true
sectors_in_digits word bytes spells = rw spells.spelled (spelled_in_digits bytes spells.are_sectors.bytes_are)

-- the bytes of sectors are bytes
pub sectors_bytes : (word bytes : List ℕ) → SpellsSectors word bytes → SpellsBytes word bytes
sectors_bytes word bytes spells = record {
  spelled = sym spells.spelled;
  some = omega (arith, spells.are_sectors.long, spells.are_sectors.some);
  fit = bytes_of_all bytes spells.are_sectors.bytes_are;
}

-- a word spells one list of bytes
pub bytes_of_sectors : (word bytes sectors : List ℕ) → SpellsBytes word bytes → SpellsSectors word sectors → SpellsSectors word bytes
bytes_of_sectors word bytes sectors spells are =
    let other = sectors_bytes word sectors are in
    let read : decode_of word ≡ Ok bytes = ap decode_of (sym spells.spelled) ∙ decode_of-encode_lower bytes spells.fit in
    let also : decode_of word ≡ Ok sectors = ap decode_of (sym other.spelled) ∙ decode_of-encode_lower sectors other.fit in
    let same : sectors ≡ bytes = cc in
    subst (SpellsSectors word) same are

-- ---- one byte

pub byte_length : (word : List ℕ) (byte : ℕ) → SpellsByte word byte → length word ≡ 2
byte_length word byte spells = omega (arith, ap length spells.spelled, length-encode_with lower_digits (byte ∷ []))

pub byte_in_digits : (word : List ℕ) (byte : ℕ) → SpellsByte word byte
    → (is_lower_hex (slice_index word 0) ≡ true) × (is_lower_hex (slice_index word 1) ≡ true)
unfolding encode_with
byte_in_digits word byte spells =
    let fits : byte < 256 = spells.fits in (
      ap (λ digits. is_lower_hex (slice_index digits 0)) spells.spelled ∙ digit_at (byte / 16) (omega arith),
      ap (λ digits. is_lower_hex (slice_index digits 1)) spells.spelled ∙ digit_at (byte % 16) (omega arith),
    )

two_digits : (word : List ℕ) → length word ≡ 2 → word ≡ slice_index word 0 ∷ slice_index word 1 ∷ []
two_digits [] two = absurd (omega arith)
two_digits (a ∷ []) two = absurd (omega arith)
two_digits (a ∷ b ∷ []) two = refl
two_digits (a ∷ b ∷ c ∷ word) two = absurd (omega arith)

pub byte_spelled : (word : List ℕ) (high low : ℕ) → length word ≡ 2 → high < 16 → slice_index lower_digits high ≡ slice_index word 0
    → low < 16 → slice_index lower_digits low ≡ slice_index word 1 → SpellsByte word (high * 16 + low)
unfolding encode_with
byte_spelled word high low two high_small high_is low_small low_is = record {
  spelled = two_digits word two ∙ cc (high_is, low_is) ∙ sym (pair_spelled high low [] high_small low_small);
  fits = omega arith;
}
