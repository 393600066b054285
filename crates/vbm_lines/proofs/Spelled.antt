-- The number that a word spells.
use Rattle.std.proofs.Common.{◌≡◌, ◌≢◌, ℕ, ◌+◌, ◌<◌, ◌^◌, List, [], ◌∷◌, length, get_or, Result, Ok, Err, refl, sym, ap, ◌∙◌, arith, inl, inr, ◌⊎◌}
use Rattle.std.specs.Prelude.{MatchOption, decimal}
use Rattle.std.specs.Result.{result_ok}
use Rattle.std.specs.Str.{IsUtf8}
use Rattle.std.specs.Str.Parse.{ParsesUnsigned, AllDigits, digits_value}
use Rattle.std.proofs.lemmas.Bool.{cases_lt}
use Rattle.std.proofs.lemmas.Fmt.{parse-decimal, decimal_digit, decimal_nonempty, first_decimal, IsAscii-decimal, decimal-digits_value}
use Rattle.std.proofs.lemmas.Str.{IsUtf8-from_ascii}
use Rattle.std.proofs.lemmas.Str.Parse.{IsNumeralModel, numerals_by_value, tells_digits, parse_plain}

own : IsNumeralModel (AllDigits 10) (digits_value 10)
own = numerals_by_value (AllDigits 10) tells_digits

-- a word spells no number
abbrev pub SpellsNone : List ℕ → Type 0
SpellsNone word = (n : ℕ) → n < 2 ^ 64 → word ≡ decimal n → ⊥

-- a number's text begins with a digit from 1 on, or is `0`
first_digit : (n : ℕ) → n < 2 ^ 64 → (48 < get_or (decimal n) 0 0) ⊎ ((get_or (decimal n) 0 0 ≡ 48) × (length (decimal n) ≡ 1))
first_digit n fits = elim (cases_lt 0 n) [
  | inl some ↦ inl (first_decimal n some fits)
  | inr none ↦ let one : decimal n ≡ (48 + n) ∷ [] = decimal_digit n (omega arith) in inr (rw one (omega arith, refl))
]

pub spells_none-empty : (word : List ℕ) → length word ≡ 0 → SpellsNone word
spells_none-empty word h n fits e = omega (arith, decimal_nonempty n fits, ap length e)

pub spells_none-first : (word : List ℕ) → get_or word 0 0 < 48 → SpellsNone word
spells_none-first word h n fits e = elim (first_digit n fits) [
  | inl some ↦ omega (arith, ap (λ xs. get_or xs 0 0) e)
  | inr zero ↦ omega (arith, zero.0, ap (λ xs. get_or xs 0 0) e)
]

pub spells_none-zero : (word : List ℕ) → get_or word 0 0 ≡ 48 → 1 < length word → SpellsNone word
spells_none-zero word h long n fits e = elim (first_digit n fits) [
  | inl some ↦ omega (arith, ap (λ xs. get_or xs 0 0) e)
  | inr zero ↦ omega (arith, zero.1, ap length e)
]

pub spells_none-text : (word : List ℕ) → (IsUtf8 word → ⊥) → SpellsNone word
spells_none-text word h n fits e = h (rw e (IsUtf8-from_ascii (decimal n) (IsAscii-decimal n fits)))

-- what `parse` gives
pub number_parsed : {E : Type 0} (word : List ℕ) (r : Result ℕ E) → ParsesUnsigned 64 10 word r → 0 < length word → get_or word 0 0 ≢ 43
    → (get_or word 0 0 ≡ 48 → length word ≡ 1) → MatchOption (result_ok r) (SpellsNone word) (λ n. word ≡ decimal n)
number_parsed {E} word (Ok x) h some plain lead =
    let p = parse_plain own {E = E} 64 word (Ok x) h plain in
    sym (ap decimal p.1 ∙ decimal-digits_value own word p.0.0 some lead p.0.2)
number_parsed {E} word (Err e) h some plain lead = λ n fits same. cc (parse-decimal {E = E} 64 n word (Err e) fits fits same h)
