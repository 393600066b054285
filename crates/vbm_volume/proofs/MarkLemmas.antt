-- A bit is set, and the others stay.
use Rattle.std.proofs.Common.{◌≡◌, ◌≢◌, ℕ, zero, suc, ◌*◌, ◌/◌, ◌%◌, ◌^◌, ◌<◌, true, false, not, eqb, List, length, get_or, set, replicate, refl, sym, ap, ◌∙◌, arith, inl, inr, get_or-set_same, get_or-set_other}
use Rattle.std.specs.Int.{bit_at, w64}
use Rattle.std.specs.Int.Bits.{bit_and, bit_or}
use Rattle.std.proofs.lemmas.Bool.{cases_lt, eq-eqb}
use Rattle.std.proofs.lemmas.Bool.Decides.{eqb_tells}
use Rattle.std.proofs.lemmas.List.{get_or_default, get_or-replicate, get_or_past, length-replicate}
use Rattle.std.proofs.lemmas.Nat.Bits.{bit_at-lt, bit_at-zero, shr_and_one, bit_at_set_same, bit_at_set_other}
use Rattle.vbm_volume.specs.Marks.{is_marked, MarksOneMore}

below_two : (b : ℕ) → b < 2 → eqb b 0 ≡ not (eqb b 1)
below_two zero h = refl
below_two (suc zero) h = refl
below_two (suc (suc b)) h = absurd (omega arith)

-- the bit of a number below 64 times as many words, read before it is set
pub fresh : (words : List ℕ) (n word : ℕ) → word ≡ get_or words (n / 64) word → n < 64 * length words
    → eqb (bit_and (word / 2 ^ (n % 64)) 1) 0 ≡ not (is_marked words n)
unfolding is_marked
fresh words n word is room =
    let here : word ≡ get_or words (n / 64) 0 = is ∙ get_or_default words (n / 64) word 0 (omega arith) in
    ap (λ b. eqb b 0) (shr_and_one word (n % 64)) ∙ below_two _ (bit_at-lt word (n % 64))
    ∙ ap (λ w. not (eqb (bit_at w (n % 64)) 1)) here

pub is_marked-set_same : (words : List ℕ) (n word : ℕ) → n < 64 * length words
    → is_marked (set words (n / 64) (bit_or word (1 * 2 ^ (n % 64) % 2 ^ 64))) n ≡ true
unfolding is_marked
is_marked-set_same words n word room =
    ap (λ w. eqb (bit_at w (n % 64)) 1) (get_or-set_same words (n / 64) (bit_or word (1 * 2 ^ (n % 64) % 2 ^ 64)) 0 (omega arith))
    ∙ eq-eqb _ _ (bit_at_set_same w64 word (n % 64) (omega arith))

pub is_marked-set_other : (words : List ℕ) (n m word : ℕ) → word ≡ get_or words (n / 64) word → n < 64 * length words → m ≢ n
    → is_marked (set words (n / 64) (bit_or word (1 * 2 ^ (n % 64) % 2 ^ 64))) m ≡ is_marked words m
unfolding is_marked
is_marked-set_other words n m word is room other =
    let here : word ≡ get_or words (n / 64) 0 = is ∙ get_or_default words (n / 64) word 0 (omega arith) in
    elim (eqb_tells (m / 64) (n / 64)) [
      | inl same ↦
          let word_of : m / 64 ≡ n / 64 = same.1 in
          let bit : m % 64 ≢ n % 64 = λ e. other (omega arith) in
          ap (λ k. eqb (bit_at (get_or (set words (n / 64) (bit_or word (1 * 2 ^ (n % 64) % 2 ^ 64))) k 0) (m % 64)) 1) word_of
          ∙ ap (λ w. eqb (bit_at w (m % 64)) 1) (get_or-set_same words (n / 64) (bit_or word (1 * 2 ^ (n % 64) % 2 ^ 64)) 0 (omega arith))
          ∙ ap (λ b. eqb b 1) (bit_at_set_other w64 word (n % 64) (omega arith) (m % 64) bit)
          ∙ ap (λ w. eqb (bit_at w (m % 64)) 1) (here ∙ ap (λ k. get_or words k 0) (sym word_of))
      | inr apart ↦
          let differs : m / 64 ≢ n / 64 = apart.1 in
          ap (λ w. eqb (bit_at w (m % 64)) 1) (get_or-set_other words (n / 64) (m / 64) (bit_or word (1 * 2 ^ (n % 64) % 2 ^ 64)) 0 (λ e. differs e))
    ]

-- no bit is set in words of zeros
pub is_marked-zeros : (count n : ℕ) → is_marked (replicate count 0) n ≡ false
unfolding is_marked
is_marked-zeros count n =
    let none : get_or (replicate count 0) (n / 64) 0 ≡ 0 = elim (cases_lt (n / 64) count) [
      | inl within ↦ get_or-replicate count (n / 64) 0 0 within
      | inr past ↦ get_or_past (replicate count 0) (n / 64) 0 (omega (arith, length-replicate {A = ℕ} count 0))
    ] in
    ap (λ w. eqb (bit_at w (n % 64)) 1) none ∙ ap (λ b. eqb b 1) (bit_at-zero (n % 64))

-- a number is marked in words that have room for it
pub MarksOneMore-set : (words : List ℕ) (n word : ℕ) → word ≡ get_or words (n / 64) word → n < 64 * length words
    → MarksOneMore words (set words (n / 64) (bit_or word (1 * 2 ^ (n % 64) % 2 ^ 64))) n
MarksOneMore-set words n word is room = record {
  here = is_marked-set_same words n word room;
  others = λ m other. is_marked-set_other words n m word is room other;
}

-- the bit of a number, as it is read
pub read_bit : (words : List ℕ) (n word : ℕ) → word ≡ get_or words (n / 64) word → n < 64 * length words
    → eqb (bit_and (word / 2 ^ (n % 64)) 1) 1 ≡ is_marked words n
unfolding is_marked
read_bit words n word is room =
    ap (λ b. eqb b 1) (shr_and_one word (n % 64))
    ∙ ap (λ w. eqb (bit_at w (n % 64)) 1) (is ∙ get_or_default words (n / 64) word 0 (omega arith))
