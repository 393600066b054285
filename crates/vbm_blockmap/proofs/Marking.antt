-- Positions are marked.
use Rattle.std.proofs.Common.{◌≡◌, ℕ, ◌+◌, ◌-◌, ◌*◌, ◌/◌, ◌%◌, ◌^◌, ◌<◌, ◌≤◌, false, eqb, List, get_or, sym, ap, ◌∙◌, arith, inl, inr}
use Rattle.std.specs.Int.{bit_at, w64, trailing_ones}
use Rattle.std.proofs.lemmas.Bool.{cases_lt, eq-eqb, false≢true}
use Rattle.std.proofs.lemmas.Bool.Decides.{eqb_tells}
use Rattle.std.proofs.lemmas.Nat.Bits.{bit_at_ones, bit_at-trailing_ones}
use Rattle.vbm_header.specs.declared.Header.{Header}
use Rattle.vbm_volume.specs.Image.{word_of}
use Rattle.vbm_volume.specs.Marks.{is_marked, MarksOneMore}
use Rattle.vbm_blockmap.specs.Used.{marked_below, marked_count, AreFull, IsLeast, MarksWords, MarksMap}
use Rattle.vbm_blockmap.specs.declared.used.TheConstants.{POSITION_LIMIT}
use Rattle.vbm_blockmap.proofs.Counting.{some_unmarked}

pub still_full : (old new : List ℕ) (p from : ℕ) → MarksOneMore old new p → AreFull old from → AreFull new from
still_full old new p from one full = λ q low. elim (eqb_tells q p) [
  | inl same ↦ ap (λ k. is_marked new k) same.1 ∙ one.here
  | inr apart ↦ one.others q apart.1 ∙ full q low
]

pub full_more : (words : List ℕ) (i : ℕ) → get_or words i 0 ≡ 2 ^ 64 - 1 → AreFull words i → AreFull words (i + 1)
unfolding is_marked
full_more words i all full = λ n low. elim (cases_lt n (64 * i)) [
  | inl before ↦ full n before
  | inr here ↦
      let word : n / 64 ≡ i = omega (arith, low, here) in
      ap (λ k. eqb (bit_at (get_or words k 0) (n % 64)) 1) word
      ∙ ap (λ w. eqb (bit_at w (n % 64)) 1) all
      ∙ eq-eqb _ _ (bit_at_ones 64 (n % 64) (omega arith))
]

pub not_all_full : (words : List ℕ) (i : ℕ) → 65536 ≤ i → AreFull words i → marked_count words < POSITION_LIMIT → ⊥
not_all_full words i past full less =
    let unmarked = some_unmarked words POSITION_LIMIT less in
    false≢true (sym unmarked.2 ∙ full unmarked.0 (let low = unmarked.1 in omega (arith, low, past)))

-- the words below that of the least position that is not marked are full
pub full_below : (words : List ℕ) (p : ℕ) → IsLeast words p → AreFull words (p / 64)
full_below words p is = λ q low. is.least q (omega (arith, low))

pub least_bit : (words : List ℕ) (from : ℕ) → AreFull words from → get_or words from 0 < 2 ^ 64 - 1
    → IsLeast words (64 * from + trailing_ones w64 (get_or words from 0))
unfolding is_marked
least_bit words from full some =
    let w : ℕ = get_or words from 0 in
    let t : ℕ = trailing_ones w64 w in
    let tells = bit_at-trailing_ones w64 w (omega arith) in
    let bound : t < 64 = tells.0 in
    let word : (64 * from + t) / 64 ≡ from = omega (arith, bound) in
    let bit : (64 * from + t) % 64 ≡ t = omega (arith, bound) in
    record {
      unmarked =
          ap (λ k. eqb (bit_at (get_or words k 0) ((64 * from + t) % 64)) 1) word
          ∙ ap (λ k. eqb (bit_at w k) 1) bit ∙ ap (λ b. eqb b 1) tells.1;
      least = λ n below. elim (cases_lt n (64 * from)) [
        | inl before ↦ full n before
        | inr here ↦
            let same : n / 64 ≡ from = omega (arith, bound) in
            ap (λ k. eqb (bit_at (get_or words k 0) (n % 64)) 1) same ∙ eq-eqb _ _ (tells.2 (n % 64) (omega (arith, bound)))
      ];
    }

pub least_low : (words : List ℕ) (p n : ℕ) → marked_below words n < n → IsLeast words p → p < n
least_low words p n less is = elim (cases_lt p n) [
  | inl low ↦ low
  | inr high ↦
      let unmarked = some_unmarked words n less in
      absurd (false≢true (sym unmarked.2 ∙ is.least unmarked.0 (let low = unmarked.1 in omega (arith, low, high))))
]

-- one word more
pub one_word : (old new : List ℕ) (word : ℕ) → MarksOneMore old new word → MarksWords (λ k. word) 1 old new
one_word old new word one = record {
  kept = λ p was. elim (eqb_tells p word) [
    | inl same ↦ ap (λ q. is_marked new q) same.1 ∙ one.here
    | inr apart ↦ one.others p apart.1 ∙ was
  ];
  marked = λ k lt low. one.here;
  only = λ p is. elim (eqb_tells p word) [
    | inl same ↦ inr (0, omega arith, sym same.1)
    | inr apart ↦ inl (sym (one.others p apart.1) ∙ is)
  ];
}

-- a word that is no position below the limit
pub no_word : (bits : List ℕ) (word : ℕ) → POSITION_LIMIT ≤ word → MarksWords (λ k. word) 1 bits bits
no_word bits word high = record {
  kept = λ p was. was;
  marked = λ k lt low. absurd (omega (arith, high, low));
  only = λ p is. inl is;
}

pub MarksWords-none : (words : ℕ → ℕ) (bits : List ℕ) → MarksWords words 0 bits bits
MarksWords-none words bits = record { kept = λ p was. was; marked = λ k lt low. absurd (omega (arith, lt)); only = λ p is. inl is }

-- more words behind them
pub MarksWords-add : (words more both : ℕ → ℕ) (m n : ℕ) (old mid new : List ℕ) → MarksWords words m old mid → MarksWords more n mid new
    → ((k : ℕ) → k < m → both k ≡ words k) → ((k : ℕ) → k < n → both (m + k) ≡ more k) → MarksWords both (m + n) old new
MarksWords-add words more both m n old mid new first next front back = record {
  kept = λ p was. next.kept p (first.kept p was);
  marked = λ k lt low. elim (cases_lt k m) [
    | inl before ↦
        let e = front k before in
        ap (λ p. is_marked new p) e ∙ next.kept (words k) (first.marked k before (omega (arith, e, low)))
    | inr behind ↦
        let at : m + (k - m) ≡ k = omega (arith, behind) in
        let e : both k ≡ more (k - m) = ap both (sym at) ∙ back (k - m) (omega (arith, lt, behind)) in
        ap (λ p. is_marked new p) e ∙ next.marked (k - m) (omega (arith, lt, behind)) (omega (arith, e, low))
  ];
  only = λ p is. elim (next.only p is) [
    | inl was ↦ elim (first.only p was) [
      | inl older ↦ inl older
      | inr found ↦ inr (found.0, (let lt = found.1 in omega (arith, lt)), front found.0 found.1 ∙ found.2)
    ]
    | inr found ↦ inr (m + found.0, (let lt = found.1 in omega (arith, lt)), back found.0 found.1 ∙ found.2)
  ];
}

pub MarksWords-same : (words other : ℕ → ℕ) (n : ℕ) (old new : List ℕ) → ((k : ℕ) → k < n → words k ≡ other k) → MarksWords words n old new → MarksWords other n old new
MarksWords-same words other n old new same is = record {
  kept = is.kept;
  marked = λ k lt low. let e = same k lt in ap (λ p. is_marked new p) (sym e) ∙ is.marked k lt (omega (arith, e, low));
  only = λ p now. elim (is.only p now) [
    | inl was ↦ inl was
    | inr found ↦ inr (found.0, found.1, sym (same found.0 found.1) ∙ found.2)
  ];
}

-- all words of a block map
pub map_marked : (f : List ℕ) (h : Header) (n : ℕ) (old new : List ℕ) → n ≡ h.blocks → ((p : ℕ) → is_marked old p ≡ false)
    → MarksWords (λ k. word_of f h k) n old new → MarksMap f h new
map_marked f h n old new all none words = record {
  marked = λ b lt low. words.marked b (omega (arith, all, lt)) low;
  only = λ p is. elim (words.only p is) [
    | inl was ↦ absurd (false≢true (sym (none p) ∙ was))
    | inr found ↦ (found.0, (let lt = found.1 in omega (arith, all, lt)), found.2)
  ];
}
