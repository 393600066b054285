-- How many positions are marked.
use Rattle.std.proofs.Common.{◌≡◌, ℕ, zero, suc, ◌+◌, ◌<◌, ◌≤◌, true, false, not, Bool, List, refl, sym, ap, ◌∙◌, arith, inl, inr}
use Rattle.std.proofs.lemmas.Bool.{cases_Bool}
use Rattle.std.proofs.lemmas.Bool.Decides.{eqb_tells}
use Rattle.vbm_volume.specs.Marks.{is_marked, MarksOneMore}
use Rattle.vbm_blockmap.specs.Used.{marked_below}

pub marked_below-none : (bits : List ℕ) (n : ℕ) → ((p : ℕ) → is_marked bits p ≡ false) → marked_below bits n ≡ 0
unfolding marked_below
marked_below-none bits zero none = refl
marked_below-none bits (suc n) none = rw (none n, marked_below-none bits n none) refl

pub marked_below-≤ : (bits : List ℕ) (n : ℕ) → marked_below bits n ≤ n
unfolding marked_below
marked_below-≤ bits zero = omega arith
marked_below-≤ bits (suc n) =
    let below = marked_below-≤ bits n in
    elim (cases_Bool (is_marked bits n)) [
      | inl used ↦ rw used (omega (arith, below))
      | inr unmarked ↦ rw unmarked (omega (arith, below))
    ]

pub marked_below-same : (old new : List ℕ) (n : ℕ) → ((p : ℕ) → p < n → is_marked new p ≡ is_marked old p)
    → marked_below new n ≡ marked_below old n
unfolding marked_below
marked_below-same old new zero same = refl
marked_below-same old new (suc n) same =
    let here : is_marked new n ≡ is_marked old n = same n (omega arith) in
    let below : marked_below new n ≡ marked_below old n = marked_below-same old new n (λ p lt. same p (omega (arith, lt))) in
    rw (here, below) refl

-- one position more
pub marked_below-more : (old new : List ℕ) (p n : ℕ) → MarksOneMore old new p → is_marked old p ≡ false → p < n
    → marked_below new n ≡ marked_below old n + 1
unfolding marked_below
marked_below-more old new p zero one unmarked low = absurd (omega (arith, low))
marked_below-more old new p (suc n) one unmarked low = elim (eqb_tells p n) [
  | inl same ↦
      let now : is_marked new n ≡ true = ap (λ q. is_marked new q) (sym same.1) ∙ one.here in
      let was : is_marked old n ≡ false = ap (λ q. is_marked old q) (sym same.1) ∙ unmarked in
      let below : marked_below new n ≡ marked_below old n =
      marked_below-same old new n (λ q lt. one.others q (λ e. let is = same.1 in omega (arith, e, is, lt))) in
      rw (now, was, below) (omega arith)
  | inr apart ↦
      let here : is_marked new n ≡ is_marked old n = one.others n (λ e. apart.1 (sym e)) in
      let below : marked_below new n ≡ marked_below old n + 1 =
      marked_below-more old new p n one unmarked (let other = apart.1 in omega (arith, low, other)) in
      rw (here, below) (omega arith)
]

-- a position that was marked
pub marked_below-again : (old new : List ℕ) (p n : ℕ) → MarksOneMore old new p → is_marked old p ≡ true
    → marked_below new n ≡ marked_below old n
marked_below-again old new p n one was = marked_below-same old new n (λ q lt. elim (eqb_tells q p) [
  | inl same ↦ ap (λ k. is_marked new k) same.1 ∙ one.here ∙ sym (ap (λ k. is_marked old k) same.1 ∙ was)
  | inr apart ↦ one.others q apart.1
])

-- at most one position more
pub marked_below-mark : (old new : List ℕ) (p n : ℕ) → MarksOneMore old new p → p < n → marked_below new n ≤ marked_below old n + 1
marked_below-mark old new p n one low = elim (cases_Bool (is_marked old p)) [
  | inl was ↦ (let same = marked_below-again old new p n one was in omega (arith, same))
  | inr unmarked ↦ (let more = marked_below-more old new p n one unmarked low in omega (arith, more))
]

-- where fewer than n of the positions below n are marked, one of them is not
pub some_unmarked : (bits : List ℕ) (n : ℕ) → marked_below bits n < n → (p : ℕ) × (p < n) × (is_marked bits p ≡ false)
unfolding marked_below
some_unmarked bits zero less = absurd (omega (arith, less))
some_unmarked bits (suc n) less = elim (cases_Bool (is_marked bits n)) [
  | inl used ↦
      let fewer : marked_below bits n < n = (let more = rw used at less in omega (arith, more)) in
      let found = some_unmarked bits n fewer in
      (found.0, (let lt = found.1 in omega (arith, lt)), found.2)
  | inr unmarked ↦ (n, omega arith, unmarked)
]

pub not_true : (b : Bool) → not b ≡ true → b ≡ false
not_true true h = cc
not_true false h = refl

pub not_false : (b : Bool) → not b ≡ false → b ≡ true
not_false true h = refl
not_false false h = cc
