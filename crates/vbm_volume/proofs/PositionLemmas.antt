-- Laws of the positions among words.
use Rattle.std.proofs.Common.{◌≡◌, ◌≢◌, ℕ, ◌+◌, ◌*◌, ◌^◌, ◌<◌, ◌≤◌, Bool, true, false, not, ◌&&◌, ◌||◌, cond, eqb, ltb, max, List, [], ◌∷◌, ◌++◌, refl, sym, ap, ◌∙◌, arith, inl, inr}
use Rattle.std.specs.Prelude.{◌==◌}
use Rattle.std.specs.List.{filter, list_any}
use Rattle.std.proofs.lemmas.Bool.{cases_Bool, lt-ltb, false≢true}
use Rattle.std.proofs.lemmas.Bool.Decides.{eqb_tells}
use Rattle.std.proofs.lemmas.List.{append-nil}
use Rattle.std.proofs.lemmas.List.Elements.{filter-append}
use Rattle.std.proofs.lemmas.List.Folds.{list_any-append}
use Rattle.vbm_header.specs.Field.{number_at}
use Rattle.vbm_volume.specs.Image.{is_distinct, is_position, words_at}
use Rattle.vbm_volume.specs.Marks.{is_marked}
use Rattle.vbm_volume.specs.Positions.{AreMarked, end_of, positions_in, is_low, is_high}
use Rattle.vbm_volume.proofs.Words.{words_at-zero, words_at-one_more}

or-true : (b : Bool) → (b || true) ≡ true
or-true true = refl
or-true false = refl

or-false : (b : Bool) → (b || false) ≡ b
or-false true = refl
or-false false = refl

not-not : (b : Bool) → not (not b) ≡ b
not-not true = refl
not-not false = refl

not-and : (a b : Bool) → not (a && not b) ≡ (not a || b)
not-and true true = refl
not-and true false = refl
not-and false b = refl

not-both : (a b : Bool) → (not a || not b) ≡ not (a && b)
not-both true b = refl
not-both false b = refl

eqb-flip : (x y : ℕ) → eqb x y ≡ eqb y x
eqb-flip x y = elim (eqb_tells x y) [
  | inl same ↦ elim (eqb_tells y x) [ inl back ↦ same.0 ∙ sym back.0 | inr other ↦ absurd (other.1 (sym same.1)) ]
  | inr apart ↦ elim (eqb_tells y x) [ inl back ↦ absurd (apart.1 (sym back.1)) | inr other ↦ apart.0 ∙ sym other.0 ]
]

list_any-one_more : (p : ℕ → Bool) (xs : List ℕ) (x : ℕ) → list_any p (xs ++ x ∷ []) ≡ (list_any p xs || p x)
list_any-one_more p xs x = list_any-append p xs (x ∷ []) ∙ ap (λ b. list_any p xs || b) (or-false (p x))

regroup : (a b c e : Bool) → (not (a || e) && (b && not c)) ≡ ((not a && b) && not (e || c))
regroup true b c e = refl
regroup false true c true = refl
regroup false false c true = refl
regroup false b c false = refl

-- a list with one element more is distinct where the element is new
pub is_distinct-one_more : (xs : List ℕ) (x : ℕ) → is_distinct (xs ++ x ∷ []) ≡ (is_distinct xs && not (list_any (λ y. x == y) xs))
is_distinct-one_more [] x = refl
is_distinct-one_more (y ∷ ys) x =
    ap (λ a. not a && is_distinct (ys ++ x ∷ [])) (list_any-one_more (λ z. y == z) ys x)
    ∙ ap (λ d. not (list_any (λ z. y == z) ys || y == x) && d) (is_distinct-one_more ys x)
    ∙ ap (λ e. not (list_any (λ z. y == z) ys || e) && (is_distinct ys && not (list_any (λ z. x == z) ys))) (eqb-flip y x)
    ∙ regroup (list_any (λ z. y == z) ys) (is_distinct ys) (list_any (λ z. x == z) ys) (x == y)

-- an element that passes a test is looked for among those that pass it
list_any-filter : (test : ℕ → Bool) (x : ℕ) (xs : List ℕ) → test x ≡ true → list_any (λ y. x == y) (filter test xs) ≡ list_any (λ y. x == y) xs
list_any-filter test x [] passes = refl
list_any-filter test x (y ∷ ys) passes = elim (cases_Bool (test y)) [
  | inl kept ↦ rw kept (ap (λ b. x == y || b) (list_any-filter test x ys passes))
  | inr dropped ↦
      let apart : (x == y) ≡ false = elim (eqb_tells x y) [
        | inl same ↦ absurd (false≢true (sym dropped ∙ ap test (sym same.1) ∙ passes))
        | inr other ↦ other.0
      ] in
      rw (dropped, apart) (list_any-filter test x ys passes)
]

and-assoc : (a b c : Bool) → (a && (b && c)) ≡ ((a && b) && c)
and-assoc true b c = refl
and-assoc false b c = refl

and-swap : (a b c : Bool) → (a && (b && c)) ≡ (b && (a && c))
and-swap true b c = refl
and-swap false true c = refl
and-swap false false c = refl

-- the positions are distinct where those below a number are and the others are
pub is_distinct-split : (end : ℕ) (ps : List ℕ) → is_distinct ps ≡ (is_distinct (filter (is_low end) ps) && is_distinct (filter (is_high end) ps))
is_distinct-split end [] = refl
is_distinct-split end (x ∷ xs) = elim (cases_Bool (ltb x end)) [
  | inl low ↦
      rw low (
      ap (λ d. not (list_any (λ y. x == y) xs) && d) (is_distinct-split end xs)
      ∙ and-assoc (not (list_any (λ y. x == y) xs)) (is_distinct (filter (is_low end) xs)) (is_distinct (filter (is_high end) xs))
      ∙ ap (λ a. (not a && is_distinct (filter (is_low end) xs)) && is_distinct (filter (is_high end) xs)) (sym (list_any-filter (is_low end) x xs low))
      )
  | inr high ↦
      rw high (
      ap (λ d. not (list_any (λ y. x == y) xs) && d) (is_distinct-split end xs)
      ∙ and-swap (not (list_any (λ y. x == y) xs)) (is_distinct (filter (is_low end) xs)) (is_distinct (filter (is_high end) xs))
      ∙ ap (λ a. is_distinct (filter (is_low end) xs) && (not a && is_distinct (filter (is_high end) xs))) (sym (list_any-filter (is_high end) x xs (ap not high)))
      )
]

filter-kept : (p : ℕ → Bool) (xs : List ℕ) (x : ℕ) → p x ≡ true → filter p (xs ++ x ∷ []) ≡ filter p xs ++ x ∷ []
filter-kept p xs x is = filter-append p xs (x ∷ []) ∙ ap (λ b. filter p xs ++ cond b (x ∷ []) []) is

filter-dropped : (p : ℕ → Bool) (xs : List ℕ) (x : ℕ) → p x ≡ false → filter p (xs ++ x ∷ []) ≡ filter p xs
filter-dropped p xs x is = filter-append p xs (x ∷ []) ∙ ap (λ b. filter p xs ++ cond b (x ∷ []) []) is ∙ append-nil (filter p xs)

-- one word more
pub positions_in-one_more : (piece : List ℕ) (i word : ℕ) → word ≡ number_at piece (4 * i) 4
    → positions_in piece (i + 1) ≡ positions_in piece i ++ filter is_position (word ∷ [])
positions_in-one_more piece i word here =
    let place : 4 * i ≡ 0 + 4 * i = omega arith in
    ap (λ ws. filter is_position ws) (words_at-one_more piece 0 i)
    ∙ ap (λ w. filter is_position (words_at piece 0 i ++ w ∷ [])) (sym (here ∙ ap (λ o. number_at piece o 4) place))
    ∙ filter-append is_position (words_at piece 0 i) (word ∷ [])

pub positions_in-zero : (piece : List ℕ) → positions_in piece 0 ≡ []
positions_in-zero piece = ap (λ ws. filter is_position ws) (words_at-zero piece 0)

-- the greater end counts
pub end_of-append : (xs ys : List ℕ) → end_of (xs ++ ys) ≡ max (end_of xs) (end_of ys)
end_of-append [] ys = omega arith
end_of-append (x ∷ xs) ys = omega (arith, end_of-append xs ys)

-- positions that end below a number are low
pub filter-is_high : (low_end : ℕ) (ps : List ℕ) → end_of ps ≤ low_end → filter (is_high low_end) ps ≡ []
filter-is_high low_end [] below = refl
filter-is_high low_end (p ∷ ps) below =
    let low : ltb p low_end ≡ true = lt-ltb _ _ (omega arith) in
    rw low (filter-is_high low_end ps (omega arith))

-- a position that is marked
pub AreMarked-marked : (low_end : ℕ) (old new : List ℕ) (is_twice is_new : Bool) (ps : List ℕ) (word : ℕ)
    → word < low_end → low_end ≤ 2 ^ 22 → is_new ≡ not (is_marked old word)
    → is_marked new word ≡ true → ((m : ℕ) → m ≢ word → is_marked new m ≡ is_marked old m)
    → AreMarked low_end old is_twice ps → AreMarked low_end new (is_twice || not is_new) (ps ++ filter is_position (word ∷ []))
AreMarked-marked low_end old new is_twice is_new ps word low most fresh here others was =
    let position : is_position word ≡ true = lt-ltb _ _ (omega arith) in
    rw position (record {
      marks = λ n lt. elim (eqb_tells n word) [
        | inl same ↦
            ap (is_marked new) same.1 ∙ here
            ∙ sym (list_any-one_more (λ q. n == q) ps word ∙ ap (λ b. list_any (λ q. n == q) ps || b) same.0 ∙ or-true (list_any (λ q. n == q) ps))
        | inr apart ↦
            others n apart.1 ∙ was.marks n lt
            ∙ sym (list_any-one_more (λ q. n == q) ps word ∙ ap (λ b. list_any (λ q. n == q) ps || b) apart.0 ∙ or-false (list_any (λ q. n == q) ps))
      ];
      twice =
          let lows : List ℕ = filter (is_low low_end) ps in
          ap (λ b. is_twice || b) (ap not fresh ∙ not-not (is_marked old word))
          ∙ ap (λ t. t || is_marked old word) was.twice
          ∙ ap (λ b. not (is_distinct lows) || b) (was.marks word low ∙ sym (list_any-filter (is_low low_end) word ps (lt-ltb _ _ low)))
          ∙ sym (not-and (is_distinct lows) (list_any (λ q. word == q) lows))
          ∙ ap not (sym (ap is_distinct (filter-kept (is_low low_end) ps word (lt-ltb _ _ low)) ∙ is_distinct-one_more lows word));
    })
