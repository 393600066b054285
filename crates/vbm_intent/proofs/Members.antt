-- The elements of lists, in pairs and in order.
use Rattle.std.proofs.Common.{All, ◌≡◌, ◌≢◌, ◌⊎◌, inl, inr, ⊎_elim, ℕ, ◌<◌, List, [], ◌∷◌, ◌++◌, length, Bool, true, cond, refl, sym, ◌∙◌, ap, subst, arith}
use Rattle.std.specs.Prelude.{filter, IsPermutation}
use Rattle.std.proofs.lemmas.Bool.{cases_Bool}
use Rattle.std.proofs.lemmas.List.Elements.{All-nil, All-cons, All-head, All-tail}
use Rattle.std.proofs.lemmas.List.Sorted.{All-permutation, IsPermutation-sym}
use Rattle.vbm_intent.specs.Index.{IsIn, Pairs}

module _ {X : Type 0} where
  pub nothing_in : (xs : List X) → length xs ≡ 0 → xs ≡ []
  nothing_in [] none = refl
  nothing_in (x ∷ xs) none = absurd (omega (arith, none))

  pub each_in : (P : X → Type 0) (xs : List X) → All P xs → (x : X) → IsIn xs x → P x
  each_in P [] all x is = absurd is
  each_in P (y ∷ ys) all x (inl is) = subst P is (All-head P y ys all)
  each_in P (y ∷ ys) all x (inr is) = each_in P ys (All-tail P y ys all) x is

  pub all_of : (P : X → Type 0) (xs : List X) → ((x : X) → IsIn xs x → P x) → All P xs
  all_of P [] each = All-nil P
  all_of P (y ∷ ys) each = All-cons P y ys (each y (inl refl)) (all_of P ys (λ x is. each x (inr is)))

  -- lists with the same elements
  pub in_shuffled : (xs ys : List X) → IsPermutation xs ys → (x : X) → IsIn ys x → IsIn xs x
  in_shuffled xs ys same = each_in (IsIn xs) ys (All-permutation (IsIn xs) xs ys same (all_of (IsIn xs) xs (λ x is. is)))

  pub in_original : (xs ys : List X) → IsPermutation xs ys → (x : X) → IsIn xs x → IsIn ys x
  in_original xs ys same = in_shuffled ys xs (IsPermutation-sym xs ys same)

  pub in_front : (xs ys : List X) (x : X) → IsIn xs x → IsIn (xs ++ ys) x
  in_front [] ys x is = absurd is
  in_front (y ∷ xs) ys x (inl is) = inl is
  in_front (y ∷ xs) ys x (inr is) = inr (in_front xs ys x is)

  pub in_back : (xs ys : List X) (x : X) → IsIn ys x → IsIn (xs ++ ys) x
  in_back [] ys x is = is
  in_back (y ∷ xs) ys x is = inr (in_back xs ys x is)

  pub in_either : (xs ys : List X) (x : X) → IsIn (xs ++ ys) x → IsIn xs x ⊎ IsIn ys x
  in_either [] ys x is = inr is
  in_either (y ∷ xs) ys x (inl is) = inl (inl is)
  in_either (y ∷ xs) ys x (inr is) = ⊎_elim (λ front. inl (inr front)) (λ back. inr back) (in_either xs ys x is)

  -- two elements stand in one order or the other
  pub pairs_in : (R : X → X → Type 0) (xs : List X) → Pairs R xs → (x y : X) → IsIn xs x → IsIn xs y → x ≢ y → R x y ⊎ R y x
  pairs_in R [] pairs x y is_x is_y differ = absurd is_x
  pairs_in R (z ∷ zs) pairs x y (inl a) (inl b) differ = absurd (differ (sym a ∙ b))
  pairs_in R (z ∷ zs) pairs x y (inl a) (inr b) differ = inl (subst (λ w. R w y) a (each_in (R z) zs pairs.0 y b))
  pairs_in R (z ∷ zs) pairs x y (inr a) (inl b) differ = inr (subst (λ w. R w x) b (each_in (R z) zs pairs.0 x a))
  pairs_in R (z ∷ zs) pairs x y (inr a) (inr b) differ = pairs_in R zs pairs.1 x y a b differ

  -- one relation of pairs from another
  pub pairs_from : (R Q : X → X → Type 0) (xs : List X) → Pairs R xs → ((x y : X) → IsIn xs x → IsIn xs y → R x y → Q x y) → Pairs Q xs
  pairs_from R Q [] pairs each = tt
  pairs_from R Q (x ∷ xs) pairs each = (
    all_of (Q x) xs (λ y is. each x y (inl refl) (inr is) (each_in (R x) xs pairs.0 y is)),
    pairs_from R Q xs pairs.1 (λ y z is_y is_z. each y z (inr is_y) (inr is_z)),
  )

  -- what is behind one element, and the pairs behind that
  pub pairs_split : (R : X → X → Type 0) (xs ys : List X) → Pairs R (xs ++ ys) → (x y : X) → IsIn xs x → IsIn ys y → R x y
  pairs_split R [] ys pairs x y is_x is_y = absurd is_x
  pairs_split R (z ∷ xs) ys pairs x y (inl is_x) is_y = subst (λ w. R w y) is_x (each_in (R z) (xs ++ ys) pairs.0 y (in_back xs ys y is_y))
  pairs_split R (z ∷ xs) ys pairs x y (inr is_x) is_y = pairs_split R xs ys pairs.1 x y is_x is_y

  pub pairs_end : (R : X → X → Type 0) (xs : List X) (x : X) → Pairs R xs → ((y : X) → IsIn xs y → R y x) → Pairs R (xs ++ x ∷ [])
  pairs_end R [] x pairs last = (All-nil (R x), tt)
  pairs_end R (y ∷ xs) x pairs last = (
    all_of (R y) (xs ++ x ∷ []) (λ z is. elim (in_either xs (x ∷ []) z is) [
      | inl front ↦ each_in (R y) xs pairs.0 z front
      | inr (inl here) ↦ subst (R y) here (last y (inl refl))
      | inr (inr none) ↦ absurd none
    ]),
    pairs_end R xs x pairs.1 (λ z is. last z (inr is)),
  )

  -- neighbours in order
  abbrev pub Next : (X → X → Type 0) → X → List X → Type 0
  Next R x [] = Unit {0}
  Next R x (y ∷ ys) = R x y

  abbrev pub Chain : (X → X → Type 0) → List X → Type 0
  Chain R [] = Unit {0}
  Chain R (x ∷ xs) = Next R x xs × Chain R xs

  pub chain_end : (R : X → X → Type 0) (x : X) (xs : List X) → length xs ≡ 0 → Chain R (x ∷ xs)
  chain_end R x [] none = (tt, tt)
  chain_end R x (y ∷ ys) none = absurd (omega (arith, none))

  module _ (R : X → X → Type 0) where
    ahead : (xs : List X) (x : X) → ((a b c : X) → IsIn xs b → R a b → R b c → R a c) → Next R x xs → Chain R xs → All (R x) xs
    ahead [] x trans next chain = All-nil (R x)
    ahead (y ∷ ys) x trans next chain =
        let rest = ahead ys y (λ a b c is. trans a b c (inr is)) chain.0 chain.1 in
        All-cons (R x) y ys next (all_of (R x) ys (λ z is. trans x y z (inl refl) next (each_in (R y) ys rest z is)))

    pub chain_pairs : (xs : List X) → ((a b c : X) → IsIn xs b → R a b → R b c → R a c) → Chain R xs → Pairs R xs
    chain_pairs [] trans chain = tt
    chain_pairs (x ∷ xs) trans chain = (ahead xs x (λ a b c is. trans a b c (inr is)) chain.0 chain.1, chain_pairs xs (λ a b c is. trans a b c (inr is)) chain.1)

  -- rising lists with the same elements are one
  pub same_rising : (key : X → ℕ) (xs ys : List X) → Pairs (λ x y. key x < key y) xs → Pairs (λ x y. key x < key y) ys
      → ((z : X) → IsIn xs z → IsIn ys z) → ((z : X) → IsIn ys z → IsIn xs z) → xs ≡ ys
  same_rising key [] [] up up' there back = refl
  same_rising key [] (y ∷ ys) up up' there back = absurd (back y (inl refl))
  same_rising key (x ∷ xs) [] up up' there back = absurd (there x (inl refl))
  same_rising key (x ∷ xs) (y ∷ ys) up up' there back =
      λ i. first i ∷ same_rising key xs ys up.1 up'.1
      (λ z is. ⊎_elim (λ same. absurd (omega (arith, ap key same, ap key first, each_in (λ w. key x < key w) xs up.0 z is))) (λ in_rest. in_rest) (there z (inr is)))
      (λ z is. ⊎_elim (λ same. absurd (omega (arith, ap key same, ap key first, each_in (λ w. key y < key w) ys up'.0 z is))) (λ in_rest. in_rest) (back z (inr is))) i
    where
      first : x ≡ y
      first = elim (there x (inl refl)) [
        | inl same ↦ sym same
        | inr later ↦ elim (back y (inl refl)) [
          | inl same ↦ same
          | inr later' ↦ absurd (omega (arith, each_in (λ w. key y < key w) ys up'.0 x later, each_in (λ w. key x < key w) xs up.0 y later'))
        ]
      ]

  -- the elements that pass a test
  module _ (p : X → Bool) where
    pub in_filtered : (xs : List X) (x : X) → IsIn (filter p xs) x → IsIn xs x × (p x ≡ true)
    in_filtered [] x is = absurd is
    in_filtered (y ∷ ys) x is = elim (cases_Bool (p y)) [
      | inl hit ↦ elim (subst (λ b. IsIn (cond b (y ∷ filter p ys) (filter p ys)) x) hit is) [
        | inl same ↦ (inl same, ap p (sym same) ∙ hit)
        | inr later ↦ let both = in_filtered ys x later in (inr both.0, both.1)
      ]
      | inr miss ↦ let both = in_filtered ys x (subst (λ b. IsIn (cond b (y ∷ filter p ys) (filter p ys)) x) miss is) in (inr both.0, both.1)
    ]

    pub into_filtered : (xs : List X) (x : X) → IsIn xs x → p x ≡ true → IsIn (filter p xs) x
    into_filtered [] x is passes = absurd is
    into_filtered (y ∷ ys) x (inl is) passes = subst (λ b. IsIn (cond b (y ∷ filter p ys) (filter p ys)) x) (sym (ap p is ∙ passes)) (inl is)
    into_filtered (y ∷ ys) x (inr is) passes = elim (cases_Bool (p y)) [
      | inl hit ↦ subst (λ b. IsIn (cond b (y ∷ filter p ys) (filter p ys)) x) (sym hit) (inr (into_filtered ys x is passes))
      | inr miss ↦ subst (λ b. IsIn (cond b (y ∷ filter p ys) (filter p ys)) x) (sym miss) (into_filtered ys x is passes)
    ]

    pub filtered_pairs : (R Q : X → X → Type 0) (xs : List X) → Pairs R xs → ((x y : X) → p x ≡ true → p y ≡ true → R x y → Q x y) → Pairs Q (filter p xs)
    filtered_pairs R Q [] pairs each = tt
    filtered_pairs R Q (x ∷ xs) pairs each = elim (cases_Bool (p x)) [
      | inl hit ↦ subst (λ b. Pairs Q (cond b (x ∷ filter p xs) (filter p xs))) (sym hit) (
        all_of (Q x) (filter p xs) (λ y is. let both = in_filtered xs y is in each x y hit both.1 (each_in (R x) xs pairs.0 y both.0)),
        filtered_pairs R Q xs pairs.1 each,
      )
      | inr miss ↦ subst (λ b. Pairs Q (cond b (x ∷ filter p xs) (filter p xs))) (sym miss) (filtered_pairs R Q xs pairs.1 each)
    ]
