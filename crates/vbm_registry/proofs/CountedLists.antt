-- Which lists fit a file where they are counted, and where the names of their items rise.
use Rattle.std.proofs.Common.{◌≡◌, ℕ, ◌^◌, ◌<◌, ◌≤◌, Bool, true, false, not, ◌&&◌, List, [], ◌∷◌, ◌++◌, length, IsTrue, IsFalse, eqb, leb, refl, ap, append_assoc, arith}
use Rattle.std.specs.Int.{Width, byte_len, w8}
use Rattle.std.proofs.lemmas.Bool.{ltb-true, lt-ltb, leb-true, le-leb, eq-eqb}
use Rattle.std.proofs.lemmas.Bool.Decides.{nat_tests}
use Rattle.std.proofs.lemmas.List.{append-nil, nil_from_length}
use Rattle.vbm_ports.specs.Names.{is_medium_name, is_short_name}
use Rattle.vbm_ports.proofs.NameLemmas.{medium_name_short, machine_name_short}
use Rattle.vbm_named.specs.Names.{Name, is_before, Rises}
use Rattle.vbm_named.proofs.Lists.{before_trans, All-push, ComesAfter}
use Rattle.vbm_registry.specs.Built.{limit_if, EmptyUnless}
use Rattle.vbm_registry.specs.Parts.{FilePart, items, items_fit, number, counted_list}
use Rattle.vbm_registry.specs.Grammar.{last_or, last_name, text_field, name_after}
use Rattle.vbm_registry.proofs.PartLaws.{and_both, both_and}

pub it_not : (b : Bool) → IsFalse b → IsTrue (not b)
it_not true h = absurd cc
it_not false h = refl

-- ---- limits of parts that may be in use

pub limit_is : {X : Type 0} (built : Bool) (limit : ℕ) (xs : List X) → IsTrue (leb (length xs) (limit_if built limit))
    → (length xs ≤ limit) × EmptyUnless built xs
limit_is true limit xs h = (leb-true _ _ h, λ off. absurd cc)
limit_is false limit xs h =
    let none : length xs ≤ 0 = leb-true _ _ h in
    (omega (arith, none), λ off. nil_from_length xs (omega (arith, none)))

pub is_limit : {X : Type 0} (built : Bool) (limit : ℕ) (xs : List X) → length xs ≤ limit → EmptyUnless built xs
    → IsTrue (leb (length xs) (limit_if built limit))
is_limit true limit xs few empty = le-leb _ _ few
is_limit false limit xs few empty = let none : length xs ≡ 0 = ap length (empty refl) in le-leb _ _ (omega (arith, none))

-- ---- counted lists

pub record CountFits {X : Type 0} (w : Width) (test : ℕ → Bool) (item : ℕ → List X → FilePart X) (xs : List X) : Type 0 where
  pub width : length xs < 256 ^ byte_len w
  pub count : IsTrue (test (length xs))
  pub each : IsTrue (items_fit (item (length xs)) [] xs)

module _ {X : Type 0} (w : Width) (test : ℕ → Bool) (item : ℕ → List X → FilePart X) (xs : List X) where
  pub counted_fits : IsTrue ((counted_list w test item).fits xs) → CountFits w test item xs
  unfolding items
  counted_fits fits =
      let wide = (number w).fits (length xs) in
      let counts = test (length xs) in
      let same = eqb (length xs) (length xs) in
      let all = items_fit (item (length xs)) [] xs in
      let a = and_both (wide && counts) (same && all) (and_both ((wide && counts) && (same && all)) true fits).0 in
      let b = and_both wide counts a.0 in
      record { width = ltb-true _ _ b.0; count = b.1; each = (and_both same all a.1).1 }

  pub fits_counted : CountFits w test item xs → IsTrue ((counted_list w test item).fits xs)
  unfolding items
  fits_counted is =
      let wide = (number w).fits (length xs) in
      let counts = test (length xs) in
      let same = eqb (length xs) (length xs) in
      let all = items_fit (item (length xs)) [] xs in
      both_and ((wide && counts) && (same && all)) true
      (both_and (wide && counts) (same && all) (both_and wide counts (lt-ltb _ _ is.width) is.count)
      (both_and same all (eq-eqb _ _ refl) is.each)) refl

-- ---- names

pub text_fits : (name : Name) → length name < 256 → IsTrue (text_field.fits name)
unfolding text_field
text_fits name short =
    let wide = (number w8).fits (length name) in
    let same = eqb (length name) (length name) in
    both_and (wide && same) true (both_and wide same (lt-ltb _ _ short) (eq-eqb _ _ refl)) refl

pub record NameFits (is_name : Name → Bool) (earlier name : Name) : Type 0 where
  pub named : IsTrue (is_name name)
  pub after : IsTrue (is_before earlier name)

pub name_fits : (is_name : Name → Bool) (earlier name : Name) → IsTrue ((name_after is_name earlier).fits name) → NameFits is_name earlier name
unfolding name_after
name_fits is_name earlier name fits =
    let b = and_both (is_name name) (is_before earlier name) (and_both (text_field.fits name) (is_name name && is_before earlier name) fits).1 in
    record { named = b.0; after = b.1 }

pub fits_name : (is_name : Name → Bool) (earlier name : Name) → length name < 256 → NameFits is_name earlier name
    → IsTrue ((name_after is_name earlier).fits name)
unfolding name_after
fits_name is_name earlier name short is =
    both_and (text_field.fits name) (is_name name && is_before earlier name) (text_fits name short)
    (both_and (is_name name) (is_before earlier name) is.named is.after)

-- names are neither empty nor long
pub medium_name_fits : (name : Name) → IsTrue (is_medium_name name) → (1 ≤ length name) × (length name < 256)
unfolding is_medium_name
medium_name_fits name is =
    let a : 5 ≤ length name = grind (arith, nat_tests) in
    (omega (arith, a), omega (arith, medium_name_short name is))

pub short_name_fits : (name : Name) → IsTrue (is_short_name name) → (1 ≤ length name) × (length name < 256)
unfolding is_short_name
short_name_fits name is =
    let a : 1 ≤ length name = grind (arith, nat_tests) in
    (a, omega (arith, machine_name_short name is))

-- ---- names that rise

pub last_push : {X A : Type 0} (none : A) (f : X → A) (xs : List X) (x : X) → last_or none f (xs ++ x ∷ []) ≡ f x
last_push none f [] x = refl
last_push none f (y ∷ []) x = refl
last_push none f (y ∷ z ∷ zs) x = last_push none f (z ∷ zs) x

after_nothing : (name : Name) → 1 ≤ length name → IsTrue (is_before [] name)
after_nothing [] h = absurd (omega (arith, h))
after_nothing (c ∷ name) h = refl

module _ {X : Type 0} (name_of : X → Name) where
  all_before : (name : Name) (xs : List X) → Rises name_of xs → IsTrue (is_before (last_name name_of xs) name) → ComesAfter name_of name xs
  all_before name [] rises h = tt
  all_before name (x ∷ []) rises h = (h, tt)
  all_before name (x ∷ y ∷ ys) rises h =
      let others = all_before name (y ∷ ys) rises.1 h in
      (before_trans (name_of x) (name_of y) name rises.0.0 others.0, others)

  rises_push : (xs : List X) (x : X) → Rises name_of xs → ComesAfter name_of (name_of x) xs → Rises name_of (xs ++ x ∷ [])
  rises_push [] x rises after = (tt, tt)
  rises_push (y ∷ ys) x rises after =
      (All-push (λ z. IsTrue (is_before (name_of y) (name_of z))) ys x rises.0 after.0, rises_push ys x rises.1 after.1)

  -- a name after the last one, where names rise
  pub next_after : (before : List X) (x : X) (xs : List X) → 1 ≤ length (name_of x) → Rises name_of (before ++ x ∷ xs)
      → IsTrue (is_before (last_name name_of before) (name_of x))
  next_after [] x xs some rises = after_nothing (name_of x) some
  next_after (y ∷ []) x xs some rises = rises.0.0
  next_after (y ∷ z ∷ zs) x xs some rises = next_after (z ∷ zs) x xs some rises.1

  -- names rise that are tested to come after the last
  pub rising : (item : List X → FilePart X)
      → ((before : List X) (x : X) → IsTrue ((item before).fits x) → IsTrue (is_before (last_name name_of before) (name_of x)))
      → (before xs : List X) → Rises name_of before → IsTrue (items_fit item before xs) → Rises name_of (before ++ xs)
  rising item after before [] rises fits = rw append-nil rises
  rising item after before (x ∷ xs) rises fits =
      let both = and_both ((item before).fits x) (items_fit item (before ++ x ∷ []) xs) fits in
      let one = rises_push before x rises (all_before (name_of x) before rises (after before x both.0)) in
      let more = rising item after (before ++ x ∷ []) xs one both.1 in
      rw append_assoc at more
