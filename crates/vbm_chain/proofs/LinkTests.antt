-- Headers whose tests all hold are those of a chain, and the first one with a test that fails is where others break.
use Rattle.std.proofs.Common.{◌≡◌, ℕ, zero, suc, ◌+◌, ◌-◌, ◌<◌, Bool, true, false, List, [], ◌∷◌, length, Some, None, refl, sym, ap, ◌∙◌, arith, inl, inr}
use Rattle.std.specs.Prelude.{◌&&◌, nat_le, slice_get}
use Rattle.std.specs.Str.{bytes_eq}
use Rattle.std.proofs.lemmas.Bool.{cases_Bool}
use Rattle.vbm_header.specs.declared.Header.{Header}
use Rattle.vbm_header.specs.Header.{is_differencing}
use Rattle.vbm_volume.specs.Chain.{is_linked_to, broken_from, broken_at}
use Rattle.vbm_chain.specs.declared.links.LinkFault.{LinkFault}
use Rattle.vbm_chain.specs.Links.{first_failing, link_tests, fault_at}

-- ---- four tests

none_fails : (a b c d : Bool) (w x y z : LinkFault) → first_failing ((w, a) ∷ (x, b) ∷ (y, c) ∷ (z, d) ∷ []) ≡ None → (a && b && c && d) ≡ true
none_fails true true true true w x y z none = refl
none_fails true true true false w x y z none = absurd cc
none_fails true true false d w x y z none = absurd cc
none_fails true false c d w x y z none = absurd cc
none_fails false b c d w x y z none = absurd cc

one_fails : (a b c d : Bool) (w x y z found : LinkFault) → first_failing ((w, a) ∷ (x, b) ∷ (y, c) ∷ (z, d) ∷ []) ≡ Some found
    → (a && b && c && d) ≡ false
one_fails true true true true w x y z found some = absurd cc
one_fails true true true false w x y z found some = refl
one_fails true true false d w x y z found some = refl
one_fails true false c d w x y z found some = refl
one_fails false b c d w x y z found some = refl

linked : (below h : Header) → first_failing (link_tests below h) ≡ None → is_linked_to below h ≡ true
linked below h none =
    none_fails (is_differencing h.image_type) (bytes_eq h.link below.id) (bytes_eq h.parent_modify below.modify) (nat_le below.capacity h.capacity)
    _ _ _ _ none

not_linked : (below h : Header) (found : LinkFault) → first_failing (link_tests below h) ≡ Some found → is_linked_to below h ≡ false
not_linked below h found some =
    one_fails (is_differencing h.image_type) (bytes_eq h.link below.id) (bytes_eq h.parent_modify below.modify) (nat_le below.capacity h.capacity)
    _ _ _ _ found some

-- ---- headers above another

none_from : (n : ℕ) (below : Header) (above : List Header) → ((k : ℕ) → k < length above → fault_at (below ∷ above) (suc k) ≡ None)
    → broken_from n below above ≡ None
none_from n below [] none = refl
none_from n below (h ∷ above) none =
    let here = linked below h (none 0 (omega arith)) in
    rw here (none_from (n + 1) h above (λ k low. none (suc k) (omega arith)))

first_from : (n : ℕ) (below : Header) (above : List Header) (i : ℕ) (found : LinkFault)
    → ((k : ℕ) → k < i → fault_at (below ∷ above) (suc k) ≡ None) → fault_at (below ∷ above) (suc i) ≡ Some found
    → broken_from n below above ≡ Some (n + i)
first_from n below [] i found none some = absurd cc
first_from n below (h ∷ above) zero found none some =
    let here = not_linked below h found some in
    rw here (ap Some (omega arith))
first_from n below (h ∷ above) (suc i) found none some =
    let here = linked below h (none 0 (omega arith)) in
    let place : n + 1 + i ≡ n + suc i = omega arith in
    rw here (first_from (n + 1) h above i found (λ k low. none (suc k) (omega arith)) some ∙ ap Some place)

-- ---- all headers

pub no_fault : (headers : List Header) → 0 < length headers → ((k : ℕ) → k < length headers → fault_at headers k ≡ None)
    → broken_at headers ≡ None
no_fault [] some none = absurd (omega arith)
no_fault (base ∷ above) some none = elim (cases_Bool (is_differencing base.image_type)) [
  | inl child ↦ absurd (let first = none 0 (omega arith) in let e = rw child at first in cc)
  | inr whole ↦ rw whole (none_from 1 base above (λ k low. none (suc k) (omega arith)))
]

pub first_fault : (headers : List Header) (i : ℕ) (found : LinkFault) → ((k : ℕ) → k < i → fault_at headers k ≡ None)
    → fault_at headers i ≡ Some found → broken_at headers ≡ Some i
first_fault [] i found none some = absurd cc
first_fault (base ∷ above) zero found none some = elim (cases_Bool (is_differencing base.image_type)) [
  | inl child ↦ rw child refl
  | inr whole ↦ absurd (let e = rw whole at some in cc)
]
first_fault (base ∷ above) (suc i) found none some = elim (cases_Bool (is_differencing base.image_type)) [
  | inl child ↦ absurd (let first = none 0 (omega arith) in let e = rw child at first in cc)
  | inr whole ↦
      let place : 1 + i ≡ suc i = omega arith in
      rw whole (first_from 1 base above i found (λ k low. none (suc k) (omega arith)) some ∙ ap Some place)
]

-- the tests of a header behind the first
pub tests_at : (headers : List Header) (i : ℕ) (below h : Header) → 0 < i → slice_get headers (i - 1) ≡ Some below → slice_get headers i ≡ Some h
    → fault_at headers i ≡ first_failing (link_tests below h)
tests_at headers zero below h later under here = absurd (omega arith)
tests_at headers (suc i) below h later under here =
    let place : suc i - 1 ≡ i = omega arith in
    let prior : slice_get headers i ≡ Some below = ap (λ (k : ℕ). slice_get headers k) (sym place) ∙ under in
    rw (here, prior) refl
