-- Laws of conditions, and of the header that they accept.
use Rattle.std.proofs.Common.{◌≡◌, ℕ, ◌+◌, ◌*◌, ◌%◌, ◌^◌, ◌≤◌, Bool, true, false, ◌&&◌, List, [], ◌∷◌, ◌++◌, length, take, Option, Some, None, Ok, Err, refl, sym, ap, ◌∙◌, arith, inl, inr}
use Rattle.std.specs.List.{AllByRecursion}
use Rattle.std.proofs.lemmas.Bool.{cases_Bool, cases_lt, leb-true, eqb-true}
use Rattle.std.proofs.lemmas.List.{take_all}
use Rattle.vbm_header.proofs.Fields.{number_at-take, uuid_at-take}
use Rattle.vbm_header.specs.declared.BadImage.{BadImage}
use Rattle.vbm_header.specs.declared.Header.{Header}
use Rattle.vbm_header.specs.Header.{Condition, first_that_fails, header_conditions, header_of, unless, fields, has_header_size, has_size, has_layout}

-- the value comes where no condition failed, and an error where that one did
pub unless-ok : {T : Type 0} (o : Option BadImage) (x y : T) → unless o x ≡ Ok y → (o ≡ None) × (x ≡ y)
unless-ok None x y same = (refl, cc)
unless-ok (Some k) x y same = cc

pub unless-err : {T : Type 0} (o : Option BadImage) (x : T) (k : BadImage) → unless o x ≡ Err k → o ≡ Some k
unless-err None x k same = cc
unless-err (Some j) x k same = cc

-- a condition that holds leads to the next
passed : (c : Condition) (cs : List Condition) → first_that_fails (c ∷ cs) ≡ None → (c.1 ≡ true) × (first_that_fails cs ≡ None)
passed c cs none = elim (cases_Bool c.1) [ inl is ↦ (is, rw is at none) | inr fails ↦ absurd (cc (rw fails at none)) ]

-- none fails exactly where all hold
pub all_hold : (cs : List Condition) → first_that_fails cs ≡ None → AllByRecursion (λ c. c.1 ≡ true) cs
all_hold [] none = tt
all_hold (c ∷ cs) none = let p = passed c cs none in (p.0, all_hold cs p.1)

pub none_fails : (cs : List Condition) → AllByRecursion (λ c. c.1 ≡ true) cs → first_that_fails cs ≡ None
none_fails [] all = refl
none_fails (c ∷ cs) all = let first : c.1 ≡ true = all.0 in rw first (none_fails cs all.1)

-- conditions that hold can be left out in front
pub first_that_fails-append : (cs ds : List Condition) → first_that_fails cs ≡ None
    → first_that_fails (cs ++ ds) ≡ first_that_fails ds
first_that_fails-append [] ds none = refl
first_that_fails-append (c ∷ cs) ds none =
    let p = passed c cs none in
    let first : c.1 ≡ true = p.0 in
    rw first (first_that_fails-append cs ds p.1)

-- a condition that fails is the first that does, whatever follows
pub first_that_fails-found : (cs ds : List Condition) (k : BadImage) → first_that_fails cs ≡ Some k
    → first_that_fails (cs ++ ds) ≡ Some k
first_that_fails-found [] ds k found = cc
first_that_fails-found (c ∷ cs) ds k found = elim (cases_Bool c.1) [
  | inl is ↦ rw is (first_that_fails-found cs ds k (rw is at found))
  | inr fails ↦ rw fails (rw fails at found)
]

-- what holds of an accepted header of a file of len bytes
pub record IsAccepted (h : Header) (len : ℕ) : Type 0 where
  pub long : 456 ≤ len
  pub header_size : 384 ≤ h.cb_header
  pub header_end : 72 + h.cb_header ≤ h.off_blocks
  pub sectors : h.capacity % 512 ≡ 0
  pub some : 512 ≤ h.capacity
  pub most : h.capacity ≤ 2 ^ 41
  pub blocks : h.blocks ≤ 2 ^ 21
  pub enough : h.capacity ≤ h.blocks * 2 ^ 20
  pub map : h.off_blocks ≤ 2 ^ 31
  pub before_data : h.off_blocks + 4 * h.blocks ≤ h.off_data
  pub map_end : h.off_blocks + 4 * h.blocks ≤ len

-- both tests hold
both : (a b : Bool) → (a && b) ≡ true → (a ≡ true) × (b ≡ true)
both true b and = (refl, and)
both false b and = cc

-- what was read meets the conditions
pub accepted : (f : List ℕ) (len : ℕ) (h : Header) → header_of f len ≡ Ok h → IsAccepted h len
unfolding header_of header_conditions
accepted f len h read =
    let found = unless-ok (first_that_fails (header_conditions f len)) (fields f) h read in
    let same = sym found.1 in
    let all = all_hold (header_conditions f len) found.0 in
    let header_size : has_header_size h ≡ true = ap has_header_size same ∙ all.1.1.1.0 in
    let size : has_size h ≡ true = ap has_size same ∙ all.1.1.1.1.1.1.0 in
    let layout : has_layout h len ≡ true = ap (λ x. has_layout x len) same ∙ all.1.1.1.1.1.1.1.0 in
    let from_header = both _ _ header_size in
    let to_enough = both _ _ size in
    let to_blocks = both _ _ to_enough.0 in
    let to_most = both _ _ to_blocks.0 in
    let to_some = both _ _ to_most.0 in
    let to_map_end = both _ _ layout in
    let to_before_data = both _ _ to_map_end.0 in
    record {
      long = leb-true _ _ all.0;
      header_size = leb-true _ _ from_header.0;
      header_end = leb-true _ _ from_header.1;
      sectors = eqb-true _ _ to_some.0;
      some = leb-true _ _ to_some.1;
      most = leb-true _ _ to_most.1;
      blocks = leb-true _ _ to_blocks.1;
      enough = leb-true _ _ to_enough.1;
      map = leb-true _ _ to_before_data.0;
      before_data = leb-true _ _ to_before_data.1;
      map_end = leb-true _ _ to_map_end.1;
    }

-- The header of a file reads its first 456 bytes alone.
pub header_of-take : (f : List ℕ) (len : ℕ) → 456 ≤ length f → header_of (take 456 f) len ≡ header_of f len
unfolding header_of header_conditions
header_of-take f len long =
    let n = λ (offset width : ℕ) (within : offset + width ≤ 456).
    number_at-take 456 f offset width within (omega arith) in
    let u = λ (offset : ℕ) (within : offset + 16 ≤ 456). uuid_at-take 456 f offset within long in
    rw (
      n 64 4 (omega arith),
      n 68 4 (omega arith),
      n 72 4 (omega arith),
      n 76 4 (omega arith),
      n 340 4 (omega arith),
      n 344 4 (omega arith),
      n 368 8 (omega arith),
      n 376 4 (omega arith),
      n 380 4 (omega arith),
      n 384 4 (omega arith),
      n 388 4 (omega arith),
      u 392 (omega arith),
      u 408 (omega arith),
      u 424 (omega arith),
      u 440 (omega arith),
    ) refl

-- The header of a file, from its first bytes.
pub header_of-front : (f front : List ℕ) (len : ℕ) → length f ≡ len → take 456 f ≡ front
    → header_of front len ≡ header_of f len
header_of-front f front len size same = elim (cases_lt len 456) [
  | inl short ↦ ap (λ xs. header_of xs len) (sym same ∙ take_all 456 f (omega arith))
  | inr long ↦ ap (λ xs. header_of xs len) (sym same) ∙ header_of-take f len (omega arith)
]
