-- The lengths of names.
use Rattle.std.proofs.Common.{◌≡◌, ℕ, ◌≤◌, Bool, true, false, List, length, refl, arith, inl, inr, ◌⊎◌, lit≤}
use Rattle.std.specs.Prelude.{◌&&◌, ◌||◌}
use Rattle.std.proofs.lemmas.Bool.{leb-true, eqb-true}
use Rattle.std.proofs.lemmas.Slice.Eq.{bytes_eq-Decides}
use Rattle.vbm_ports.specs.Names.{is_medium_name, is_inner_name, is_short_name, IsStoreName}
use Rattle.vbm_ports.specs.declared.names.TheConstants.{LIBRARY_NAME, LOG_NAME, LONGEST_NAME, LONGEST_SHORT_NAME}

first_of_both : (a b : Bool) → (a && b) ≡ true → a ≡ true
first_of_both true b both = refl
first_of_both false b both = cc

second_of_both : (a b : Bool) → (a && b) ≡ true → b ≡ true
second_of_both true b both = both
second_of_both false b both = cc

either_of : (a b : Bool) → (a || b) ≡ true → (a ≡ true) ⊎ (b ≡ true)
either_of true b some = inl refl
either_of false b some = inr some

pub medium_name_short : (name : List ℕ) → is_medium_name name ≡ true → length name ≤ LONGEST_NAME
unfolding is_medium_name
medium_name_short name is =
    leb-true _ _ (second_of_both _ _ (first_of_both _ _ (first_of_both _ _ (first_of_both _ _ is))))

pub inner_name_short : (name : List ℕ) → is_inner_name name ≡ true → length name ≤ LONGEST_NAME
unfolding is_inner_name
inner_name_short name is =
    let size : length name ≡ 42 = eqb-true _ _ (first_of_both _ _ (first_of_both _ _ (first_of_both _ _ is))) in omega arith

-- the name of a machine or a snapshot has at most LONGEST_SHORT_NAME bytes
pub machine_name_short : (name : List ℕ) → is_short_name name ≡ true → length name ≤ LONGEST_SHORT_NAME
unfolding is_short_name
machine_name_short name is = leb-true _ _ (second_of_both _ _ (first_of_both _ _ (first_of_both _ _ is)))

-- a name of a store has at most LONGEST_NAME bytes
pub store_name_short : (name : List ℕ) → IsStoreName name → length name ≤ LONGEST_NAME
store_name_short name is = elim (either_of _ _ is) [
  | inr log ↦ rw ((bytes_eq-Decides name LOG_NAME.now).0 log) (lit≤ tt)
  | inl others ↦ elim (either_of _ _ others) [
    | inr library ↦ rw ((bytes_eq-Decides name LIBRARY_NAME.now).0 library) (lit≤ tt)
    | inl images ↦ elim (either_of _ _ images) [ inl medium ↦ medium_name_short name medium | inr inner ↦ inner_name_short name inner ]
  ]
]
