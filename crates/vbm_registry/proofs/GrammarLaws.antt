-- The grammar's parts, each with its spelling.
use Rattle.std.proofs.Common.{◌≡◌, ℕ, zero, suc, ◌<◌, ◌≤◌, Bool, true, false, not, ◌&&◌, eqb, leb, ltb, List, [], ◌∷◌, ◌++◌, length, IsTrue, Option, Some, None, refl, sym, ap, arith, inl, inr}
use Rattle.std.specs.Int.{w8, w16, w64}
use Rattle.std.proofs.lemmas.Bool.{ltb-true, lt-ltb, leb-true, eqb-true}
use Rattle.std.proofs.lemmas.Bool.Decides.{eqb_tells}
use Rattle.vbm_modes.specs.declared.Mode.{Mode}
use Rattle.vbm_modes.specs.declared.Mode.TheVariants.{Normal, Immutable, Writethrough, MultiAttach, Readonly}
use Rattle.vbm_machines.specs.declared.Held.{Held}
use Rattle.vbm_machines.specs.declared.Held.TheVariants.{Direct, Own, Base}
use Rattle.vbm_machines.specs.declared.Slot.{Slot}
use Rattle.vbm_machines.specs.declared.Snapshot.{Snapshot}
use Rattle.vbm_machines.specs.declared.Machine.{Machine}
use Rattle.vbm_named.specs.Names.{Name}
use Rattle.vbm_registry.specs.declared.media.Medium.{Medium}
use Rattle.vbm_registry.specs.declared.library.Inner.{Inner}
use Rattle.vbm_registry.specs.declared.library.ImageRef.{ImageRef}
use Rattle.vbm_registry.specs.declared.library.ImageRef.TheVariants as refs
use Rattle.vbm_registry.specs.declared.features.Features.{Features}
use Rattle.vbm_registry.specs.Built.{limit_if, is_built_mode}
use Rattle.vbm_registry.specs.Parts.{number}
use Rattle.vbm_registry.specs.Spelling.{number_onto, name_onto, list_onto, mode_code, medium_onto, ref_onto, inner_onto, flag_code, held_onto, slot_onto, place_code, place_onto, snapshot_onto, machine_onto, merging_onto, list_of, fields_onto}
use Rattle.vbm_registry.specs.Grammar.{text_field, name_after, mode_field, mode_of, medium_entry, ref_of, ref_code, ref_number, ref_numbers, ref_field, inner_number, inner_entry, flag_field, held_of, held_code, own_number, held_fields, port_after, other_medium, autoreset_field, slot_entry, list_place_of, has_code, list_place, parent_field, place_list, slot_list, snapshot_entry, snapshot_list, current_field, machine_entry, is_off, new_name, first_of, making_field, merging_entry, seed_field, drawn_field, medium_list, inner_list, machine_list, merging_list, Counters, counters, Lists, lists, library_fields}
use Rattle.vbm_registry.proofs.Bytes.{wide8, wide16, wide64}
use Rattle.vbm_registry.proofs.PartLaws.{IsSpelledAs, and_both, then_is, mapped_is, mapped_where_is, tested_is, one_field_is, number_is, raw_is, counted_list_is, known_is, respelled}

byte_is : IsSpelledAs (number w8) (number_onto w8)
byte_is = number_is w8 wide8

-- what is in the limit of a feature is in the limit
in_limit : (built : Bool) (limit n : ℕ) → IsTrue (leb n (limit_if built limit)) → n ≤ limit
in_limit true limit n h = leb-true n limit h
in_limit false limit n h = let none : n ≤ 0 = leb-true n 0 h in omega arith

-- ---- names and media

text_is : IsSpelledAs text_field name_onto
unfolding text_field
text_is = mapped_is _ _ _ _ (then_is _ _ _ (λ n text rest. text ++ rest) byte_is raw_is) (λ name fits. refl)
    (λ a fits. ap (λ n. (n, a.1)) (eqb-true _ _ (and_both _ _ fits).1))

name_is : (is_name : Name → Bool) (earlier : Name) → IsSpelledAs (name_after is_name earlier) name_onto
unfolding name_after
name_is is_name earlier = tested_is _ _ _ (one_field_is _ _ text_is)

mode_back : (m : Mode) → mode_of (mode_code m) ≡ m
mode_back Normal = refl
mode_back Immutable = refl
mode_back Writethrough = refl
mode_back MultiAttach = refl
mode_back Readonly = refl

mode_there : (n : ℕ) → n ≤ 4 → mode_code (mode_of n) ≡ n
mode_there zero le = refl
mode_there (suc zero) le = refl
mode_there (suc (suc zero)) le = refl
mode_there (suc (suc (suc zero))) le = refl
mode_there (suc (suc (suc (suc zero)))) le = refl
mode_there (suc (suc (suc (suc (suc n))))) le = absurd (omega arith)

mode_is : (built : Features) → IsSpelledAs (mode_field built) (λ m. number_onto w8 (mode_code m))
unfolding mode_field
mode_is built = mapped_is _ _ _ _ (tested_is _ _ _ byte_is) (λ m fits. mode_back m)
    (λ n fits. let test : IsTrue (leb n 4 && is_built_mode built (mode_of n)) = (and_both _ _ fits).1 in mode_there n (leb-true n 4 (and_both _ _ test).0))

medium_is : (built : Features) (before : List Medium) → IsSpelledAs (medium_entry built before) medium_onto
unfolding medium_entry
medium_is built before = mapped_is _ _ _ _ (then_is _ _ _ (λ _ m. number_onto w8 (mode_code m)) (name_is _ _) (λ _. mode_is built))
    (λ m fits. refl) (λ a fits. refl)

-- ---- inner images

ref_number_onto : ℕ → ℕ → List ℕ → List ℕ
ref_number_onto zero n rest = number_onto w16 n rest
ref_number_onto (suc kind) n rest = number_onto w64 n rest

ref_number_is : (kind : ℕ) → IsSpelledAs (ref_number kind) (ref_number_onto kind)
unfolding ref_number_onto
ref_number_is zero = number_is w16 wide16
ref_number_is (suc kind) = number_is w64 wide64

ref_back : (r : ImageRef) → ref_of (ref_code r).0 (ref_code r).1 ≡ r
ref_back (refs.Medium n) = refl
ref_back (refs.Inner n) = refl

ref_there : (kind n : ℕ) → kind < 2 → ref_code (ref_of kind n) ≡ (kind, n)
ref_there zero n lt = refl
ref_there (suc zero) n lt = refl
ref_there (suc (suc kind)) n lt = absurd (omega arith)

ref_spelled : (r : ImageRef) (rest : List ℕ)
    → number_onto w8 (ref_code r).0 (ref_number_onto (ref_code r).0 (ref_code r).1 rest) ≡ ref_onto r rest
unfolding ref_number_onto
ref_spelled (refs.Medium n) rest = refl
ref_spelled (refs.Inner n) rest = refl

ref_is : IsSpelledAs ref_field ref_onto
unfolding ref_field ref_numbers
ref_is = respelled _ _ _ ref_spelled (one_field_is _ _ (mapped_is _ _ _ _ (then_is _ _ _ ref_number_onto (tested_is _ _ _ byte_is) ref_number_is)
    (λ r fits. ref_back r) (λ a fits. ref_there a.0 a.1 (ltb-true _ _ (and_both _ _ (and_both _ _ fits).0).1))))

inner_is : (media : List Medium) (inner : ℕ) (before : List Inner) → IsSpelledAs (inner_entry media inner before) inner_onto
unfolding inner_entry inner_number
inner_is media inner before = mapped_is _ _ _ _
    (then_is _ _ _ (λ _. ref_onto) (tested_is _ _ _ (number_is w64 wide64)) (λ _. tested_is _ _ _ ref_is)) (λ x fits. refl) (λ a fits. refl)

-- ---- slots

flag_back : (b : Bool) → eqb (flag_code b) 1 ≡ b
flag_back true = refl
flag_back false = refl

flag_there : (n : ℕ) → n < 2 → flag_code (eqb n 1) ≡ n
flag_there zero lt = refl
flag_there (suc zero) lt = refl
flag_there (suc (suc n)) lt = absurd (omega arith)

flag_is : IsSpelledAs flag_field (λ b. number_onto w8 (flag_code b))
unfolding flag_field
flag_is = mapped_is _ _ _ _ (tested_is _ _ _ byte_is) (λ b fits. flag_back b) (λ n fits. flag_there n (ltb-true _ _ (and_both _ _ fits).1))

own_onto : ℕ → ℕ → List ℕ → List ℕ
own_onto zero n rest = rest
own_onto (suc zero) n rest = number_onto w64 n rest
own_onto (suc (suc kind)) n rest = rest

own_is : (inners : List Inner) (medium kind : ℕ) → IsSpelledAs (own_number inners medium kind) (own_onto kind)
unfolding own_onto
own_is inners medium zero = known_is _ 0 (λ k fits. eqb-true k 0 fits) refl
own_is inners medium (suc zero) = tested_is _ _ _ (number_is w64 wide64)
own_is inners medium (suc (suc kind)) = known_is _ 0 (λ k fits. eqb-true k 0 fits) refl

held_back : (h : Held) → held_of (held_code h).0 (held_code h).1 ≡ h
held_back Direct = refl
held_back (Own n) = refl
held_back Base = refl

held_there : (inners : List Inner) (medium kind n : ℕ) → kind < 3 → IsTrue ((own_number inners medium kind).fits n)
    → held_code (held_of kind n) ≡ (kind, n)
held_there inners medium zero n lt fits = ap (λ (k : ℕ). (0, k)) (sym (eqb-true n 0 fits))
held_there inners medium (suc zero) n lt fits = refl
held_there inners medium (suc (suc zero)) n lt fits = ap (λ (k : ℕ). (2, k)) (sym (eqb-true n 0 fits))
held_there inners medium (suc (suc (suc kind))) n lt fits = absurd (omega arith)

held_spelled : (h : Held) (rest : List ℕ)
    → number_onto w8 (held_code h).0 (own_onto (held_code h).0 (held_code h).1 rest) ≡ held_onto h rest
unfolding own_onto
held_spelled Direct rest = refl
held_spelled (Own n) rest = refl
held_spelled Base rest = refl

held_is : (of_snapshot : Bool) (media : List Medium) (inners : List Inner) (medium : ℕ)
    → IsSpelledAs (held_fields of_snapshot media inners medium) held_onto
unfolding held_fields
held_is of_snapshot media inners medium = respelled _ _ _ held_spelled (mapped_is _ _ _ _
    (then_is _ _ _ own_onto (tested_is _ _ _ byte_is) (own_is inners medium))
    (λ h fits. held_back h)
    (λ a fits. let b = and_both _ _ fits in held_there inners medium a.0 a.1 (ltb-true a.0 3 (and_both (ltb a.0 3) _ (and_both _ _ b.0).1).0) b.1))

slot_is : (of_snapshot : Bool) (media : List Medium) (inners : List Inner) (before : List Slot)
    → IsSpelledAs (slot_entry of_snapshot media inners before) slot_onto
unfolding slot_entry port_after other_medium autoreset_field
slot_is of_snapshot media inners before = mapped_is _ _ _ _
    (then_is _ _ _ _ (tested_is _ _ _ byte_is) (λ _. then_is _ _ _ _ (tested_is _ _ _ (number_is w16 wide16)) (λ medium.
    then_is _ _ _ (λ _. held_onto) (tested_is _ _ _ flag_is) (λ _. held_is of_snapshot media inners medium)))) (λ s fits. refl) (λ a fits. refl)

slots_is : (built : Features) (media : List Medium) (inners : List Inner) → IsSpelledAs (slot_list built media inners) (list_onto w8 slot_onto)
unfolding slot_list
slots_is built media inners = counted_list_is w8 wide8 _ (λ _. slot_entry false media inners) slot_onto (λ _. slot_is false media inners)

places_is : (media : List Medium) (inners : List Inner) (places : ℕ) → IsSpelledAs (place_list media inners places) (list_onto w8 slot_onto)
unfolding place_list
places_is media inners places = counted_list_is w8 wide8 _ _ slot_onto (λ _. slot_is true media inners)

-- ---- snapshots and machines

place_back : (o : Option ℕ) → IsTrue (has_code o) → list_place_of (place_code o) ≡ o
place_back None h = refl
place_back (Some n) h =
    let lt : n < 65535 = ltb-true n 65535 h in
    elim (eqb_tells n 65535) [
      | inl e ↦ absurd (omega (arith, e.1))
      | inr e ↦ rw e.0 refl
    ]

place_there : (n : ℕ) → n < 65536 → (place_code (list_place_of n) ≡ n) × IsTrue (has_code (list_place_of n))
place_there n lt =
    elim (eqb_tells n 65535) [
      | inl e ↦ rw e.0 (sym e.1, refl)
      | inr e ↦ rw e.0 (refl, lt-ltb n 65535 (omega (arith, e.1)))
    ]

place_is : IsSpelledAs list_place place_onto
unfolding list_place
place_is = mapped_where_is _ _ _ _ _ (number_is w16 wide16) (λ o fits coded. place_back o coded) (λ n fits. place_there n (ltb-true _ _ fits))

snapshot_is : (media : List Medium) (inners : List Inner) (places count : ℕ) (before : List Snapshot)
    → IsSpelledAs (snapshot_entry media inners places count before) snapshot_onto
unfolding snapshot_entry parent_field
snapshot_is media inners places count before = mapped_is _ _ _ _
    (then_is _ _ _ _ (name_is _ _) (λ _. then_is _ _ _ (λ _. list_onto w8 slot_onto) (tested_is _ _ _ place_is) (λ _. places_is media inners _)))
    (λ s fits. refl) (λ a fits. refl)

snapshots_is : (built : Features) (media : List Medium) (inners : List Inner) (snapshots places : ℕ)
    → IsSpelledAs (snapshot_list built media inners snapshots places) (list_onto w16 snapshot_onto)
unfolding snapshot_list
snapshots_is built media inners snapshots places = counted_list_is w16 wide16 _ _ snapshot_onto (snapshot_is media inners places)

pub not_true : (b : Bool) → IsTrue (not b) → b ≡ false
not_true true h = absurd cc
not_true false h = refl

off_back : (m : Machine) → IsTrue (is_off m) → record m { running = false } ≡ m
off_back m off = ap (λ (b : Bool). record m { running = b }) (sym (not_true m.running off))

machine_is : (built : Features) (media : List Medium) (inners : List Inner) (before : List Machine)
    → IsSpelledAs (machine_entry built media inners before) machine_onto
unfolding machine_entry current_field
machine_is built media inners before = mapped_where_is _ _ _ _ _
    (then_is _ _ _ _ (name_is _ _) (λ _. then_is _ _ _ _ (slots_is built media inners) (λ _.
    then_is _ _ _ (λ _. place_onto) (snapshots_is built media inners _ _) (λ _. tested_is _ _ _ place_is))))
    (λ m fits off. off_back m off) (λ a fits. (refl, refl))

-- ---- the file

making_back : (o : Option Name) → first_of (list_of o) ≡ o
making_back None = refl
making_back (Some name) = refl

making_there : (names : List Name) → length names ≤ 1 → list_of (first_of names) ≡ names
making_there [] few = refl
making_there (name ∷ []) few = refl
making_there (name ∷ other ∷ names) few = absurd (omega arith)

making_is : (built : Features) (media : List Medium) → IsSpelledAs (making_field built media) (λ name. list_onto w8 name_onto (list_of name))
unfolding making_field new_name
making_is built media = mapped_is _ _ _ _ (counted_list_is w8 wide8 _ _ name_onto (λ _ _. tested_is _ _ _ (one_field_is _ _ text_is)))
    (λ o fits. making_back o)
    (λ names fits. making_there names (in_limit built.makings 1 (length names) (and_both _ _ (and_both _ _ (and_both _ _ fits).0).0).1))

merging_is : IsSpelledAs merging_entry merging_onto
unfolding merging_entry
merging_is = mapped_is _ _ _ _ (then_is _ _ _ _ ref_is (λ _.
    then_is _ _ _ (λ _. number_onto w64) (number_is w64 wide64) (λ _. number_is w64 wide64))) (λ j fits. refl) (λ a fits. refl)

seed_is : IsSpelledAs seed_field (λ seed rest. seed ++ rest)
unfolding seed_field
seed_is = tested_is _ _ _ (raw_is 16)

drawn_is : IsSpelledAs drawn_field (number_onto w64)
unfolding drawn_field
drawn_is = tested_is _ _ _ (number_is w64 wide64)

abbrev counters_onto : Counters → List ℕ → List ℕ
counters_onto c rest = c.0 ++ number_onto w64 c.1.0 (number_onto w64 c.1.1 rest)

counters_is : IsSpelledAs counters counters_onto
unfolding counters
counters_is = then_is _ _ _ _ seed_is (λ _. then_is _ _ _ (λ _. number_onto w64) drawn_is (λ _. drawn_is))

abbrev lists_onto : Lists → List ℕ → List ℕ
lists_onto ls rest = list_onto w16 medium_onto ls.0 (list_onto w16 inner_onto ls.1.0 (list_onto w16 machine_onto ls.1.1 rest))

module _ (built : Features) where
  lists_is : (inner : ℕ) → IsSpelledAs (lists built inner) lists_onto
  unfolding lists medium_list inner_list machine_list
  lists_is inner = then_is _ _ _ _ (counted_list_is w16 wide16 _ _ medium_onto (λ _. medium_is built)) (λ media.
      then_is _ _ _ (λ _. list_onto w16 machine_onto) (counted_list_is w16 wide16 _ (λ _. inner_entry media inner) inner_onto (λ _. inner_is media inner))
      (λ inners. counted_list_is w16 wide16 _ _ machine_onto (λ _. machine_is built media inners)))

  pub fields_is : IsSpelledAs (library_fields built) fields_onto
  unfolding library_fields merging_list
  fields_is = mapped_is _ _ _ _ (then_is _ _ _ _ counters_is (λ c. then_is _ _ _ _ (lists_is c.1.1) (λ ls.
      then_is _ _ _ (λ _. list_onto w8 merging_onto) (making_is built ls.0) (λ _. counted_list_is w8 wide8 _ _ merging_onto (λ _ _. merging_is)))))
      (λ l fits. refl) (λ a fits. refl)
