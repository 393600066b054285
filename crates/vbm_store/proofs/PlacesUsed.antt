-- Machines that have a medium, by its place and by its name.
use Rattle.std.proofs.Common.{◌≡◌, ℕ, zero, suc, ◌+◌, ◌<◌, Bool, true, false, not, cond, ◌||◌, List, [], ◌∷◌, map, length, refl, sym, ap, ◌∙◌, arith, inl, inr}
use Rattle.std.specs.Prelude.{◌==◌}
use Rattle.std.specs.List.{AllByRecursion, list_any, position_or_len}
use Rattle.std.specs.Str.{bytes_eq}
use Rattle.std.proofs.lemmas.Bool.{cases_Bool}
use Rattle.std.proofs.lemmas.Bool.Decides.{nat_tests}
use Rattle.vbm_machines.specs.declared.Slot.{Slot}
use Rattle.vbm_machines.specs.declared.Machine.{Machine}
use Rattle.vbm_machines.specs.Renumbering.{EachSlot}
use Rattle.vbm_named.specs.Names.{Name, is_before, is_named, Rises}
use Rattle.vbm_named.proofs.Lists.{name_sym, same_name, before_other, All-map, All-get, any_map}
use Rattle.vbm_registry.specs.declared.library.Library.{Library}
use Rattle.vbm_registry.specs.Library.{medium_entry_name}
use Rattle.vbm_registry.specs.Entries.{is_using}
use Rattle.vbm_registry.specs.Named.{NamedSlot, NamedSnapshot, name_in, medium_names, slot_named, snapshot_named, snapshot_names, machine_named, named}
use Rattle.vbm_registry.specs.Renumbered.{medium_place, has_medium_at, uses_medium}
use Rattle.vbm_registry.specs.Rules.{IsLibrary}
use Rattle.vbm_registry.proofs.LowPlaces.{IsWithin, places_within}
use Rattle.vbm_registry.proofs.NamesAtPlaces.{item_at, name_of_item}
use Rattle.vbm_standing.specs.Meaning.{has_snapshot_of}
use Rattle.vbm_store.specs.Uses.{is_taken_at}

-- among names that rise, the name at a place is the one whose place that is
place_named : {X : Type 0} (nx : X → Name) (name : Name) (xs : List X) (p : ℕ) → Rises nx xs → p < length xs
    → bytes_eq (name_in (map nx xs) p) name ≡ (p == position_or_len (is_named nx name) xs)
place_named nx name [] p rises less = absurd (omega (arith, less))
place_named nx name (x ∷ xs) zero rises less =
    let no : (0 == 1 + position_or_len (is_named nx name) xs) ≡ false = grind (arith, nat_tests) in
    elim (bytes_eq (nx x) name) as (λ b. b ≡ (0 == cond (not b) (1 + position_or_len (is_named nx name) xs) 0)) [ true ↦ refl | false ↦ sym no ]
place_named nx name (x ∷ xs) (suc p) rises less =
    let k = position_or_len (is_named nx name) xs in
    let inside : p < length xs = omega (arith, less) in
    let first : (suc p == 0) ≡ false = grind (arith, nat_tests) in
    let next : (suc p == 1 + k) ≡ (p == k) = grind (arith, nat_tests) in
    elim (cases_Bool (bytes_eq (nx x) name)) [
      | inl is ↦
          let y = item_at xs p inside in
          let other = before_other (nx x) (nx y.0) (All-get (λ z. is_before (nx x) (nx z) ≡ true) xs p y.0 rises.0 y.1) in
          rw is (ap (λ n. bytes_eq n name) (name_of_item nx xs p y.0 y.1) ∙ ap (bytes_eq (nx y.0)) (sym (same_name (nx x) name is))
          ∙ name_sym (nx y.0) (nx x) ∙ other ∙ sym first)
      | inr apart ↦ rw apart (place_named nx name xs p rises.1 inside ∙ sym next)
    ]

any_same : {X : Type 0} (p q : X → Bool) (xs : List X) → AllByRecursion (λ x. p x ≡ q x) xs → list_any p xs ≡ list_any q xs
any_same p q [] same = refl
any_same p q (x ∷ xs) same = λ i. same.0 i || any_same p q xs same.1 i

module _ (l : Library) (is : IsLibrary (named l)) (name : Name) where
  slots_have : (slots : List Slot) → AllByRecursion (IsWithin l is) slots
      → list_any (λ (s : NamedSlot). bytes_eq s.medium name) (map (slot_named (medium_names l.media)) slots) ≡ has_medium_at (medium_place l name) slots
  slots_have slots within =
      any_map (slot_named (medium_names l.media)) (λ (s : NamedSlot). bytes_eq s.medium name) slots
      ∙ any_same _ _ slots (All-map _ _ (λ s less. place_named medium_entry_name name l.media s.medium is.media_rise less) slots within)

  pub taken_named : (m : Machine) → EachSlot (IsWithin l is) m
      → has_snapshot_of name (machine_named (medium_names l.media) m) ≡ is_taken_at (medium_place l name) m
  taken_named m of =
      any_map (snapshot_named (medium_names l.media) (snapshot_names m.snapshots))
      (λ (s : NamedSnapshot). list_any (λ (t : NamedSlot). bytes_eq t.medium name) s.slots) m.snapshots
      ∙ any_same _ _ m.snapshots (All-map _ _ (λ s within. slots_have s.slots within) m.snapshots of.places)

  machine_uses : (m : Machine) → EachSlot (IsWithin l is) m
      → is_using name (machine_named (medium_names l.media) m) ≡ uses_medium (medium_place l name) m
  machine_uses m of = let slots = slots_have m.slots of.slots in let taken = taken_named m of in λ i. slots i || taken i

  -- the machines that have the medium
  pub uses_named : list_any (is_using name) (named l).machines ≡ list_any (uses_medium (medium_place l name)) l.machines
  uses_named =
      any_map (machine_named (medium_names l.media)) (is_using name) l.machines
      ∙ any_same _ _ l.machines (All-map _ _ machine_uses l.machines (places_within l is))

  -- and those whose snapshots have it
  pub all_taken : list_any (has_snapshot_of name) (named l).machines ≡ list_any (is_taken_at (medium_place l name)) l.machines
  all_taken =
      any_map (machine_named (medium_names l.media)) (has_snapshot_of name) l.machines
      ∙ any_same _ _ l.machines (All-map _ _ taken_named l.machines (places_within l is))
