-- The slots of a machine of the library, in the world and by names.
use Rattle.std.proofs.Common.{◌≡◌, ℕ, suc, ◌+◌, ◌<◌, length, Bool, true, false, List, [], ◌∷◌, map, Option, Some, None, refl, sym, ap, subst, ◌∙◌, arith, inl, inr, is_some}
use Rattle.std.specs.Prelude.{find, ◌==◌}
use Rattle.std.specs.List.{AllByRecursion, list_any, position_or_len, slice_get}
use Rattle.std.specs.Option.{option_map}
use Rattle.std.specs.Str.{bytes_eq}
use Rattle.std.proofs.lemmas.Bool.{cases_Bool, cond_both, eqb-true}
use Rattle.std.proofs.lemmas.Bool.Decides.{nat_tests}
use Rattle.std.proofs.lemmas.Option.{slice_get_within}
use Rattle.std.proofs.lemmas.Simd.{map-map}
use Rattle.vbm_ports.specs.Files.{Files}
use Rattle.vbm_machines.specs.declared.Slot.{Slot}
use Rattle.vbm_machines.specs.declared.Machine.{Machine}
use Rattle.vbm_named.specs.Names.{Name, find_by, has_name, is_named}
use Rattle.vbm_named.proofs.Lists.{any_map, find_named, has_found, name_refl, same_name}
use Rattle.vbm_world.specs.declared.world.WorldSlot.{WorldSlot}
use Rattle.vbm_world.specs.Places.{slot_at}
use Rattle.vbm_world.specs.World.{has_medium}
use Rattle.vbm_registry.specs.declared.library.Library.{Library}
use Rattle.vbm_registry.specs.declared.media.Medium.{Medium}
use Rattle.vbm_registry.specs.Library.{medium_entry_name}
use Rattle.vbm_registry.specs.Named.{NamedSlot, medium_names, name_in, named, slot_named}
use Rattle.vbm_registry.specs.Renumbered.{medium_place, has_medium_at}
use Rattle.vbm_registry.specs.Rules.{IsLibrary}
use Rattle.vbm_registry.proofs.DecodedRules.{media_full}
use Rattle.vbm_registry.proofs.NamesAtPlaces.{name_of_item, other_names}
use Rattle.vbm_standing.specs.Meaning.{has_slot_of, slot_in}
use Rattle.vbm_store.specs.declared.store.Store.{Store}
use Rattle.vbm_slots.specs.Slots.{is_at}
use Rattle.vbm_slots.proofs.Marks.{seen}

-- ---- what is found in lists

module _ {X : Type 0} (p : X → Bool) where
  pub some_found : (xs : List X) → is_some (find p xs) ≡ list_any p xs
  some_found [] = refl
  some_found (x ∷ xs) = elim (cases_Bool (p x)) [ inl here ↦ rw here refl | inr other ↦ rw other (some_found xs) ]

  pub All-found : (P : X → Type 0) (x : X) (xs : List X) → AllByRecursion P xs → find p xs ≡ Some x → P x
  All-found P x [] all e = absurd cc
  All-found P x (y ∷ ys) all e = cond_both (p y) (Some y) (find p ys) (λ o. o ≡ Some x → P x)
      (λ here is. let same : y ≡ x = cc in subst P same all.0) (λ other is. All-found P x ys all.1 is) e

  pub found_map : {Y : Type 0} (f : Y → X) (ys : List Y) → find p (map f ys) ≡ option_map f (find (λ y. p (f y)) ys)
  found_map f [] = refl
  found_map f (y ∷ ys) = elim (cases_Bool (p (f y))) [ inl here ↦ rw here refl | inr other ↦ rw other (found_map f ys) ]

  -- the first of those that pass, at its place
  pub found_place : (xs : List X) → slice_get xs (position_or_len p xs) ≡ find p xs
  found_place [] = refl
  found_place (x ∷ xs) = elim (cases_Bool (p x)) [
    | inl here ↦ rw here refl
    | inr other ↦
        let next : 1 + position_or_len p xs ≡ suc (position_or_len p xs) = omega arith in
        rw other (ap (slice_get (x ∷ xs)) next ∙ found_place xs)
  ]

some_map : {X Y : Type 0} (f : X → Y) (o : Option X) → is_some (option_map f o) ≡ is_some o
some_map f None = refl
some_map f (Some x) = refl

-- ---- slots

-- the place of a name that is listed is one of the list
pub place_within : (l : Library) (name : Name) → has_name medium_entry_name name l.media ≡ true → medium_place l name < length l.media
place_within l name there = elim (find_by medium_entry_name name l.media) as
    (λ o. find_by medium_entry_name name l.media ≡ o → is_some o ≡ true → medium_place l name < length l.media) [
      | None ↦ λ e some. absurd cc
      | Some m ↦ λ e some. slice_get_within l.media (medium_place l name) m (found_place (is_named medium_entry_name name) l.media ∙ e)
    ] refl (sym (has_found medium_entry_name name l.media) ∙ there)

-- the place of a medium that is listed, and its name
module _ (l : Library) (is : IsLibrary (named l)) (name : Name) (medium : Medium) (found : find_by medium_entry_name name l.media ≡ Some medium) where
  abbrev place : ℕ
  place = medium_place l name

  pub medium_there : slice_get l.media place ≡ Some medium
  medium_there = found_place (is_named medium_entry_name name) l.media ∙ found

  pub name_there : name_in (medium_names l.media) place ≡ name
  name_there =
      name_of_item medium_entry_name l.media place medium medium_there
      ∙ same_name medium.name name (find_named medium_entry_name name medium l.media found)

  -- no other place has the name
  one_place : (p : ℕ) → bytes_eq (name_in (medium_names l.media) p) name ≡ (p == place)
  one_place p = elim (cases_Bool (p == place)) [
    | inl here ↦
        let same : p ≡ place = eqb-true p place here in
        ap (λ (n : ℕ). bytes_eq (name_in (medium_names l.media) n) name) same ∙ ap (λ (n : Name). bytes_eq n name) name_there ∙ name_refl name ∙ sym here
    | inr other ↦
        let apart : (place == p) ≡ false = grind (arith, nat_tests, other) in
        ap (bytes_eq (name_in (medium_names l.media) p)) (sym name_there)
        ∙ other_names medium_entry_name l.media is.media_rise (media_full l.media is.media) place p (slice_get_within l.media place medium medium_there) apart
        ∙ sym other
  ]

  -- slots that have the medium, by its name and by its place
  pub slots_have : (slots : List Slot) → has_slot_of name (map (slot_named (medium_names l.media)) slots) ≡ has_medium_at place slots
  slots_have slots =
      any_map (slot_named (medium_names l.media)) (λ (s : NamedSlot). bytes_eq s.medium name) slots
      ∙ (λ i. list_any (λ (s : Slot). one_place s.medium i) slots)

module _ (e : Store) (files : Files) where
  -- a slot of the library, in the world
  abbrev pub slot_seen : Slot → WorldSlot
  slot_seen s = slot_in (named e.library) files (slot_named (medium_names e.library.media) s)

  slots_seen : (m : Machine) → (seen e files m).slots ≡ map slot_seen m.slots
  slots_seen m = map-map (slot_in (named e.library) files) (slot_named (medium_names e.library.media)) m.slots

  pub slot_at-seen : (port : ℕ) (m : Machine) → slot_at port (seen e files m).slots ≡ option_map slot_seen (find (is_at port) m.slots)
  slot_at-seen port m = ap (slot_at port) (slots_seen m) ∙ found_map (λ (s : WorldSlot). s.port == port) slot_seen m.slots

  pub some_slot-seen : (port : ℕ) (m : Machine) → is_some (slot_at port (seen e files m).slots) ≡ is_some (find (is_at port) m.slots)
  some_slot-seen port m = ap is_some (slot_at-seen port m) ∙ some_map slot_seen (find (is_at port) m.slots)

  pub has_medium-seen : (name : Name) (m : Machine)
      → has_medium name (seen e files m).slots ≡ has_slot_of name (map (slot_named (medium_names e.library.media)) m.slots)
  has_medium-seen name m =
      any_map (slot_in (named e.library) files) (λ (s : WorldSlot). bytes_eq s.medium name) (map (slot_named (medium_names e.library.media)) m.slots)
