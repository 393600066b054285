-- Media that running machines have locked, told by places and by names.
use Rattle.std.proofs.Common.{◌≡◌, ℕ, ◌<◌, Bool, true, false, ◌&&◌, List, [], ◌∷◌, map, length, Some, None, IsTrue, refl, sym, ap, ◌∙◌, arith}
use Rattle.std.specs.Prelude.{◌==◌}
use Rattle.std.specs.List.{list_any, slice_get}
use Rattle.std.specs.Str.{bytes_eq}
use Rattle.std.proofs.lemmas.Bool.Decides.{nat_tests}
use Rattle.std.proofs.lemmas.Option.{slice_get_within}
use Rattle.std.proofs.Math.Bool.{and_comm}
use Rattle.vbm_modes.specs.Modes.{is_locking}
use Rattle.vbm_machines.specs.declared.Slot.{Slot}
use Rattle.vbm_machines.specs.declared.Machine.{Machine}
use Rattle.vbm_named.specs.Names.{Name, is_before}
use Rattle.vbm_named.proofs.Lists.{name_sym, All-map}
use Rattle.vbm_registry.specs.declared.media.Medium.{Medium}
use Rattle.vbm_registry.specs.declared.library.Library.{Library}
use Rattle.vbm_registry.specs.AtPlaces.{AreNamed, has_mode_at}
use Rattle.vbm_registry.specs.Library.{medium_entry_name}
use Rattle.vbm_registry.specs.Named.{name_in, medium_names, slot_named, named}
use Rattle.vbm_registry.specs.Rules.{has_mode, is_held_directly, has_directly, IsLibrary}
use Rattle.vbm_registry.proofs.DecodedRules.{media_full}
use Rattle.vbm_registry.proofs.NamedPlaces.{found_at, same_place, any_same}
use Rattle.vbm_registry.proofs.NamesAtPlaces.{NotEmpty}
use Rattle.vbm_slots.specs.Running.{is_locked_by, is_locked_in, shares_at, is_locked_at}

eq_swap : (a b : ℕ) → (a == b) ≡ (b == a)
eq_swap a b = grind (arith, nat_tests)

-- a last test that is asked for where the one before it passes
where_so : (h m a b : Bool) → (m ≡ true → a ≡ b) → (h && m && a) ≡ (h && m && b)
where_so true true a b same = same refl
where_so true false a b same = refl
where_so false m a b same = refl

module _ (media : List Medium) (listed : AreNamed medium_entry_name media) where
  abbrev names : List Name
  names = medium_names media

  within : (place : ℕ) → has_mode_at is_locking media place ≡ true → place < length media
  within place locks = elim (slice_get media place) as (λ o. slice_get media place ≡ o → has_mode is_locking o ≡ true → place < length media) [
    | None ↦ λ e h. absurd cc
    | Some m ↦ λ e h. slice_get_within media place m e
  ] refl locks

  shares_named : (place : ℕ) → place < length media → (slots : List Slot)
      → list_any (has_directly (name_in names place)) (map (slot_named names) slots) ≡ list_any (shares_at place) slots
  shares_named place less slots = any_same (slot_named names) (has_directly (name_in names place)) (shares_at place) (λ s.
      and_comm (bytes_eq (name_in names s.medium) (name_in names place)) (is_held_directly s.held)
      ∙ ap (λ b. is_held_directly s.held && b) (name_sym (name_in names s.medium) (name_in names place)
      ∙ same_place medium_entry_name media place s.medium listed less ∙ eq_swap place s.medium)) slots

  locked_named : (slots : List Slot) (s : Slot) → is_locked_by media (map (slot_named names) slots) (slot_named names s) ≡ is_locked_at media slots s
  locked_named slots s =
      let direct = is_held_directly s.held in
      let sharing = list_any (has_directly (name_in names s.medium)) (map (slot_named names) slots) in
      ap (λ o. direct && has_mode is_locking o && sharing) (found_at medium_entry_name media s.medium listed)
      ∙ where_so direct (has_mode_at is_locking media s.medium) sharing (list_any (shares_at s.medium) slots)
      (λ locks. shares_named s.medium (within s.medium locks) slots)

begins : (name : Name) → NotEmpty name → IsTrue (is_before [] name)
begins [] some = absurd (omega (arith, some))
begins (x ∷ xs) some = refl

module _ (l : Library) (is : IsLibrary (named l)) where
  media_named : AreNamed medium_entry_name l.media
  media_named = record {
    rises = is.media_rise;
    begun = All-map _ _ (λ m some. begins m.name some) l.media (media_full l.media is.media);
  }

  -- the slots of one machine, locked by those of another
  slots_locked : (slots others : List Slot) → list_any (is_locked_at l.media others) slots
      ≡ list_any (is_locked_by l.media (map (slot_named (medium_names l.media)) others)) (map (slot_named (medium_names l.media)) slots)
  slots_locked slots others =
      sym (any_same (slot_named (medium_names l.media)) (is_locked_by l.media (map (slot_named (medium_names l.media)) others))
      (is_locked_at l.media others) (locked_named l.media media_named others) slots)

  pub locked_by_places : (m : Machine)
      → list_any (λ (other : Machine). other.running && list_any (is_locked_at l.media other.slots) m.slots) l.machines ≡ is_locked_in l m
  locked_by_places m = ap (λ p. list_any p l.machines) (λ i other. other.running && slots_locked m.slots other.slots i)
