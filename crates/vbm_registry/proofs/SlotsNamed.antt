-- Slots keep their rules by places exactly where they keep them by names.
use Rattle.std.proofs.Common.{◌≡◌, ℕ, ◌+◌, ◌<◌, ◌≤◌, Bool, List, [], ◌∷◌, length, map, reverse, IsTrue, IsFalse, Option, Some, None, sym, ap, subst, ◌∙◌, arith}
use Rattle.std.specs.List.{AllByRecursion}
use Rattle.std.specs.Option.{option_map}
use Rattle.std.specs.Str.{bytes_eq}
use Rattle.vbm_modes.specs.declared.Mode.{Mode}
use Rattle.vbm_machines.specs.declared.Held.{Held}
use Rattle.vbm_machines.specs.declared.Held.TheVariants.{Direct, Own, Base}
use Rattle.vbm_machines.specs.declared.Slot.{Slot}
use Rattle.vbm_ids.specs.declared.TheConstants.{NUMBER_LIMIT}
use Rattle.vbm_named.specs.Names.{Name, Rises}
use Rattle.vbm_named.proofs.Lists.{All-map, All-of_map, All-both}
use Rattle.vbm_world.specs.declared.limits.TheConstants.{PORT_LIMIT}
use Rattle.vbm_world.specs.World.{is_immutable}
use Rattle.vbm_registry.specs.declared.media.Medium.{Medium}
use Rattle.vbm_registry.specs.declared.library.Inner.{Inner}
use Rattle.vbm_registry.specs.declared.library.ImageRef.TheVariants as refs
use Rattle.vbm_registry.specs.Held.{may_hold}
use Rattle.vbm_registry.specs.Library.{medium_entry_name}
use Rattle.vbm_registry.specs.Grammar.{base_of}
use Rattle.vbm_registry.specs.Named.{NamedSlot, NamedMerging, ListedImages, name_in, inner_named, slot_named, medium_names}
use Rattle.vbm_registry.specs.Rules.{IsOwnOf, IsNamedSlot, PortsRise, MediaDiffer, AreNamedSlots}
use Rattle.vbm_registry.proofs.ListLaws.{All-from_map}
use Rattle.vbm_registry.proofs.InnersListed.{ArePlacedInners, number_below}
use Rattle.vbm_registry.proofs.SlotsListed.{PlacedPortsRise, PlacesDiffer, IsPlacedOwn, IsPlacedSlot, ArePlacedSlots}
use Rattle.vbm_registry.proofs.NamesAtPlaces.{NotEmpty, at_found, within_found, same_place, other_names, other_places}
use Rattle.vbm_registry.proofs.InnersNamed.{mode_is, medium_found, chain_named, based_numbered}

same_some : {X : Type 0} (a b : X) → Some a ≡ Some b → a ≡ b
same_some a b e = cc

module _ (media : List Medium) (rises : Rises medium_entry_name media) (full : AllByRecursion (λ (m : Medium). NotEmpty m.name) media)
    (inners : List Inner) (merging : List NamedMerging) where
  abbrev names : List Name
  names = medium_names media

  abbrev images : ListedImages
  images = record { media = media; inners = map (inner_named names) inners; merging = merging }

  -- ---- one slot

  named_own : (medium : ℕ) (h : Held) → IsPlacedOwn inners medium h → IsOwnOf images.inners (name_in names medium) h
  named_own medium Direct own = tt
  named_own medium (Own n) own = chain_named media rises full inners n ∙ ap (option_map (name_in names)) own.1
  named_own medium Base own = tt

  pub named_slot : (of_snapshot : Bool) (s : Slot) → IsPlacedSlot media inners of_snapshot s → IsNamedSlot images of_snapshot (slot_named names s)
  named_slot of_snapshot s is =
      let m = medium_found media rises full s.medium is.medium in
      record {
        medium = m.0;
        there = m.1;
        held = subst (λ (mode : Mode). IsTrue (may_hold of_snapshot mode s.held)) m.2 is.held;
        own = named_own s.medium s.held is.own;
        autoreset = λ on. subst (λ (mode : Mode). IsTrue (is_immutable mode)) m.2 (is.autoreset on);
      }

  based_at : (medium : ℕ) → medium < length media → (o : Option ℕ) → option_map (name_in names) o ≡ Some (name_in names medium) → o ≡ Some medium
  based_at medium less None e = absurd cc
  based_at medium less (Some place) e =
      ap (λ (n : ℕ). Some n) (same_place medium_entry_name media rises full medium place less
      (same_some (name_in names place) (name_in names medium) e))

  placed_own : (bound : ℕ) → bound ≤ NUMBER_LIMIT → ArePlacedInners media bound (reverse inners) → (medium : ℕ) → medium < length media → (h : Held)
      → IsOwnOf images.inners (name_in names medium) h → IsPlacedOwn inners medium h
  placed_own bound low are medium less Direct own = tt
  placed_own bound low are medium less (Own n) own =
      let based = based_at medium less (base_of inners (refs.Inner n)) (sym (chain_named media rises full inners n) ∙ own) in
      let below : n < bound = number_below media n bound (reverse inners) are (based_numbered media rises full (reverse inners) n medium based) in
      (omega (arith, below, low), based)
  placed_own bound low are medium less Base own = tt

  pub placed_slot : (bound : ℕ) → bound ≤ NUMBER_LIMIT → ArePlacedInners media bound (reverse inners) → (of_snapshot : Bool) (s : Slot)
      → s.port < PORT_LIMIT → IsNamedSlot images of_snapshot (slot_named names s) → IsPlacedSlot media inners of_snapshot s
  placed_slot bound low are of_snapshot s port is =
      let less = within_found medium_entry_name media rises full s.medium is.medium is.there in
      let mode = mode_is media rises full s.medium is.medium (at_found medium_entry_name media rises full s.medium is.medium is.there) in
      record {
        port = port;
        medium = less;
        autoreset = λ on. subst (λ (m : Mode). IsTrue (is_immutable m)) (sym mode) (is.autoreset on);
        held = subst (λ (m : Mode). IsTrue (may_hold of_snapshot m s.held)) (sym mode) is.held;
        own = placed_own bound low are s.medium less s.held is.own;
      }

  -- ---- all of them

  named_ports : (low : ℕ) (slots : List Slot) → PlacedPortsRise low slots → AllByRecursion (λ (s : Slot). s.port < PORT_LIMIT) slots
      → low ≤ PORT_LIMIT
      → PortsRise low (map (slot_named names) slots)
  named_ports low [] rise below le = le
  named_ports low (s ∷ slots) rise below le = (rise.0, named_ports (s.port + 1) slots rise.1 below.1 (omega (arith, below.0)))

  low_bound : (low : ℕ) (slots : List Slot) → PortsRise low (map (slot_named names) slots) → low ≤ PORT_LIMIT
  low_bound low [] rise = rise
  low_bound low (s ∷ slots) rise = omega (arith, rise.0, low_bound (s.port + 1) slots rise.1)

  placed_ports : (low : ℕ) (slots : List Slot) → PortsRise low (map (slot_named names) slots)
      → PlacedPortsRise low slots × AllByRecursion (λ (s : Slot). s.port < PORT_LIMIT) slots
  placed_ports low [] rise = (tt, tt)
  placed_ports low (s ∷ slots) rise =
      let more = placed_ports (s.port + 1) slots rise.1 in
      let below : s.port < PORT_LIMIT = omega (arith, low_bound (s.port + 1) slots rise.1) in
      ((rise.0, more.0), (below, more.1))

  named_apart : (slots : List Slot) → PlacesDiffer slots → AllByRecursion (λ (s : Slot). s.medium < length media) slots
      → MediaDiffer (map (slot_named names) slots)
  named_apart [] differ within = tt
  named_apart (s ∷ slots) differ within = (
    All-of_map (slot_named names) (λ (t : NamedSlot). IsFalse (bytes_eq t.medium (name_in names s.medium))) slots
        (All-map _ _ (λ t apart. other_names medium_entry_name media rises full s.medium t.medium within.0 apart) slots differ.0),
    named_apart slots differ.1 within.1,
  )

  placed_apart : (slots : List Slot) → MediaDiffer (map (slot_named names) slots) → PlacesDiffer slots
  placed_apart [] differ = tt
  placed_apart (s ∷ slots) differ = (
    All-map _ _ (λ t apart. other_places medium_entry_name media s.medium t.medium apart) slots
        (All-from_map (slot_named names) (λ (t : NamedSlot). IsFalse (bytes_eq t.medium (name_in names s.medium))) slots differ.0),
    placed_apart slots differ.1,
  )

  pub named_slots : (of_snapshot : Bool) (slots : List Slot) → ArePlacedSlots media inners of_snapshot slots
      → AreNamedSlots images of_snapshot (map (slot_named names) slots)
  named_slots of_snapshot slots are = record {
    ports = named_ports 0 slots are.ports (All-map _ _ (λ s is. is.port) slots are.each) (omega arith);
    different = named_apart slots are.different (All-map _ _ (λ s is. is.medium) slots are.each);
    each = All-of_map (slot_named names) (IsNamedSlot images of_snapshot) slots (All-map _ _ (named_slot of_snapshot) slots are.each);
  }

  pub placed_slots : (bound : ℕ) → bound ≤ NUMBER_LIMIT → ArePlacedInners media bound (reverse inners) → (of_snapshot : Bool) (slots : List Slot)
      → AreNamedSlots images of_snapshot (map (slot_named names) slots) → ArePlacedSlots media inners of_snapshot slots
  placed_slots bound low inners_are of_snapshot slots are =
      let ports = placed_ports 0 slots are.ports in
      let each = All-from_map (slot_named names) (IsNamedSlot images of_snapshot) slots are.each in
      record {
        ports = ports.0;
        different = placed_apart slots are.different;
        each = All-map _ _ (λ s p. placed_slot bound low inners_are of_snapshot s p.0 p.1) slots (All-both _ _ slots ports.1 each);
      }
