-- The places that a library with its rules has, can be raised by one.
use Rattle.std.proofs.Common.{ℕ, ◌-◌, ◌<◌, ◌^◌, List, map, reverse, length, refl, subst, arith, [], ◌∷◌}
use Rattle.std.specs.List.{AllByRecursion}
use Rattle.vbm_machines.specs.declared.Slot.{Slot}
use Rattle.vbm_machines.specs.declared.Machine.{Machine}
use Rattle.vbm_machines.specs.Renumbering.{EachSlot, IsLow}
use Rattle.vbm_named.specs.Names.{Name}
use Rattle.vbm_named.proofs.Lists.{All-map}
use Rattle.vbm_world.specs.World.{is_normal, is_layered}
use Rattle.vbm_registry.specs.declared.media.Medium.{Medium}
use Rattle.vbm_registry.specs.declared.library.Inner.{Inner}
use Rattle.vbm_registry.specs.declared.library.ImageRef.{ImageRef}
use Rattle.vbm_registry.specs.declared.library.ImageRef.TheVariants as refs
use Rattle.vbm_registry.specs.declared.library.Library.{Library}
use Rattle.vbm_registry.specs.Grammar.{machine_entry_name, entry_off}
use Rattle.vbm_registry.specs.Named.{NamedInner, medium_names, image_named, inner_named, machine_named, merging_named, images_of, named, named_machine_name}
use Rattle.vbm_registry.specs.Renumbered.{IsLowRef, HasLowPlaces}
use Rattle.vbm_registry.specs.Rules.{IsParent, AreInners, IsMachine, IsMergedInto, IsMerging, IsLibrary}
use Rattle.vbm_registry.proofs.ListLaws.{reverse_map, All-of_reverse, All-from_map, rises_from_map}
use Rattle.vbm_registry.proofs.DecodedRules.{machine_itself, media_full}
use Rattle.vbm_registry.proofs.InnersListed.{ArePlacedInners}
use Rattle.vbm_registry.proofs.InnersNamed.{placed_mode, placed_inners}
use Rattle.vbm_registry.proofs.MachinesListed.{IsPlacedMachine}
use Rattle.vbm_registry.proofs.MachinesNamed.{placed_machine}
use Rattle.vbm_registry.proofs.NamesAtPlaces.{NotEmpty}

module _ (l : Library) (is : IsLibrary (named l)) where
  abbrev ns : List Name
  ns = medium_names l.media

  full : AllByRecursion (λ (m : Medium). NotEmpty m.name) l.media
  full = media_full l.media is.media

  low : (place : ℕ) → place < length l.media → place < 2 ^ 32 - 1
  low place less = omega (arith, less, is.few_media)

  placed : ArePlacedInners l.media l.inner (reverse l.inners)
  placed = placed_inners l.media is.media_rise full l.inner l.inners is.inners

  -- each machine, as it is off
  machine_placed : (m : Machine) → IsMachine (images_of (named l)) (machine_named ns m) → IsPlacedMachine l.media l.inners (entry_off m)
  machine_placed m of = placed_machine l.media is.media_rise full l.inners (map (merging_named ns) l.merging) (entry_off m) l.inner is.inner placed refl
      (machine_itself (images_of (named l)) (machine_named ns m) of)

  machines_placed : AllByRecursion (λ (m : Machine). IsPlacedMachine l.media l.inners (entry_off m)) l.machines
  machines_placed = All-map _ _ machine_placed l.machines
      (All-from_map (machine_named ns) (IsMachine (images_of (named l))) l.machines is.machines)

  -- each slot's medium is one of the list
  abbrev pub IsWithin : Slot → Type 0
  IsWithin s = s.medium < length l.media

  slots_within : (m : Machine) → IsPlacedMachine l.media l.inners (entry_off m) → EachSlot IsWithin m
  slots_within m of = record {
    slots = All-map _ _ (λ s at. at.medium) m.slots of.slots.each;
    places = All-map _ _ (λ s each. All-map _ _ (λ t at. at.medium) s.slots each.slots.each) m.snapshots of.snapshots.each;
  }

  pub places_within : AllByRecursion (EachSlot IsWithin) l.machines
  places_within = All-map _ _ slots_within l.machines machines_placed

  slots_low : (m : Machine) → EachSlot IsWithin m → EachSlot IsLow m
  slots_low m of = record {
    slots = All-map _ _ (λ s at. low s.medium at) m.slots of.slots;
    places = All-map _ _ (λ s each. All-map _ _ (λ t at. low t.medium at) s.slots each) m.snapshots of.places;
  }

  parent_low : (earlier : List NamedInner) (r : ImageRef) → IsParent l.media earlier (image_named ns r) → IsLowRef r
  parent_low earlier (refs.Medium place) of = low place (placed_mode l.media is.media_rise full is_layered place of).0
  parent_low earlier (refs.Inner n) of = tt

  inners_low : (bound : ℕ) (xs : List Inner) → AreInners l.media bound (map (inner_named ns) xs) → AllByRecursion (λ (x : Inner). IsLowRef x.parent) xs
  inners_low bound [] of = tt
  inners_low bound (x ∷ xs) of = (parent_low (map (inner_named ns) xs) x.parent of.1, inners_low x.number xs of.2)

  merged_low : (r : ImageRef) → IsMergedInto l.media (image_named ns r) → IsLowRef r
  merged_low (refs.Medium place) of = low place (placed_mode l.media is.media_rise full is_normal place of).0
  merged_low (refs.Inner n) of = tt

  pub low_places : HasLowPlaces l
  low_places = record {
    machines = rises_from_map (machine_named ns) machine_entry_name named_machine_name (λ m. refl) l.machines is.machines_rise;
    snapshots = All-map _ _ (λ m of. of.snapshots.names) l.machines machines_placed;
    slots = All-map _ _ slots_low l.machines places_within;
    inners = All-of_reverse _ l.inners (inners_low l.inner (reverse l.inners)
        (subst (AreInners l.media l.inner) (reverse_map (inner_named ns) l.inners) is.inners));
    mergings = All-map _ _ (λ j of. merged_low j.parent of.normal) l.merging
        (All-from_map (merging_named ns) (IsMerging (images_of (named l)) (named l).machines) l.merging is.merging);
  }
