-- A file's library keeps the rules by names, and a library that keeps them, with its machines off and no part that is not in use, has a file.
use Rattle.std.proofs.Common.{◌≡◌, ℕ, ◌^◌, ◌<◌, ◌≤◌, false, List, [], ◌∷◌, length, map, reverse, IsTrue, IsFalse, Option, Some, None, IfSome, refl, sym, ap, subst, arith, inl, inr}
use Rattle.std.specs.List.{AllByRecursion}
use Rattle.std.proofs.lemmas.Bool.Decides.{eqb_tells}
use Rattle.std.proofs.lemmas.List.{length-map}
use Rattle.std.proofs.lemmas.Simd.{map-map}
use Rattle.vbm_ports.specs.Names.{is_medium_name}
use Rattle.vbm_ports.proofs.NameLemmas.{medium_name_short, machine_name_short}
use Rattle.vbm_ports.specs.declared.names.TheConstants.{LONGEST_NAME}
use Rattle.vbm_ids.specs.declared.TheConstants.{NUMBER_LIMIT}
use Rattle.vbm_named.specs.Names.{Name, has_name}
use Rattle.vbm_named.proofs.Lists.{All-map, All-join, All-every, All-of_map, rises_map}
use Rattle.vbm_world.specs.World.{is_layered}
use Rattle.vbm_machines.specs.declared.Machine.{Machine}
use Rattle.vbm_registry.specs.declared.media.Medium.{Medium}
use Rattle.vbm_registry.specs.declared.library.ImageRef.{ImageRef}
use Rattle.vbm_registry.specs.declared.library.ImageRef.TheVariants as refs
use Rattle.vbm_registry.specs.declared.library.Merging.{Merging}
use Rattle.vbm_registry.specs.declared.library.Library.{Library}
use Rattle.vbm_registry.specs.declared.features.Features.{Features}
use Rattle.vbm_registry.specs.Library.{medium_entry_name}
use Rattle.vbm_registry.specs.Built.{IsMachineBuilt, IsBuilt}
use Rattle.vbm_registry.specs.Grammar.{machine_entry_name, library_fields, IsDecoded, entry_off, library_off}
use Rattle.vbm_registry.specs.Named.{ImageName, OfMedium, OfInner, NamedInner, NamedSnapshot, NamedMachine, NamedMerging, ListedImages, images_of, named_machine_name, image_named, inner_named, machine_named, merging_named, medium_names, named}
use Rattle.vbm_registry.specs.Chains.{parent_in}
use Rattle.vbm_registry.specs.Rules.{is_medium_of, has_number, IsParent, AreInners, upper_places, IsMachine, IsSnapshotOf, IsMerging, IsDrawn, IsLibrary}
use Rattle.vbm_registry.specs.PlaceRules.{keeps_places}
use Rattle.vbm_registry.proofs.PlaceTests.{AreUnder, IsMachineUnder, places_kept, kept_places}
use Rattle.vbm_registry.proofs.CountedLists.{medium_name_fits}
use Rattle.vbm_registry.proofs.MediaListed.{counters_fit, fits_counters, medium_list_fits, fits_medium_list}
use Rattle.vbm_registry.proofs.MakingsListed.{making_fits, fits_making, IsFieldRef, IsFieldMerging, merging_list_fits, fits_merging_list}
use Rattle.vbm_registry.proofs.InnersListed.{ArePlacedInners, inner_list_fits, fits_inner_list}
use Rattle.vbm_registry.proofs.SlotsListed.{few_slots}
use Rattle.vbm_registry.proofs.MachinesListed.{IsPlacedMachine, machine_list_fits, fits_machine_list}
use Rattle.vbm_registry.proofs.FieldsApart.{counters_of, fields_fit, fits_fields}
use Rattle.vbm_registry.proofs.FileLengths.{IsShortMachine, file_length}
use Rattle.vbm_registry.proofs.NamesAtPlaces.{NotEmpty}
use Rattle.vbm_registry.proofs.InnersNamed.{named_inners, placed_inners, placed_mode}
use Rattle.vbm_registry.proofs.ListLaws.{All-from_map, rises_from_map}
use Rattle.vbm_registry.proofs.MachinesNamed.{snapshots_named, places_named, IsNamedSnapshot, IsNamedMachine, named_machine, placed_machine}
use Rattle.vbm_registry.proofs.InnerCounts.{few_inners}

-- ---- machines with what stands on what

module _ (images : ListedImages) (m : NamedMachine) where
  whole_machine : IsNamedMachine images m → IsMachineUnder images m → IsMachine images m
  whole_machine is under = record {
    name = is.name;
    tree = is.tree;
    slots = record { valid = is.slots; stacked = under.slots.stacked; inherits = under.slots.inherits };
    snapshots = All-join (IsNamedSnapshot images) (λ (s : NamedSnapshot). AreUnder images (upper_places s.parent m.snapshots) s.slots)
        (IsSnapshotOf images m)
        (λ s of on. record { name = of.name; places = record { valid = of.slots; stacked = on.stacked; inherits = on.inherits } })
        m.snapshots is.snapshots under.snapshots;
  }

  pub machine_itself : IsMachine images m → IsNamedMachine images m
  machine_itself is = record {
    name = is.name;
    tree = is.tree;
    slots = is.slots.valid;
    snapshots = All-map _ _ (λ s of. record { name = of.name; slots = of.places.valid }) m.snapshots is.snapshots;
  }

  machine_under : IsMachine images m → IsMachineUnder images m
  machine_under is = record {
    slots = record { stacked = is.slots.stacked; inherits = is.slots.inherits };
    snapshots = All-map _ _ (λ s of. record { stacked = of.places.stacked; inherits = of.places.inherits }) m.snapshots is.snapshots;
  }

-- ---- machines that are off

abbrev pub AllOff : List Machine → Type 0
AllOff machines = AllByRecursion (λ (m : Machine). m.running ≡ false) machines

still_off : (ms : List Machine) → AllOff ms → map entry_off ms ≡ ms
still_off [] off = refl
still_off (m ∷ ms) off = let more = still_off ms off.1 in λ i. record m { running = sym off.0 i } ∷ more i

pub off_same : (l : Library) → AllOff l.machines → library_off l ≡ l
off_same l off = let same = still_off l.machines off in λ i. record l { machines = same i }

pub same_off : (l : Library) → library_off l ≡ l → AllOff l.machines
same_off l same =
    subst AllOff (ap (λ (k : Library). k.machines) same)
    (All-of_map entry_off (λ (m : Machine). m.running ≡ false) l.machines (All-every _ (λ m. refl) l.machines))

pub media_full : (media : List Medium) → AllByRecursion (λ (m : Medium). IsTrue (is_medium_name m.name)) media
    → AllByRecursion (λ (m : Medium). NotEmpty m.name) media
media_full media each = All-map _ _ (λ m name. (medium_name_fits m.name name).0) media each

-- ---- what a file tells keeps the rules

pub record HasRules (built : Features) (l : Library) : Type 0 where
  pub rules : IsLibrary (named l)
  pub off : AllOff l.machines
  pub parts : IsBuilt built l

pub decoded_rules : (built : Features) (l : Library) → IsDecoded built keeps_places l → HasRules built l
decoded_rules built l is =
    let fit = fields_fit built l is.fields in
    let drawn = counters_fit (counters_of l) fit.drawn in
    let media = medium_list_fits built l.media fit.media in
    let valid = All-map _ (λ (m : Medium). IsTrue (is_medium_name m.name)) (λ m entry. entry.name) l.media media.each in
    let full = media_full l.media valid in
    let inners = inner_list_fits l.media built l.inner l.inners fit.inners in
    let machines = machine_list_fits l.media l.inners built l.machines fit.machines in
    let making = making_fits built l.media l.making fit.making in
    let merging = merging_list_fits built l.merging fit.merging in
    let kept = places_kept (named l) is.places in
    let ns = medium_names l.media in
    let js = map (merging_named ns) l.merging in
    let each = All-of_map (machine_named ns) (IsNamedMachine (images_of (named l))) l.machines
    (All-map _ _ (λ m of. named_machine l.media media.rise full l.inners js m of) l.machines machines.each) in
    record {
      rules = record {
        seed = drawn.seed;
        next = drawn.next;
        inner = drawn.inner;
        few_media = media.few;
        few_machines = omega (arith, length-map l.machines (machine_named ns), machines.few);
        few_snapshots = omega (arith, snapshots_named ns l.machines, machines.few_snapshots);
        few_places = omega (arith, places_named ns l.machines, machines.few_places);
        few_mergings = omega (arith, length-map l.merging (merging_named ns), merging.0);
        media_rise = media.rise;
        media = valid;
        inners = named_inners l.media media.rise full l.inner l.inners inners.0;
        machines_rise = rises_map (machine_named ns) machine_entry_name named_machine_name (λ m. refl) l.machines machines.rise;
        machines = All-join (IsNamedMachine (images_of (named l))) (IsMachineUnder (images_of (named l))) (IsMachine (images_of (named l)))
            (λ m of under. whole_machine (images_of (named l)) m of under) (map (machine_named ns) l.machines) each kept.under;
        making = making.0;
        held = kept.held;
        based = kept.based;
        merging = kept.merging;
        drawn = kept.drawn;
      };
      off = All-map _ _ (λ m of. of.off) l.machines machines.each;
      parts = record {
        modes = All-map _ _ (λ m entry. entry.mode) l.media media.each;
        inners = inners.1;
        machines = machines.empty;
        each = machines.parts;
        making = making.1;
        merging = merging.1;
      };
    }

-- ---- numbers that a merging has

number_under : (media : List Medium) (bound n : ℕ) (xs : List NamedInner) → AreInners media bound xs → IsTrue (has_number n xs) → n < bound
number_under media bound n [] are h = absurd cc
number_under media bound n (x ∷ xs) are h =
    elim (eqb_tells x.number n) [
      | inl e ↦ omega (arith, are.0, e.1)
      | inr e ↦ omega (arith, are.0, number_under media x.number n xs are.2 (rw e.0 at h))
    ]

-- an image that inner images may stand on, of a number below a bound
abbrev IsBelow : List Medium → ℕ → ImageName → Type 0
IsBelow media bound (OfMedium name) = IsTrue (is_medium_of is_layered media name)
IsBelow media bound (OfInner n) = n < bound

parent_below : (media : List Medium) (bound : ℕ) (xs : List NamedInner) (image : ImageName) → AreInners media bound xs → IsParent media xs image
    → IsBelow media bound image
parent_below media bound xs (OfMedium name) are is = is
parent_below media bound xs (OfInner n) are is = number_under media bound n xs are is

below_more : (media : List Medium) (low high : ℕ) (image : ImageName) → low ≤ high → IsBelow media low image → IsBelow media high image
below_more media low high (OfMedium name) le is = is
below_more media low high (OfInner n) le is = omega (arith, le, is)

same_image : (a b : ImageName) → Some a ≡ Some b → a ≡ b
same_image a b e = cc

-- a child is listed, and so is its parent
child_below : (media : List Medium) (bound : ℕ) (xs : List NamedInner) (n : ℕ) (image : ImageName) → AreInners media bound xs
    → parent_in xs n ≡ Some image
    → (n < bound) × IsBelow media bound image
child_below media bound [] n image are e = absurd cc
child_below media bound (x ∷ xs) n image are e =
    elim (eqb_tells x.number n) [
      | inl s ↦
          let same : x.parent ≡ image = same_image x.parent image (rw s.0 at e) in (
            omega (arith, are.0, s.1),
            subst (IsBelow media bound) same
                (below_more media x.number bound x.parent (omega (arith, are.0)) (parent_below media x.number xs x.parent are.2 are.1)),
          )
      | inr s ↦
          let more = child_below media x.number xs n image are.2 (rw s.0 at e) in
          (omega (arith, are.0, more.0), below_more media x.number bound image (omega (arith, are.0)) more.1)
    ]

drawn_below : (next inner : ℕ) (image : ImageName) (number : ℕ) → next ≤ NUMBER_LIMIT → inner ≤ NUMBER_LIMIT → IsDrawn next inner image number
    → number < 2 ^ 64
drawn_below next inner (OfMedium name) number low few is = omega (arith, is, low)
drawn_below next inner (OfInner n) number low few is = omega (arith, is, few)

-- ---- a library that keeps the rules has a file

module _ (built : Features) (l : Library) (is : IsLibrary (named l)) (off : AllOff l.machines) (parts : IsBuilt built l) where
  abbrev ns : List Name
  ns = medium_names l.media

  full : AllByRecursion (λ (m : Medium). NotEmpty m.name) l.media
  full = media_full l.media is.media

  placed : ArePlacedInners l.media l.inner (reverse l.inners)
  placed = placed_inners l.media is.media_rise full l.inner l.inners is.inners

  few : length l.inners ≤ 24094
  few = omega (arith, few_inners (named l) is, length-map l.inners (inner_named ns))

  placed_machines : AllByRecursion (IsPlacedMachine l.media l.inners) l.machines
  placed_machines =
      let each = All-from_map (machine_named ns) (IsMachine (images_of (named l))) l.machines is.machines in
      All-join (λ (m : Machine). IsMachine (images_of (named l)) (machine_named ns m)) (λ (m : Machine). m.running ≡ false)
      (IsPlacedMachine l.media l.inners)
      (λ m of stopped. placed_machine l.media is.media_rise full l.inners (map (merging_named ns) l.merging) m l.inner is.inner placed stopped
      (machine_itself (images_of (named l)) (machine_named ns m) of)) l.machines each off

  few_machines : length l.machines ≤ 256
  few_machines = omega (arith, is.few_machines, length-map l.machines (machine_named ns))

  few_mergings : length l.merging ≤ 30
  few_mergings = omega (arith, is.few_mergings, length-map l.merging (merging_named ns))

  field_parent : (r : ImageRef) → IsBelow l.media l.inner (image_named ns r) → IsFieldRef r
  field_parent (refs.Medium place) below =
      omega (arith, (placed_mode l.media is.media_rise full is_layered place below).0, is.few_media)
  field_parent (refs.Inner n) below = omega (arith, below, is.inner)

  field_merging : (j : Merging) → IsMerging (images_of (named l)) (map (machine_named ns) l.machines) (merging_named ns j)
      → IsDrawn l.next l.inner (image_named ns j.parent) j.number → IsFieldMerging j
  field_merging j of drawn =
      let both = child_below l.media l.inner (reverse (map (inner_named ns) l.inners)) j.child (image_named ns j.parent) is.inners of.parent in
      record {
        parent = field_parent j.parent both.1;
        child = omega (arith, both.0, is.inner);
        number = drawn_below l.next l.inner (image_named ns j.parent) j.number is.next is.inner drawn;
      }

  field_mergings : AllByRecursion IsFieldMerging l.merging
  field_mergings = All-join (λ (j : Merging). IsMerging (images_of (named l)) (map (machine_named ns) l.machines) (merging_named ns j))
      (λ (j : Merging). IsDrawn l.next l.inner (image_named ns j.parent) j.number) IsFieldMerging field_merging l.merging
      (All-from_map (merging_named ns) (IsMerging (images_of (named l)) (map (machine_named ns) l.machines)) l.merging is.merging)
      (All-from_map (merging_named ns) (λ (j : NamedMerging). IsDrawn l.next l.inner j.parent j.number) l.merging is.drawn)

  short_machine : (m : Machine) → IsPlacedMachine l.media l.inners m → IsShortMachine m
  short_machine m of = record {
    name = machine_name_short m.name of.name;
    slots = few_slots l.media l.inners false m.slots of.slots;
    snapshots = All-map _ _ (λ s each. machine_name_short s.name each.name) m.snapshots of.snapshots.each;
  }

  short_making : (o : Option Name) → IfSome o (λ name. IsTrue (is_medium_name name) × IsFalse (has_name medium_entry_name name l.media))
      → IfSome o (λ name. length name ≤ LONGEST_NAME)
  short_making None of = tt
  short_making (Some name) of = medium_name_short name of.0

  fields_of_rules : IsTrue ((library_fields built).fits l)
  fields_of_rules = fits_fields built l (record {
    drawn = fits_counters (counters_of l) (record { seed = is.seed; next = is.next; inner = is.inner });
    media = fits_medium_list built l.media (record {
      few = is.few_media;
      rise = is.media_rise;
      each = All-join _ _ _ (λ m name mode. record { name = name; mode = mode }) l.media is.media parts.modes;
    });
    inners = fits_inner_list l.media built l.inner l.inners is.few_media is.inner (omega (arith, few)) placed parts.inners;
    machines = fits_machine_list l.media l.inners built l.machines is.few_media (record {
      few = few_machines;
      rise = rises_from_map (machine_named ns) machine_entry_name named_machine_name (λ m. refl) l.machines is.machines_rise;
      each = placed_machines;
      few_snapshots = omega (arith, is.few_snapshots, snapshots_named ns l.machines);
      few_places = omega (arith, is.few_places, places_named ns l.machines);
      empty = parts.machines;
      parts = parts.each;
    });
    making = fits_making built l.media l.making is.making parts.making;
    merging = fits_merging_list built l.merging few_mergings parts.merging field_mergings;
  })

  rules_decoded_off : IsDecoded built keeps_places l
  rules_decoded_off = record {
    fields = fields_of_rules;
    places = kept_places (named l) (record {
      held = is.held;
      based = is.based;
      under = All-map _ _ (λ m of. machine_under (images_of (named l)) m of) (map (machine_named ns) l.machines) is.machines;
      merging = is.merging;
      drawn = is.drawn;
    });
    short = file_length l (record {
      seed = is.seed.long;
      few_media = is.few_media;
      media = All-map _ _ (λ m name. medium_name_short m.name name) l.media is.media;
      few_inners = few;
      few_machines = few_machines;
      machines = All-map _ _ short_machine l.machines placed_machines;
      few_snapshots = omega (arith, is.few_snapshots, snapshots_named ns l.machines);
      few_places = omega (arith, is.few_places, places_named ns l.machines);
      making = short_making l.making is.making;
      few_mergings = few_mergings;
    });
  }

pub rules_decoded : (built : Features) (l : Library) → IsLibrary (named l) → library_off l ≡ l → IsBuilt built l → IsDecoded built keeps_places l
rules_decoded built l is same parts = rules_decoded_off built l is (same_off l same) parts

-- ---- machines that run, which no file tells

pub named_off : (l : Library) → named (library_off l) ≡ named l
named_off l =
    let same = map-map (machine_named (medium_names l.media)) entry_off l.machines in
    λ i. record {
      seed = l.seed;
      next = l.next;
      inner = l.inner;
      media = l.media;
      inners = map (inner_named (medium_names l.media)) l.inners;
      machines = same i;
      making = l.making;
      merging = map (merging_named (medium_names l.media)) l.merging;
    }

built_off : (built : Features) (l : Library) → IsBuilt built l → IsBuilt built (library_off l)
built_off built l is = record {
  modes = is.modes;
  inners = is.inners;
  machines = λ off. ap (map entry_off) (is.machines off);
  each = All-of_map entry_off (IsMachineBuilt built) l.machines (All-map _ _ (λ m of. record { slots = of.slots; snapshots = of.snapshots }) l.machines is.each);
  making = is.making;
  merging = is.merging;
}

-- what is written of a library that keeps the rules, whichever machines run
pub off_decoded : (built : Features) (l : Library) → IsLibrary (named l) → IsBuilt built l → IsDecoded built keeps_places (library_off l)
off_decoded built l is parts =
    rules_decoded_off built (library_off l) (subst IsLibrary (sym (named_off l)) is)
    (All-of_map entry_off (λ (m : Machine). m.running ≡ false) l.machines (All-every _ (λ m. refl) l.machines)) (built_off built l parts)
