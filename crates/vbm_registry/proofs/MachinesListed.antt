-- Machines fit the file exactly where they keep their rules, said of places.
use Rattle.std.proofs.Common.{◌≡◌, ℕ, ◌+◌, ◌<◌, ◌≤◌, Bool, false, ◌&&◌, List, [], ◌∷◌, ◌++◌, length, IsTrue, Option, Some, None, leb, refl, sym, ap, subst, append_assoc, arith}
use Rattle.std.specs.Int.{w8, w16}
use Rattle.std.specs.List.{AllByRecursion}
use Rattle.std.proofs.lemmas.Bool.{ltb-true, lt-ltb}
use Rattle.std.proofs.lemmas.List.{append-nil}
use Rattle.std.proofs.lemmas.List.Sums.{sum_by-append, sum_by-cons, sum_by_push}
use Rattle.vbm_ports.specs.Names.{is_short_name}
use Rattle.vbm_named.specs.Names.{is_before, Rises}
use Rattle.vbm_machines.specs.declared.Slot.{Slot}
use Rattle.vbm_machines.specs.declared.Machine.{Machine}
use Rattle.vbm_world.specs.declared.limits.TheConstants.{MEDIA_LIMIT, MACHINE_LIMIT, SNAPSHOT_LIMIT, PLACE_LIMIT}
use Rattle.vbm_registry.specs.declared.media.Medium.{Medium}
use Rattle.vbm_registry.specs.declared.library.Inner.{Inner}
use Rattle.vbm_registry.specs.declared.features.Features.{Features}
use Rattle.vbm_registry.specs.Built.{limit_if, EmptyUnless, IsMachineBuilt}
use Rattle.vbm_registry.specs.Parts.{items_fit, number}
use Rattle.vbm_registry.specs.Grammar.{last_name, name_after, has_code, list_place, slot_entry, slot_list, places_listed, snapshot_list, is_current, current_field, is_off, machine_entry_name, machine_entry, machine_list, snapshots_among, places_among}
use Rattle.vbm_registry.proofs.PartLaws.{and_both, both_and}
use Rattle.vbm_registry.proofs.GrammarLaws.{not_true}
use Rattle.vbm_registry.proofs.CountedLists.{it_not, limit_is, is_limit, counted_fits, fits_counted, name_fits, fits_name, short_name_fits, next_after, rising}
use Rattle.vbm_registry.proofs.SlotsListed.{ArePlacedSlots, all_slots_fit, fit_all_slots, few_slots}
use Rattle.vbm_registry.proofs.SnapshotsListed.{ArePlacedSnapshots, snapshot_list_fits, fits_snapshot_list}

pub record IsPlacedMachine (media : List Medium) (inners : List Inner) (m : Machine) : Type 0 where
  pub off : m.running ≡ false
  pub name : IsTrue (is_short_name m.name)
  pub slots : ArePlacedSlots media inners false m.slots
  pub snapshots : ArePlacedSnapshots media inners m.snapshots
  pub current : IsTrue (is_current (length m.snapshots) m.current)

current_fits : (count : ℕ) (current : Option ℕ) → IsTrue ((current_field count).fits current) → IsTrue (is_current count current)
unfolding current_field
current_fits count current fits = (and_both (list_place.fits current) (is_current count current) fits).1

fits_current : (count : ℕ) (current : Option ℕ) → count ≤ SNAPSHOT_LIMIT → IsTrue (is_current count current)
    → IsTrue ((current_field count).fits current)
unfolding current_field list_place
fits_current count None few is = is
fits_current count (Some at) few is =
    let lt : at < count = ltb-true _ _ is in
    let n : at < 65536 = omega (arith, lt, few) in
    let m : at < 65535 = omega (arith, lt, few) in
    both_and ((number w16).fits at && has_code (Some at)) (is_current count (Some at))
    (both_and ((number w16).fits at) (has_code (Some at)) (lt-ltb _ _ n) (lt-ltb _ _ m)) is

snapshots_push : (before : List Machine) (m : Machine) → snapshots_among (before ++ m ∷ []) ≡ snapshots_among before + length m.snapshots
snapshots_push before m = sum_by_push (λ (x : Machine). length x.snapshots) before m

places_push : (before : List Machine) (m : Machine) → places_among (before ++ m ∷ []) ≡ places_among before + places_listed m.snapshots
places_push before m = sum_by_push (λ (x : Machine). places_listed x.snapshots) before m

module _ (media : List Medium) (inners : List Inner) (built : Features) where
  abbrev slot_count : ℕ → Bool
  slot_count n = leb n (limit_if built.slots 255)

  slot_list_fits : (slots : List Slot) → IsTrue ((slot_list built media inners).fits slots)
      → ArePlacedSlots media inners false slots × EmptyUnless built.slots slots
  unfolding slot_list
  slot_list_fits slots fits =
      let is = counted_fits w8 slot_count (λ _. slot_entry false media inners) slots fits in
      (all_slots_fit media inners false slots is.each, (limit_is built.slots 255 slots is.count).1)

  fits_slot_list : (slots : List Slot) → length media ≤ MEDIA_LIMIT → ArePlacedSlots media inners false slots → EmptyUnless built.slots slots
      → IsTrue ((slot_list built media inners).fits slots)
  unfolding slot_list
  fits_slot_list slots few are empty =
      let most = few_slots media inners false slots are in
      let small : length slots < 256 = omega (arith, most) in
      let low : length slots ≤ 255 = omega (arith, most) in
      fits_counted w8 slot_count (λ _. slot_entry false media inners) slots
      (record { width = small; count = is_limit built.slots 255 slots low empty; each = fit_all_slots media inners false slots few are })

  record MachineFits (before : List Machine) (m : Machine) : Type 0 where
    after : IsTrue (is_before (last_name machine_entry_name before) m.name)
    few_snapshots : snapshots_among before + length m.snapshots ≤ SNAPSHOT_LIMIT
    few_places : places_among before + places_listed m.snapshots ≤ PLACE_LIMIT
    itself : IsPlacedMachine media inners m
    parts : IsMachineBuilt built m

  machine_fits : (before : List Machine) (m : Machine) → places_among before ≤ PLACE_LIMIT → IsTrue ((machine_entry built media inners before).fits m)
      → MachineFits before m
  unfolding machine_entry
  machine_fits before m le fits =
      let name = (name_after is_short_name (last_name machine_entry_name before)).fits m.name in
      let slots = (slot_list built media inners).fits m.slots in
      let snapshots = (snapshot_list built media inners (snapshots_among before) (places_among before)).fits m.snapshots in
      let current = (current_field (length m.snapshots)).fits m.current in
      let a = and_both (name && (slots && (snapshots && current))) (is_off m) fits in
      let b = and_both name (slots && (snapshots && current)) a.0 in
      let c = and_both slots (snapshots && current) b.1 in
      let d = and_both snapshots current c.1 in
      let taken = snapshot_list_fits media inners built (snapshots_among before) (places_among before) m.snapshots le d.0 in
      let named = name_fits is_short_name (last_name machine_entry_name before) m.name b.0 in
      let attached = slot_list_fits m.slots c.0 in
      record {
        after = named.after;
        few_snapshots = taken.few_snapshots;
        few_places = taken.few_places;
        itself = record {
          off = not_true m.running a.1;
          name = named.named;
          slots = attached.0;
          snapshots = taken.itself;
          current = current_fits (length m.snapshots) m.current d.1;
        };
        parts = record { slots = attached.1; snapshots = taken.empty };
      }

  fits_machine : (before : List Machine) (m : Machine) → length media ≤ MEDIA_LIMIT → (built.snapshots ≡ false → snapshots_among before ≡ 0)
      → MachineFits before m → IsTrue ((machine_entry built media inners before).fits m)
  unfolding machine_entry
  fits_machine before m few none is =
      let name = (name_after is_short_name (last_name machine_entry_name before)).fits m.name in
      let slots = (slot_list built media inners).fits m.slots in
      let snapshots = (snapshot_list built media inners (snapshots_among before) (places_among before)).fits m.snapshots in
      let current = (current_field (length m.snapshots)).fits m.current in
      let low : length m.snapshots ≤ SNAPSHOT_LIMIT = omega (arith, is.few_snapshots) in
      both_and (name && (slots && (snapshots && current))) (is_off m) (both_and name (slots && (snapshots && current))
      (fits_name is_short_name (last_name machine_entry_name before) m.name (short_name_fits m.name is.itself.name).1
      (record { named = is.itself.name; after = is.after }))
      (both_and slots (snapshots && current) (fits_slot_list m.slots few is.itself.slots is.parts.slots) (both_and snapshots current
      (fits_snapshot_list media inners built (snapshots_among before) (places_among before) m.snapshots few none (record {
        itself = is.itself.snapshots;
        few_snapshots = is.few_snapshots;
        few_places = is.few_places;
        empty = is.parts.snapshots;
      }))
      (fits_current (length m.snapshots) m.current low is.itself.current))))
      (it_not m.running is.itself.off)

  record MachinesFit (before xs : List Machine) : Type 0 where
    each : AllByRecursion (IsPlacedMachine media inners) xs
    parts : AllByRecursion (IsMachineBuilt built) xs
    few_snapshots : snapshots_among (before ++ xs) ≤ SNAPSHOT_LIMIT
    few_places : places_among (before ++ xs) ≤ PLACE_LIMIT

  machines_fit : (before xs : List Machine) → snapshots_among before ≤ SNAPSHOT_LIMIT → places_among before ≤ PLACE_LIMIT
      → IsTrue (items_fit (machine_entry built media inners) before xs) → MachinesFit before xs
  machines_fit before [] low le fits = record { each = tt; parts = tt; few_snapshots = rw append-nil low; few_places = rw append-nil le }
  machines_fit before (m ∷ xs) low le fits =
      let both = and_both ((machine_entry built media inners before).fits m)
      (items_fit (machine_entry built media inners) (before ++ m ∷ []) xs) fits in
      let here = machine_fits before m le both.0 in
      let low2 : snapshots_among (before ++ m ∷ []) ≤ SNAPSHOT_LIMIT = omega (arith, snapshots_push before m, here.few_snapshots) in
      let le2 : places_among (before ++ m ∷ []) ≤ PLACE_LIMIT = omega (arith, places_push before m, here.few_places) in
      let more = machines_fit (before ++ m ∷ []) xs low2 le2 both.1 in
      record {
        each = (here.itself, more.each);
        parts = (here.parts, more.parts);
        few_snapshots = subst (λ (ys : List Machine). snapshots_among ys ≤ SNAPSHOT_LIMIT) (append_assoc before (m ∷ []) xs) more.few_snapshots;
        few_places = subst (λ (ys : List Machine). places_among ys ≤ PLACE_LIMIT) (append_assoc before (m ∷ []) xs) more.few_places;
      }

  -- where no snapshots are in use, one more machine has none
  still_none : (before : List Machine) (m : Machine) → (built.snapshots ≡ false → snapshots_among before ≡ 0) → IsMachineBuilt built m
      → built.snapshots ≡ false → snapshots_among (before ++ m ∷ []) ≡ 0
  still_none before m none parts off =
      let now : length m.snapshots ≡ 0 = ap length (parts.snapshots off) in
      omega (arith, snapshots_push before m, none off, now)

  fit_machines : (before xs : List Machine) → length media ≤ MEDIA_LIMIT → Rises machine_entry_name (before ++ xs)
      → (built.snapshots ≡ false → snapshots_among before ≡ 0) → MachinesFit before xs
      → IsTrue (items_fit (machine_entry built media inners) before xs)
  fit_machines before [] few rises none is = refl
  fit_machines before (m ∷ xs) few rises none is =
      let s1 : snapshots_among (before ++ m ∷ xs) ≡ snapshots_among before + snapshots_among (m ∷ xs) =
      sum_by-append (λ (x : Machine). length x.snapshots) before (m ∷ xs) in
      let s2 : snapshots_among (m ∷ xs) ≡ length m.snapshots + snapshots_among xs = sum_by-cons (λ (x : Machine). length x.snapshots) m xs in
      let p1 : places_among (before ++ m ∷ xs) ≡ places_among before + places_among (m ∷ xs) =
      sum_by-append (λ (x : Machine). places_listed x.snapshots) before (m ∷ xs) in
      let p2 : places_among (m ∷ xs) ≡ places_listed m.snapshots + places_among xs = sum_by-cons (λ (x : Machine). places_listed x.snapshots) m xs in
      let few_s : snapshots_among before + length m.snapshots ≤ SNAPSHOT_LIMIT = omega (arith, s1, s2, is.few_snapshots) in
      let few_p : places_among before + places_listed m.snapshots ≤ PLACE_LIMIT = omega (arith, p1, p2, is.few_places) in
      both_and ((machine_entry built media inners before).fits m) (items_fit (machine_entry built media inners) (before ++ m ∷ []) xs)
      (fits_machine before m few none (record {
        after = next_after machine_entry_name before m xs (short_name_fits m.name is.each.0.name).0 rises;
        few_snapshots = few_s;
        few_places = few_p;
        itself = is.each.0;
        parts = is.parts.0;
      }))
      (fit_machines (before ++ m ∷ []) xs few (subst (Rises machine_entry_name) (sym (append_assoc before (m ∷ []) xs)) rises)
      (still_none before m none is.parts.0) (record {
        each = is.each.1;
        parts = is.parts.1;
        few_snapshots = subst (λ (ys : List Machine). snapshots_among ys ≤ SNAPSHOT_LIMIT) (sym (append_assoc before (m ∷ []) xs)) is.few_snapshots;
        few_places = subst (λ (ys : List Machine). places_among ys ≤ PLACE_LIMIT) (sym (append_assoc before (m ∷ []) xs)) is.few_places;
      }))

  after : (before : List Machine) (m : Machine) → IsTrue ((machine_entry built media inners before).fits m)
      → IsTrue (is_before (last_name machine_entry_name before) m.name)
  unfolding machine_entry
  after before m fits =
      let name = (name_after is_short_name (last_name machine_entry_name before)).fits m.name in
      let slots = (slot_list built media inners).fits m.slots in
      let snapshots = (snapshot_list built media inners (snapshots_among before) (places_among before)).fits m.snapshots in
      let current = (current_field (length m.snapshots)).fits m.current in
      let a = and_both (name && (slots && (snapshots && current))) (is_off m) fits in
      (name_fits is_short_name (last_name machine_entry_name before) m.name (and_both name (slots && (snapshots && current)) a.0).0).after

  pub record ArePlacedMachines (xs : List Machine) : Type 0 where
    pub few : length xs ≤ MACHINE_LIMIT
    pub rise : Rises machine_entry_name xs
    pub each : AllByRecursion (IsPlacedMachine media inners) xs
    pub few_snapshots : snapshots_among xs ≤ SNAPSHOT_LIMIT
    pub few_places : places_among xs ≤ PLACE_LIMIT
    pub empty : EmptyUnless built.machines xs
    pub parts : AllByRecursion (IsMachineBuilt built) xs

  abbrev machine_count : ℕ → Bool
  machine_count n = leb n (limit_if built.machines MACHINE_LIMIT)

  pub machine_list_fits : (xs : List Machine) → IsTrue ((machine_list built media inners).fits xs) → ArePlacedMachines xs
  unfolding machine_list
  machine_list_fits xs fits =
      let is = counted_fits w16 machine_count (λ _. machine_entry built media inners) xs fits in
      let count = limit_is built.machines MACHINE_LIMIT xs is.count in
      let all = machines_fit [] xs (omega arith) (omega arith) is.each in
      record {
        few = count.0;
        rise = rising machine_entry_name (machine_entry built media inners) after [] xs tt is.each;
        each = all.each;
        few_snapshots = all.few_snapshots;
        few_places = all.few_places;
        empty = count.1;
        parts = all.parts;
      }

  pub fits_machine_list : (xs : List Machine) → length media ≤ MEDIA_LIMIT → ArePlacedMachines xs → IsTrue ((machine_list built media inners).fits xs)
  unfolding machine_list
  fits_machine_list xs few are =
      let small : length xs < 65536 = omega (arith, are.few) in
      fits_counted w16 machine_count (λ _. machine_entry built media inners) xs (record {
        width = small;
        count = is_limit built.machines MACHINE_LIMIT xs are.few are.empty;
        each = fit_machines [] xs few are.rise (λ off. refl)
            (record { each = are.each; parts = are.parts; few_snapshots = are.few_snapshots; few_places = are.few_places });
      })
