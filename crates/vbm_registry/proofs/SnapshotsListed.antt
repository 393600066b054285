-- A machine's snapshots fit the file exactly where they keep their rules, said of places.
use Rattle.std.proofs.Common.{◌≡◌, ℕ, ◌+◌, ◌<◌, ◌≤◌, Bool, true, false, not, ◌&&◌, ◌||◌, List, [], ◌∷◌, ◌++◌, length, map, IsTrue, Option, Some, None, is_none, leb, ltb, refl, sym, ap, subst, ◌∙◌, append_assoc, arith}
use Rattle.std.specs.Prelude.{◌==◌}
use Rattle.std.specs.Int.{w8, w16}
use Rattle.std.specs.List.{AllByRecursion}
use Rattle.std.proofs.lemmas.Bool.{ltb-true, lt-ltb, leb-true, le-leb}
use Rattle.std.proofs.lemmas.List.{append-nil, length-append, nil_from_length}
use Rattle.std.proofs.lemmas.List.Sums.{sum_by-append, sum_by-cons, sum_by_push}
use Rattle.std.proofs.lemmas.List.Folds.{list_any-append}
use Rattle.std.proofs.Math.Bool.{or-false}
use Rattle.vbm_ports.specs.Names.{is_short_name}
use Rattle.vbm_named.specs.Names.{is_before, Rises}
use Rattle.vbm_machines.specs.declared.Slot.{Slot}
use Rattle.vbm_machines.specs.declared.Snapshot.{Snapshot}
use Rattle.vbm_world.specs.declared.limits.TheConstants.{MEDIA_LIMIT, SNAPSHOT_LIMIT, PLACE_LIMIT}
use Rattle.vbm_registry.specs.declared.media.Medium.{Medium}
use Rattle.vbm_registry.specs.declared.library.Inner.{Inner}
use Rattle.vbm_registry.specs.declared.features.Features.{Features}
use Rattle.vbm_registry.specs.Built.{limit_if, EmptyUnless}
use Rattle.vbm_registry.specs.Parts.{items_fit, number}
use Rattle.vbm_registry.specs.Grammar.{last_name, name_after, lead, lead_all, ends_of, has_root, is_good, is_good_parent, has_code, list_place, parent_field, slot_entry, place_list, snapshot_entry_name, snapshot_entry, places_listed, snapshot_list}
use Rattle.vbm_registry.proofs.PartLaws.{and_both, both_and}
use Rattle.vbm_registry.proofs.CountedLists.{counted_fits, fits_counted, name_fits, fits_name, short_name_fits, next_after, rising}
use Rattle.vbm_registry.proofs.SlotsListed.{ArePlacedSlots, all_slots_fit, fit_all_slots, few_slots}

-- parents of which none is bad, from a place on
abbrev pub AreGoodParents : (count at : ℕ) → (rooted : Bool) → (ends : ℕ → ℕ) → List (Option ℕ) → Type 0
AreGoodParents count at rooted ends [] = Unit {0}
AreGoodParents count at rooted ends (parent ∷ parents) =
    IsTrue (is_good count at rooted ends parent) × AreGoodParents count (at + 1) (rooted || is_none parent) (lead at parent ends) parents

abbrev pub parents_of : List Snapshot → List (Option ℕ)
parents_of snapshots = map (λ (s : Snapshot). s.parent) snapshots

pub record IsPlacedSnapshot (media : List Medium) (inners : List Inner) (s : Snapshot) : Type 0 where
  pub name : IsTrue (is_short_name s.name)
  pub slots : ArePlacedSlots media inners true s.slots

pub record ArePlacedSnapshots (media : List Medium) (inners : List Inner) (snapshots : List Snapshot) : Type 0 where
  pub names : Rises snapshot_entry_name snapshots
  pub parents : AreGoodParents (length snapshots) 0 false (λ from. from) (parents_of snapshots)
  pub each : AllByRecursion (IsPlacedSnapshot media inners) snapshots

-- ---- one snapshot more

lead_push : (at : ℕ) (before : List Snapshot) (s : Snapshot) (ends : ℕ → ℕ)
    → lead_all at (before ++ s ∷ []) ends ≡ lead (at + length before) s.parent (lead_all at before ends)
lead_push at [] s ends = let e : at + 0 ≡ at = omega arith in rw e refl
lead_push at (x ∷ before) s ends =
    let e : at + length (x ∷ before) ≡ at + 1 + length before = omega arith in
    rw e (lead_push (at + 1) before s (lead at x.parent ends))

ends_push : (before : List Snapshot) (s : Snapshot) → ends_of (before ++ s ∷ []) ≡ lead (length before) s.parent (ends_of before)
ends_push before s = lead_push 0 before s (λ from. from) ∙ (let e : 0 + length before ≡ length before = omega arith in rw e refl)

root_push : (before : List Snapshot) (s : Snapshot) → has_root (before ++ s ∷ []) ≡ (has_root before || is_none s.parent)
root_push before s =
    list_any-append (λ (x : Snapshot). is_none x.parent) before (s ∷ []) ∙ ap (λ (b : Bool). has_root before || b) (or-false (is_none s.parent))

length_push : (before : List Snapshot) (s : Snapshot) → length (before ++ s ∷ []) ≡ length before + 1
length_push before s = omega (arith, length-append before (s ∷ []))

places_push : (before : List Snapshot) (s : Snapshot) → places_listed (before ++ s ∷ []) ≡ places_listed before + length s.slots
places_push before s = sum_by_push (λ (x : Snapshot). length x.slots) before s

-- the parents behind so many snapshots
abbrev AreGoodBehind : (count : ℕ) → (before xs : List Snapshot) → Type 0
AreGoodBehind count before xs = AreGoodParents count (length before) (has_root before) (ends_of before) (parents_of xs)

one_more : (count : ℕ) (before xs : List Snapshot) (s : Snapshot)
    → AreGoodBehind count (before ++ s ∷ []) xs
    ≡ AreGoodParents count (length before + 1) (has_root before || is_none s.parent) (lead (length before) s.parent (ends_of before)) (parents_of xs)
one_more count before xs s =
    let n = length_push before s in let b = root_push before s in let f = ends_push before s in
    λ i. AreGoodParents count (n i) (b i) (f i) (parents_of xs)

place_fits : (count at : ℕ) (rooted : Bool) (ends : ℕ → ℕ) (parent : Option ℕ) → count ≤ SNAPSHOT_LIMIT → IsTrue (is_good count at rooted ends parent)
    → IsTrue (list_place.fits parent)
unfolding list_place
place_fits count at rooted ends None few good = refl
place_fits count at rooted ends (Some parent) few good =
    let lt : parent < count = ltb-true _ _ (and_both (ltb parent count) (not (ends parent == at)) good).0 in
    let n : parent < 65536 = omega (arith, lt, few) in
    let m : parent < 65535 = omega (arith, lt, few) in
    both_and ((number w16).fits parent) (has_code (Some parent)) (lt-ltb _ _ n) (lt-ltb _ _ m)

module _ (media : List Medium) (inners : List Inner) (places count : ℕ) where
  places_fit : (n : ℕ) (slots : List Slot) → IsTrue ((place_list media inners n).fits slots)
      → ArePlacedSlots media inners true slots × (n + length slots ≤ PLACE_LIMIT)
  unfolding place_list
  places_fit n slots fits =
      let is = counted_fits w8 (λ k. leb (n + k) PLACE_LIMIT) (λ _. slot_entry true media inners) slots fits in
      (all_slots_fit media inners true slots is.each, leb-true _ _ is.count)

  fit_places : (n : ℕ) (slots : List Slot) → length media ≤ MEDIA_LIMIT → ArePlacedSlots media inners true slots → n + length slots ≤ PLACE_LIMIT
      → IsTrue ((place_list media inners n).fits slots)
  unfolding place_list
  fit_places n slots few are le =
      let small : length slots < 256 = omega (arith, few_slots media inners true slots are) in
      fits_counted w8 (λ k. leb (n + k) PLACE_LIMIT) (λ _. slot_entry true media inners) slots
      (record { width = small; count = le-leb _ _ le; each = fit_all_slots media inners true slots few are })

  record SnapshotFits (before : List Snapshot) (s : Snapshot) : Type 0 where
    after : IsTrue (is_before (last_name snapshot_entry_name before) s.name)
    parent : IsTrue (is_good_parent count before s.parent)
    few : places + places_listed before + length s.slots ≤ PLACE_LIMIT
    itself : IsPlacedSnapshot media inners s

  snapshot_fits : (before : List Snapshot) (s : Snapshot) → IsTrue ((snapshot_entry media inners places count before).fits s) → SnapshotFits before s
  unfolding snapshot_entry parent_field
  snapshot_fits before s fits =
      let name = (name_after is_short_name (last_name snapshot_entry_name before)).fits s.name in
      let p0 = list_place.fits s.parent in
      let p1 = is_good_parent count before s.parent in
      let held = (place_list media inners (places + places_listed before)).fits s.slots in
      let a = and_both (name && ((p0 && p1) && held)) true fits in
      let b = and_both name ((p0 && p1) && held) a.0 in
      let c = and_both (p0 && p1) held b.1 in
      let slots = places_fit (places + places_listed before) s.slots c.1 in
      let named = name_fits is_short_name (last_name snapshot_entry_name before) s.name b.0 in
      record {
        after = named.after;
        parent = (and_both p0 p1 c.0).1;
        few = slots.1;
        itself = record { name = named.named; slots = slots.0 };
      }

  fits_snapshot : (before : List Snapshot) (s : Snapshot) → length media ≤ MEDIA_LIMIT → count ≤ SNAPSHOT_LIMIT → SnapshotFits before s
      → IsTrue ((snapshot_entry media inners places count before).fits s)
  unfolding snapshot_entry parent_field
  fits_snapshot before s few low is =
      let name = (name_after is_short_name (last_name snapshot_entry_name before)).fits s.name in
      let p0 = list_place.fits s.parent in
      let p1 = is_good_parent count before s.parent in
      let held = (place_list media inners (places + places_listed before)).fits s.slots in
      both_and (name && ((p0 && p1) && held)) true (both_and name ((p0 && p1) && held)
      (fits_name is_short_name (last_name snapshot_entry_name before) s.name (short_name_fits s.name is.itself.name).1
      (record { named = is.itself.name; after = is.after }))
      (both_and (p0 && p1) held
      (both_and p0 p1 (place_fits count (length before) (has_root before) (ends_of before) s.parent low is.parent) is.parent)
      (fit_places (places + places_listed before) s.slots few is.itself.slots is.few))) refl

  -- ---- all of them

  snapshots_fit : (before xs : List Snapshot) → places + places_listed before ≤ PLACE_LIMIT
      → IsTrue (items_fit (snapshot_entry media inners places count) before xs)
      → AllByRecursion (IsPlacedSnapshot media inners) xs × AreGoodBehind count before xs × (places + places_listed (before ++ xs) ≤ PLACE_LIMIT)
  snapshots_fit before [] le fits = (tt, tt, rw append-nil le)
  snapshots_fit before (s ∷ xs) le fits =
      let both = and_both ((snapshot_entry media inners places count before).fits s)
      (items_fit (snapshot_entry media inners places count) (before ++ s ∷ []) xs) fits in
      let here = snapshot_fits before s both.0 in
      let le2 : places + places_listed (before ++ s ∷ []) ≤ PLACE_LIMIT = omega (arith, places_push before s, here.few) in
      let more = snapshots_fit (before ++ s ∷ []) xs le2 both.1 in (
        (here.itself, more.0),
        (here.parent, subst (λ (T : Type 0). T) (one_more count before xs s) more.1),
        subst (λ (ys : List Snapshot). places + places_listed ys ≤ PLACE_LIMIT) (append_assoc before (s ∷ []) xs) more.2,
      )

  fit_snapshots : (before xs : List Snapshot) → length media ≤ MEDIA_LIMIT → count ≤ SNAPSHOT_LIMIT → Rises snapshot_entry_name (before ++ xs)
      → AllByRecursion (IsPlacedSnapshot media inners) xs → places + places_listed (before ++ xs) ≤ PLACE_LIMIT → AreGoodBehind count before xs
      → IsTrue (items_fit (snapshot_entry media inners places count) before xs)
  fit_snapshots before [] few low rises each le parents = refl
  fit_snapshots before (s ∷ xs) few low rises each le parents =
      let sum : places_listed (before ++ s ∷ xs) ≡ places_listed before + places_listed (s ∷ xs) =
      sum_by-append (λ (x : Snapshot). length x.slots) before (s ∷ xs) in
      let sum2 : places_listed (s ∷ xs) ≡ length s.slots + places_listed xs = sum_by-cons (λ (x : Snapshot). length x.slots) s xs in
      let fine : places + places_listed before + length s.slots ≤ PLACE_LIMIT = omega (arith, le, sum, sum2) in
      both_and ((snapshot_entry media inners places count before).fits s) (items_fit (snapshot_entry media inners places count) (before ++ s ∷ []) xs)
      (fits_snapshot before s few low (record {
        after = next_after snapshot_entry_name before s xs (short_name_fits s.name each.0.name).0 rises;
        parent = parents.0;
        few = fine;
        itself = each.0;
      }))
      (fit_snapshots (before ++ s ∷ []) xs few low (subst (Rises snapshot_entry_name) (sym (append_assoc before (s ∷ []) xs)) rises) each.1
      (subst (λ (ys : List Snapshot). places + places_listed ys ≤ PLACE_LIMIT) (sym (append_assoc before (s ∷ []) xs)) le)
      (subst (λ (T : Type 0). T) (sym (one_more count before xs s)) parents.1))

module _ (media : List Medium) (inners : List Inner) (built : Features) (snapshots places : ℕ) where
  abbrev snapshot_count : ℕ → Bool
  snapshot_count n = leb (snapshots + n) (limit_if built.snapshots SNAPSHOT_LIMIT)

  more_is : (on : Bool) (xs : List Snapshot) → IsTrue (leb (snapshots + length xs) (limit_if on SNAPSHOT_LIMIT))
      → (snapshots + length xs ≤ SNAPSHOT_LIMIT) × EmptyUnless on xs
  more_is true xs h = (leb-true _ _ h, λ off. absurd cc)
  more_is false xs h =
      let none : snapshots + length xs ≤ 0 = leb-true _ _ h in
      (omega (arith, none), λ off. nil_from_length xs (omega (arith, none)))

  -- where none are in use, there are none in any machine
  is_more : (on : Bool) (xs : List Snapshot) → snapshots + length xs ≤ SNAPSHOT_LIMIT → (on ≡ false → snapshots ≡ 0) → EmptyUnless on xs
      → IsTrue (leb (snapshots + length xs) (limit_if on SNAPSHOT_LIMIT))
  is_more true xs few none empty = le-leb _ _ few
  is_more false xs few none empty =
      let before : snapshots ≡ 0 = none refl in
      let now : length xs ≡ 0 = ap length (empty refl) in
      le-leb _ _ (omega (arith, before, now))

  pub record SnapshotsFit (xs : List Snapshot) : Type 0 where
    pub itself : ArePlacedSnapshots media inners xs
    pub few_snapshots : snapshots + length xs ≤ SNAPSHOT_LIMIT
    pub few_places : places + places_listed xs ≤ PLACE_LIMIT
    pub empty : EmptyUnless built.snapshots xs

  pub snapshot_list_fits : (xs : List Snapshot) → places ≤ PLACE_LIMIT → IsTrue ((snapshot_list built media inners snapshots places).fits xs)
      → SnapshotsFit xs
  unfolding snapshot_list
  snapshot_list_fits xs le fits =
      let is = counted_fits w16 snapshot_count (snapshot_entry media inners places) xs fits in
      let start : places + places_listed [] ≤ PLACE_LIMIT = omega (arith, le) in
      let all = snapshots_fit media inners places (length xs) [] xs start is.each in
      let count = more_is built.snapshots xs is.count in
      record {
        itself = record {
          names = rising snapshot_entry_name (snapshot_entry media inners places (length xs))
              (λ before s fit. (snapshot_fits media inners places (length xs) before s fit).after) [] xs tt is.each;
          parents = all.1;
          each = all.0;
        };
        few_snapshots = count.0;
        few_places = all.2;
        empty = count.1;
      }

  pub fits_snapshot_list : (xs : List Snapshot) → length media ≤ MEDIA_LIMIT → (built.snapshots ≡ false → snapshots ≡ 0) → SnapshotsFit xs
      → IsTrue ((snapshot_list built media inners snapshots places).fits xs)
  unfolding snapshot_list
  fits_snapshot_list xs few none is =
      let small : length xs < 65536 = omega (arith, is.few_snapshots) in
      let low : length xs ≤ SNAPSHOT_LIMIT = omega (arith, is.few_snapshots) in
      fits_counted w16 snapshot_count (snapshot_entry media inners places) xs (record {
        width = small;
        count = is_more built.snapshots xs is.few_snapshots none is.empty;
        each = fit_snapshots media inners places (length xs) [] xs few low is.itself.names is.itself.each is.few_places is.itself.parents;
      })
