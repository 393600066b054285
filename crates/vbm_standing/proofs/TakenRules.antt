-- A snapshot is taken: the library keeps its rules, and the files those of a store.
use Rattle.std.proofs.Common.{[], ◌&&◌, ◌+◌, ◌<◌, ◌∙◌, ◌∷◌, ◌≡◌, ◌≤◌, Bool, IsFalse, IsTrue, List, None, Option, Some, ap, arith, false, inl, inr, leb-false, length, map, refl, reverse, subst, sym, true, ℕ}
use Rattle.std.specs.List.{AllByRecursion, list_any}
use Rattle.std.specs.Option.{option_map}
use Rattle.std.specs.Prelude.{◌==◌, IfSome, count_by, nat_le, sum_by}
use Rattle.std.specs.Str.{bytes_eq}
use Rattle.std.proofs.lemmas.Bool.{and_right, cases_Bool, false_from_ne_true, or_parts}
use Rattle.std.proofs.lemmas.List.{length-map}
use Rattle.vbm_ports.specs.Files.{Files}
use Rattle.vbm_modes.specs.declared.Mode.{Mode}
use Rattle.vbm_modes.specs.declared.Mode.TheVariants.{Immutable, MultiAttach, Normal, Readonly, Writethrough}
use Rattle.vbm_machines.specs.declared.Held.{Held}
use Rattle.vbm_machines.specs.declared.Held.TheVariants.{Base, Direct, Own}
use Rattle.vbm_named.proofs.Lists.{All-both, All-every, All-find, All-join, All-map, All-of_map, All-put, any_map, each_found, find_map, find_put_other, find_put_same, has_map, length-put, name_sym, none_of_any, put_map, same_name}
use Rattle.vbm_named.proofs.Sums.{sum_put}
use Rattle.vbm_named.specs.Names.{Name, find_by, has_name, put_by}
use Rattle.vbm_world.proofs.TakenTree.{tree_put}
use Rattle.vbm_world.specs.Tree.{Has, IsTree, branch_name}
use Rattle.vbm_world.specs.World.{is_normal}
use Rattle.vbm_world.specs.declared.limits.TheConstants.{PLACE_LIMIT, SNAPSHOT_LIMIT}
use Rattle.vbm_registry.proofs.Counts.{any-count, count-cons, count-map, count-same, sum_alone, sum_changed, zero-count}
use Rattle.vbm_registry.specs.Chains.{is_image}
use Rattle.vbm_registry.specs.Held.{may_hold}
use Rattle.vbm_registry.specs.Library.{medium_entry_name}
use Rattle.vbm_registry.specs.Named.{NamedInner, NamedLibrary, NamedMachine, NamedSlot, NamedSnapshot, OfInner, OfMedium, images_of, named_branch, named_machine_name, named_snapshot_name}
use Rattle.vbm_registry.specs.Rules.{AreSlotsUnder, IsBasedOnce, IsLibrary, IsMachine, IsNamedSlot, IsOwnOf, IsParent, IsSnapshotOf, MediaDiffer, PortsRise, count_in, count_in_machine, has_directly, has_mode, holds, is_based, is_held, is_held_directly, is_held_over, is_medium_of, is_stacked, mergings_into, named_place_count, named_snapshot_count, places_of_some, upper_places}
use Rattle.vbm_registry.specs.declared.media.Medium.{Medium}
use Rattle.vbm_standing.proofs.ChainFrames.{IsRenewal, Remains, new-from}
use Rattle.vbm_standing.proofs.FrozenMedia.{OfSlots, none-placed}
use Rattle.vbm_standing.proofs.KeptRules.{IsRuledEdit, balance, base-name, edited_rules, edited_store, free-still, none-of-old, other-free, over-free, snaps-direct, under-rule, unheld-machines}
use Rattle.vbm_standing.proofs.LeafImages.{nowhere}
use Rattle.vbm_standing.proofs.PlacesHeld.{machine-listed, machine-map, parents-over, place-listed, places-map}
use Rattle.vbm_standing.proofs.RenewedSlots.{none-base, none-number, none-over, over-once, over-under, place-parent}
use Rattle.vbm_standing.proofs.Stores.{absent}
use Rattle.vbm_standing.proofs.TakenWorlds.{closed-all, stays-all}
use Rattle.vbm_standing.proofs.WorldParts.{OfPlace}
use Rattle.vbm_standing.specs.EditedFiles.{AreEdited, HasImage}
use Rattle.vbm_standing.specs.Edits.{CanTake, IsUnshared, Renewal, held_in_snapshot, library_taken, machine_taken, new_inners, none_gone, place_of_slot, places_taken, renewal_of, renewed_slots}
use Rattle.vbm_standing.specs.Faults.{IsStore}
use Rattle.vbm_standing.specs.Meaning.{has_slot_of}

-- ---- what a snapshot keeps of a slot

kept_may : (mode : Mode) (h : Held) → IsTrue (may_hold false mode h) → IsTrue (may_hold true mode (held_in_snapshot (is_normal mode) h))
kept_may Normal Direct may = refl
kept_may Normal (Own n) may = refl
kept_may Normal Base may = absurd cc
kept_may Immutable Direct may = absurd cc
kept_may Immutable (Own n) may = refl
kept_may Immutable Base may = absurd cc
kept_may MultiAttach Direct may = absurd cc
kept_may MultiAttach (Own n) may = refl
kept_may MultiAttach Base may = absurd cc
kept_may Writethrough Direct may = refl
kept_may Writethrough (Own n) may = absurd cc
kept_may Writethrough Base may = absurd cc
kept_may Readonly Direct may = refl
kept_may Readonly (Own n) may = absurd cc
kept_may Readonly Base may = absurd cc

module _ (l : NamedLibrary) where
  kept-ports : (slots : List NamedSlot) (low : ℕ) → PortsRise low slots → PortsRise low (map (place_of_slot l.media) slots)
  kept-ports [] low rising = rising
  kept-ports (s ∷ slots) low rising = (rising.0, kept-ports slots (s.port + 1) rising.1)

  kept-different : (slots : List NamedSlot) → MediaDiffer slots → MediaDiffer (map (place_of_slot l.media) slots)
  kept-different [] different = tt
  kept-different (s ∷ slots) different = (
    All-of_map (place_of_slot l.media) (λ (t : NamedSlot). IsFalse (bytes_eq t.medium s.medium)) slots different.0,
    kept-different slots different.1,
  )

  kept-own : (normal : Bool) (medium : Name) (h : Held) → IsOwnOf l.inners medium h → IsOwnOf l.inners medium (held_in_snapshot normal h)
  kept-own true medium Direct own = tt
  kept-own false medium Direct own = tt
  kept-own normal medium (Own n) own = own
  kept-own normal medium Base own = tt

  kept-place : (s : NamedSlot) → IsNamedSlot (images_of l) false s → IsNamedSlot (images_of l) true (place_of_slot l.media s)
  kept-place s is =
      let mode = is.medium.mode in
      let normal : is_medium_of is_normal l.media s.medium ≡ is_normal mode = ap (has_mode is_normal) is.there in
      record {
        medium = is.medium;
        there = is.there;
        held = ap (λ b. may_hold true mode (held_in_snapshot b s.held)) normal ∙ kept_may mode s.held is.held;
        own = kept-own (is_medium_of is_normal l.media s.medium) s.medium s.held is.own;
        autoreset = is.autoreset;
      }

  kept-stands : (upper : List NamedSlot) (port : ℕ) (normal : Bool) (h : Held) → IsTrue (is_held_over (images_of l) upper port h)
      → IsTrue (is_held_over (images_of l) upper port (held_in_snapshot normal h))
  kept-stands upper port true Direct stands = refl
  kept-stands upper port false Direct stands = refl
  kept-stands upper port normal (Own n) stands = stands
  kept-stands upper port normal Base stands = refl

  -- its places are ones below the same snapshot
  kept-under : (upper slots : List NamedSlot) → AreSlotsUnder (images_of l) false upper slots
      → AreSlotsUnder (images_of l) true upper (map (place_of_slot l.media) slots)
  kept-under upper slots is = record {
    valid = record {
      ports = kept-ports slots 0 is.valid.ports;
      different = kept-different slots is.valid.different;
      each = All-of_map (place_of_slot l.media) (IsNamedSlot (images_of l) true) slots (All-map _ _ kept-place slots is.valid.each);
    };
    stacked = All-of_map (place_of_slot l.media) (λ (s : NamedSlot). IsTrue (is_stacked (images_of l) upper s)) slots
        (All-map _ _ (λ s x. kept-stands upper s.port (is_medium_of is_normal l.media s.medium) s.held x) slots is.stacked);
    inherits = All-map _ _ (λ s x normal.
        any_map (place_of_slot l.media) (λ (t : NamedSlot). t.port == s.port && bytes_eq t.medium s.medium) slots ∙ x normal) upper is.inherits;
  }

-- a snapshot holds the inner images that the slots hold
kept-number : (n : ℕ) (normal : Bool) (medium : Name) (h : Held)
    → is_held (OfInner n) medium (held_in_snapshot normal h) ≡ is_held (OfInner n) medium h
kept-number n true medium Direct = refl
kept-number n false medium Direct = refl
kept-number n normal medium (Own i) = refl
kept-number n normal medium Base = refl

kept-not-direct : (c : Bool) (h : Held) → c ≡ true → is_held_directly (held_in_snapshot c h) ≡ false
kept-not-direct true Direct e = refl
kept-not-direct true (Own i) e = refl
kept-not-direct true Base e = refl
kept-not-direct false h e = absurd cc

All-from_map : {X Y : Type 0} (f : X → Y) (P : Y → Type 0) (xs : List X) → AllByRecursion P (map f xs) → AllByRecursion (λ x. P (f x)) xs
All-from_map f P [] all = tt
All-from_map f P (x ∷ xs) all = (all.0, All-from_map f P xs all.1)

-- ---- the machine after a snapshot is taken

module _ (l : NamedLibrary) (m : NamedMachine) (name : Name) (is : IsLibrary l) (plain : l.merging ≡ [])
    (there : find_by named_machine_name m.name l.machines ≡ Some m) (can : CanTake l m name) where
  abbrev slots : List NamedSlot
  slots = places_taken l m

  abbrev rs : List Renewal
  rs = map renewal_of slots

  abbrev edited : NamedMachine
  edited = machine_taken l m name

  abbrev after : NamedLibrary
  after = library_taken l m name

  abbrev fresh : List NamedSlot
  fresh = renewed_slots l.inner rs

  abbrev snapshot : NamedSnapshot
  snapshot = record { name = name; parent = m.current; slots = slots }

  abbrev upper : List NamedSlot
  upper = upper_places m.current m.snapshots

  ruled : IsMachine (images_of l) m
  ruled = All-find named_machine_name (IsMachine (images_of l)) m.name m l.machines is.machines there

  placed : AreSlotsUnder (images_of l) true upper slots
  placed = kept-under l upper m.slots ruled.slots

  slots-staying : AllByRecursion (OfPlace (Remains l none_gone)) slots
  slots-staying = places-map (HasImage l) (Remains l none_gone) (stays-all l) slots (All-map _ _ (place-listed l true) slots placed.valid.each)

  renewal : IsRenewal l none_gone rs
  renewal = record {
    inners = is.inners;
    closed = All-every _ (λ x stays. closed-all x.parent) l.inners;
    over = parents-over (Remains l none_gone) slots l.inner slots-staying;
  }

  parents : AllByRecursion (λ (x : NamedInner). IsParent l.media (reverse l.inners) x.parent) (new_inners l.inner rs)
  parents = parents-over (IsParent l.media (reverse l.inners)) slots l.inner (All-map _ _ (place-parent l) slots placed.valid.each)

  -- the places of a snapshot that was there
  named-other : (o : Option Name) → IfSome o (Has (map named_branch m.snapshots))
      → upper_places o (put_by named_snapshot_name snapshot m.snapshots) ≡ upper_places o m.snapshots
  named-other None has = refl
  named-other (Some p) has = ap places_of_some (find_put_other named_snapshot_name p snapshot m.snapshots
      (false_from_ne_true (bytes_eq name p) (λ same.
      let old : has_name named_snapshot_name p m.snapshots ≡ true =
      sym (has_map named_branch named_snapshot_name branch_name (λ s. refl) p m.snapshots) ∙ has in
      let clash : true ≡ false = sym old ∙ ap (λ x. has_name named_snapshot_name x m.snapshots) (sym (same_name name p same))
      ∙ can.new in absurd cc)))

  named-new : upper_places (Some name) (put_by named_snapshot_name snapshot m.snapshots) ≡ slots
  named-new = ap places_of_some (find_put_same named_snapshot_name snapshot m.snapshots (absent named_snapshot_name name m.snapshots can.new))

  -- places below ones that are the same after
  under-again : (up below : List NamedSlot) → up ≡ below → (ss : List NamedSlot) → AllByRecursion (OfPlace (Remains l none_gone)) ss
      → AreSlotsUnder (images_of l) true below ss → AreSlotsUnder (images_of after) true up ss
  under-again up below same ss stays of =
      subst (λ u. AreSlotsUnder (images_of after) true u ss) (sym same) (under-rule l none_gone rs edited renewal plain true below ss stays of)

  old-snapshot : (s : NamedSnapshot) → AllByRecursion (OfPlace (HasImage l)) s.slots → IfSome s.parent (Has (map named_branch m.snapshots))
      → IsSnapshotOf (images_of l) m s → IsSnapshotOf (images_of after) edited s
  old-snapshot s listed parent of = record {
    name = of.name;
    places = under-again _ _ (named-other s.parent parent) s.slots
        (places-map (HasImage l) (Remains l none_gone) (stays-all l) s.slots listed) of.places;
  }

  new-snapshot : IsSnapshotOf (images_of after) edited snapshot
  new-snapshot = record { name = can.short; places = under-again _ _ (named-other m.current ruled.tree.there) slots slots-staying placed }

  tree-after : IsTree (map named_branch edited.snapshots) (Some name)
  tree-after =
      let none : find_by branch_name name (map named_branch m.snapshots) ≡ None =
      find_map named_branch named_snapshot_name branch_name (λ s. refl) name m.snapshots
      ∙ ap (option_map named_branch) (absent named_snapshot_name name m.snapshots can.new) in
      subst (λ branches. IsTree branches (Some name)) (sym (put_map named_branch named_snapshot_name branch_name (λ s. refl) snapshot m.snapshots))
      (tree_put (map named_branch m.snapshots) m.current (named_branch snapshot) ruled.tree refl none)

  machine-after : IsMachine (images_of after) edited
  machine-after = record {
    name = ruled.name;
    tree = tree-after;
    slots = subst (λ u. AreSlotsUnder (images_of after) false u fresh) (sym named-new)
        (over-under l none_gone edited slots renewal plain placed.valid parents);
    snapshots = All-put named_snapshot_name _ snapshot m.snapshots new-snapshot
        (All-join _ _ _ (λ s listed both. old-snapshot s listed both.0 both.1) m.snapshots (machine-listed l m ruled).1
        (All-both _ (IsSnapshotOf (images_of l) m) m.snapshots (All-from_map named_branch _ m.snapshots ruled.tree.parents) ruled.snapshots));
  }

  -- ---- counts

  abbrev snap_count : (NamedSlot → Bool) → NamedMachine → ℕ
  snap_count test n = sum_by (λ (s : NamedSnapshot). count_by test s.slots) n.snapshots

  edited-places : (test : NamedSlot → Bool) → count_in_machine test edited ≡ count_by test fresh + (count_by test slots + snap_count test m)
  edited-places test = ap (λ n. count_by test fresh + n) (sum_put named_snapshot_name
      (λ (s : NamedSnapshot). count_by test s.slots) snapshot m.snapshots)

  kept-count : (n : ℕ) → count_by (holds (OfInner n)) slots ≡ count_by (holds (OfInner n)) m.slots
  kept-count n = count-map (holds (OfInner n)) (place_of_slot l.media) m.slots
      ∙ count-same (λ s. holds (OfInner n) (place_of_slot l.media s)) (holds (OfInner n)) m.slots
      (All-every _ (λ s. kept-number n (is_medium_of is_normal l.media s.medium) s.medium s.held) m.slots)

  held-old : (n : ℕ) → n < l.inner → none_gone n ≡ false → count_in_machine (holds (OfInner n)) edited ≡ count_in_machine (holds (OfInner n)) m
  held-old n lt stays = omega (arith, none-number slots n l.inner lt, kept-count n, edited-places (holds (OfInner n)))

  -- a number that was not drawn was in no slot of the machine
  held-new : AllByRecursion (λ (x : NamedInner). count_in_machine (holds (OfInner x.number)) edited ≡ 1) (new_inners l.inner rs)
  held-new = All-join _ _ _ (λ x le once.
      let test = holds (OfInner x.number) in
      let mine = none-of-old l none_gone rs m edited is plain there test (nowhere test l (unheld-machines l is x.number le)) in
      omega (arith, once, mine, kept-count x.number, edited-places test))
      (new_inners l.inner rs) (new-from rs l.inner l.inner (omega arith)) (over-once slots l.inner)

  -- ---- media

  module _ (n : Medium) (on : find_by medium_entry_name n.name l.media ≡ Some n) (normal : is_normal n.mode ≡ true) where
    abbrev base : NamedSlot → Bool
    base = holds (OfMedium n.name)

    abbrev direct : NamedSlot → Bool
    direct = has_directly n.name

    -- a slot of the medium is of a normal one
    normal-slot : (s : NamedSlot) → bytes_eq s.medium n.name ≡ true → is_medium_of is_normal l.media s.medium ≡ true
    normal-slot s same = ap (λ x. is_medium_of is_normal l.media x) (same_name s.medium n.name same) ∙ ap (has_mode is_normal) on ∙ normal

    -- a snapshot does not share it
    kept-apart : (s : NamedSlot) → direct (place_of_slot l.media s) ≡ false
    kept-apart s = elim (cases_Bool (bytes_eq s.medium n.name)) [
      | inl same ↦
          let none = kept-not-direct (is_medium_of is_normal l.media s.medium) s.held (normal-slot s same) in
          rw none (and_right (bytes_eq s.medium n.name) false refl)
      | inr other ↦ rw other refl
    ]

    each-apart : AllByRecursion (λ (s : NamedSlot). direct s ≡ false) slots
    each-apart = All-of_map (place_of_slot l.media) (λ s. direct s ≡ false) m.slots (All-every _ kept-apart m.slots)

    -- nor does the machine then
    edited-direct : count_in_machine direct edited ≡ 0
    edited-direct =
        let new = none-over direct slots l.inner (All-map _ _ (λ s e d. e) slots each-apart)
        (λ i s le. and_right (bytes_eq s.medium n.name) false refl) in
        omega (arith, new, zero-count direct slots each-apart, snaps-direct l n on normal m ruled, edited-places direct)

    edited-base : count_in_machine base edited ≡ count_by base slots + snap_count base m
    edited-base = omega (arith, edited-places base, none-base slots n.name l.inner)

    -- ---- where something stood on it

    module _ (based : IsBasedOnce l.machines l.merging n) where
      apart-slots : AllByRecursion (λ (s : NamedSlot). direct s ≡ false) m.slots
      apart-slots = (All-find named_machine_name (OfSlots (λ s. direct s ≡ false)) m.name m l.machines (none-placed direct l based.nowhere) there).0

      kept-base : (s : NamedSlot) (c : Bool) (h : Held) → s.held ≡ h → direct s ≡ false
          → is_held (OfMedium n.name) s.medium (held_in_snapshot c h) ≡ is_held (OfMedium n.name) s.medium h
      kept-base s true Direct e apart =
          let b : (bytes_eq s.medium n.name && true) ≡ false = ap (λ h. bytes_eq s.medium n.name && is_held_directly h) (sym e) ∙ apart in
          name_sym n.name s.medium ∙ and_true (bytes_eq s.medium n.name) b
        where
          and_true : (t : Bool) → (t && true) ≡ false → t ≡ false
          and_true true e = e
          and_true false e = refl
      kept-base s false Direct e apart = refl
      kept-base s c (Own i) e apart = refl
      kept-base s c Base e apart = refl

      based-again : IsBasedOnce after.machines l.merging n
      based-again =
          let zero = none-of-old l none_gone rs m edited is plain there direct based.nowhere in
          let same : count_by base slots ≡ count_by base m.slots = count-map base (place_of_slot l.media) m.slots
          ∙ count-same (λ s. base (place_of_slot l.media s)) base m.slots
          (All-map _ _ (λ s apart. kept-base s (is_medium_of is_normal l.media s.medium) s.held refl apart) m.slots apart-slots) in
          record {
            nowhere = omega (arith, balance l none_gone rs m edited is plain there direct, edited-direct, zero, based.nowhere);
            once = omega (arith, balance l none_gone rs m edited is plain there base, edited-base, same, based.once);
          }

    -- ---- where nothing stood on it

    module _ (free : is_based l.inners l.machines n.name ≡ false) where
      no-base : count_in base l.machines ≡ 0
      no-base =
          let parts = or_parts (list_any (λ (x : NamedInner). is_image x.parent (OfMedium n.name)) l.inners)
          (nat_le 1 (count_in base l.machines)) free in
          omega (arith, leb-false 1 (count_in base l.machines) parts.1)

      old-base : count_in_machine base m ≡ 0
      old-base = none-of-old l none_gone rs m edited is plain there base no-base

      -- where the machine does not share it, nothing stands on it after
      free-again : list_any base slots ≡ false → is_based after.inners after.machines n.name ≡ false
      free-again none =
          let each = none_of_any base slots none in
          let zero = zero-count base slots each in
          free-still l none_gone rs m edited is plain there n.name free
          (parents-over (λ image. is_image image (OfMedium n.name) ≡ false) slots l.inner
          (All-map _ _ (λ s e. over-free n.name s.medium s.held e) slots each))
          (omega (arith, balance l none_gone rs m edited is plain there base, edited-base, zero, no-base, old-base))

      -- a medium stands in one slot at most
      base-once : (ss : List NamedSlot) → MediaDiffer ss → count_by base ss ≤ 1
      base-once [] different = omega arith
      base-once (s ∷ ss) different = elim (cases_Bool (base s)) [
        | inl here ↦
            let name_is : s.medium ≡ n.name = base-name n.name s.medium s.held here in
            let none : count_by base ss ≡ 0 = zero-count base ss (All-map _ _ (λ t apart.
            other-free n.name t.medium t.held (ap (λ x. bytes_eq t.medium x) (sym name_is) ∙ apart)) ss different.0) in
            rw (count-cons base s ss) (rw here (omega (arith, none)))
        | inr other ↦ rw (count-cons base s ss) (rw other (omega (arith, base-once ss different.1)))
      ]

      -- where the machine shares it, no other does
      abbrev NoOther : Name → Type 0
      NoOther medium = AllByRecursion (λ (y : NamedMachine). bytes_eq y.name m.name ≡ false → has_slot_of medium y.slots ≡ false) l.machines

      shared-by : (s : NamedSlot) (c : Bool) (h : Held) → is_medium_of is_normal l.media s.medium ≡ c → s.held ≡ h → IsNamedSlot (images_of l) false s
          → IsUnshared l m s → is_held (OfMedium n.name) s.medium (held_in_snapshot c h) ≡ true → NoOther n.name
      shared-by s true Direct e held of alone b = subst NoOther (base-name n.name s.medium Base b) (alone e held)
      shared-by s false Direct e held of alone b = absurd cc
      shared-by s c (Own i) e held of alone b = absurd cc
      shared-by s c Base e held of alone b =
          let may : IsTrue (may_hold false of.medium.mode Base) = sym (ap (may_hold false of.medium.mode) held) ∙ of.held in absurd cc

      some-shared : (ss : List NamedSlot) → AllByRecursion (IsNamedSlot (images_of l) false) ss → AllByRecursion (IsUnshared l m) ss
          → list_any base (map (place_of_slot l.media) ss) ≡ true → NoOther n.name
      some-shared [] of alone some = absurd cc
      some-shared (s ∷ ss) of alone some = elim (cases_Bool (base (place_of_slot l.media s))) [
        | inl here ↦ shared-by s (is_medium_of is_normal l.media s.medium) s.held refl refl of.0 alone.0 here
        | inr other ↦ some-shared ss of.1 alone.1 (rw other at some)
      ]

      unshared : (ss : List NamedSlot) → has_slot_of n.name ss ≡ false → count_by direct ss ≡ 0
      unshared ss none = zero-count direct ss (All-map _ _ (λ s e. rw e refl) ss (none_of_any (λ (s : NamedSlot). bytes_eq s.medium n.name) ss none))

      based-now : is_based after.inners after.machines n.name ≡ true → IsBasedOnce after.machines l.merging n
      based-now now =
          let some : list_any base slots ≡ true = elim (cases_Bool (list_any base slots)) [
            | inl yes_so ↦ yes_so
            | inr none ↦ let clash : true ≡ false = sym now ∙ free-again none in absurd cc
          ] in
          let others = some-shared m.slots ruled.slots.valid.each can.unshared some in
          let zeros : AllByRecursion (λ (y : NamedMachine). bytes_eq y.name m.name ≡ false → count_in_machine direct y ≡ 0) l.machines =
          All-join (IsMachine (images_of l)) _ _ (λ y of none other.
          let own = unshared y.slots (none other) in let snaps =
          snaps-direct l n on normal y of in omega (arith, own, snaps)) l.machines is.machines others in
          let only : count_in direct l.machines ≡ count_in_machine direct m = sum_alone named_machine_name (count_in_machine direct) m.name m l.machines there is.machines_rise zeros in
          let least = any-count base slots some in
          let most = base-once slots placed.valid.different in
          let none : mergings_into (OfMedium n.name) l.merging ≡ 0 = ap (mergings_into (OfMedium n.name)) plain in
          record {
            nowhere = omega (arith, balance l none_gone rs m edited is plain there direct, edited-direct, only);
            once = omega (arith, balance l none_gone rs m edited is plain there base, edited-base, least, most, no-base, old-base, none);
          }

  based-after : AllByRecursion (λ (n : Medium). IsTrue (is_normal n.mode) → IsTrue (is_based after.inners after.machines n.name)
      → IsBasedOnce after.machines l.merging n) l.media
  based-after = All-join _ _ _ (λ n on based normal now. elim (cases_Bool (is_based l.inners l.machines n.name)) [
    | inl was ↦ based-again n on normal (based normal was)
    | inr free ↦ based-now n on normal free now
  ]) l.media (each_found medium_entry_name l.media is.media_rise) is.based

  few-snapshots : named_snapshot_count after.machines ≤ SNAPSHOT_LIMIT
  few-snapshots =
      let both = sum_changed named_machine_name (λ (y : NamedMachine). length y.snapshots) m edited l.machines is.machines_rise there in
      let more : length edited.snapshots ≡ length m.snapshots + 1 = length-put named_snapshot_name snapshot m.snapshots in
      omega (arith, both, more, can.snapshots)

  few-places : named_place_count after.machines ≤ PLACE_LIMIT
  few-places =
      let f : NamedMachine → ℕ = λ y. sum_by (λ (s : NamedSnapshot). length s.slots) y.snapshots in
      let both = sum_changed named_machine_name f m edited l.machines is.machines_rise there in
      let more : f edited ≡ length slots + f m = sum_put named_snapshot_name (λ (s : NamedSnapshot). length s.slots) snapshot m.snapshots in
      let long = length-map m.slots (place_of_slot l.media) in
      omega (arith, both, more, long, can.places)

  pub taken_edit : IsRuledEdit l none_gone rs m edited
  taken_edit = record {
    there = there;
    renewal = renewal;
    parents = parents;
    drawn = can.drawn;
    machine = machine-after;
    others = All-map (IsMachine (images_of l)) _ (λ y of other. machine-map (HasImage l) (Remains l none_gone) (stays-all l) y
        (machine-listed l y of))
        l.machines is.machines;
    snapshots = few-snapshots;
    places = few-places;
    held = held-old;
    once = held-new;
    based = based-after;
  }

  -- A library after a snapshot is taken keeps the rules.
  pub taken_rules : IsLibrary after
  taken_rules = edited_rules l none_gone rs m edited is plain taken_edit

  pub taken_store : (a b : Files) → AreEdited l none_gone rs a b → IsStore l a → IsStore after b
  taken_store a b files store = edited_store l none_gone rs m edited is plain taken_edit a b files store
