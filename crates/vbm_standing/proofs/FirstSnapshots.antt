-- A frozen medium came into the snapshots of one machine, once: where a snapshot has it first, there stands the lowest image.
use Rattle.std.proofs.Common.{◌≡◌, ℕ, zero, suc, ◌+◌, ◌<◌, ◌≤◌, Bool, true, false, not, cond, ◌||◌, ◌&&◌, List, [], ◌∷◌, map, Option, Some, None, refl, sym, ap, ◌∙◌, arith, inl, inr, IsTrue, leb-false}
use Rattle.std.specs.Prelude.{◌==◌, find, count_by, sum_by, IfSome, nat_le}
use Rattle.std.specs.List.{AllByRecursion, list_any}
use Rattle.std.specs.Str.{bytes_eq}
use Rattle.std.proofs.lemmas.Bool.{cases_Bool, cond_both, or_parts, and_parts, not-true, eq-eqb}
use Rattle.std.proofs.lemmas.List.Sums.{sum_by-cons}
use Rattle.std.proofs.lemmas.Slice.Eq.{bytes_eq-Decides}
use Rattle.vbm_modes.specs.declared.Mode.{Mode}
use Rattle.vbm_modes.specs.declared.Mode.TheVariants.{Normal}
use Rattle.vbm_machines.specs.declared.Held.{Held}
use Rattle.vbm_machines.specs.declared.Held.TheVariants.{Direct, Own, Base}
use Rattle.vbm_named.specs.Names.{Name, find_by}
use Rattle.vbm_named.proofs.Lists.{name_sym, All-every, All-map, All-join, All-find, find_named, none_of_any}
use Rattle.vbm_world.specs.World.{is_normal}
use Rattle.vbm_registry.specs.declared.media.Medium.{Medium}
use Rattle.vbm_registry.specs.Library.{medium_entry_name}
use Rattle.vbm_registry.specs.Named.{ImageName, OfMedium, OfInner, NamedInner, NamedSlot, NamedSnapshot, NamedMachine, NamedMerging, NamedLibrary, images_of, named_snapshot_name, named_branch}
use Rattle.vbm_registry.specs.Chains.{is_image, merging_into}
use Rattle.vbm_registry.specs.Held.{may_hold}
use Rattle.vbm_registry.specs.Rules.{IsOwnOf, IsNamedSlot, places_of_some, upper_places, has_slot_at, is_held, holds, is_held_over, count_in, mergings_into, is_based, IsBasedOnce, IsMerging, IsSnapshotOf, IsMachine, IsLibrary}
use Rattle.vbm_standing.specs.Meaning.{has_slot_of, has_snapshot_of, is_frozen_in}
use Rattle.vbm_standing.proofs.FrozenMedia.{normal_is, unsnapped}
use Rattle.vbm_registry.proofs.Counts.{sum-zero, count-zero, any-count, zero-count, zero-sum}
use Rattle.vbm_standing.proofs.LeafImages.{named-all}
use Rattle.vbm_standing.proofs.StackedPlaces.{any-more, upper-has}
use Rattle.vbm_standing.proofs.StartedWorlds.{find-passes, find-has}

-- how many snapshots have a medium that their parent has not
abbrev pub is_first : Name → NamedMachine → NamedSnapshot → Bool
is_first name m s = has_slot_of name s.slots && not (has_slot_of name (upper_places s.parent m.snapshots))

abbrev pub first_in : Name → NamedMachine → ℕ
first_in name m = count_by (is_first name m) m.snapshots

-- ---- lists and sums

pub All-of_mapped : {X Y : Type 0} (f : X → Y) (P : Y → Type 0) (xs : List X) → AllByRecursion P (map f xs) → AllByRecursion (λ x. P (f x)) xs
All-of_mapped f P [] all = tt
All-of_mapped f P (x ∷ xs) all = (all.0, All-of_mapped f P xs all.1)

sum-le : {X : Type 0} (f g : X → ℕ) (xs : List X) → AllByRecursion (λ x. f x ≤ g x) xs → sum_by f xs ≤ sum_by g xs
sum-le f g [] all = omega arith
sum-le f g (x ∷ xs) all = let rest = sum-le f g xs all.1 in rw (sum_by-cons f x xs, sum_by-cons g x xs) (omega (arith, all.0, rest))

pub sum-plus : {X : Type 0} (f g : X → ℕ) (xs : List X) → sum_by (λ x. f x + g x) xs ≡ sum_by f xs + sum_by g xs
sum-plus f g [] = refl
sum-plus f g (x ∷ xs) =
    let rest = sum-plus f g xs in rw (sum_by-cons (λ y. f y + g y) x xs, sum_by-cons f x xs, sum_by-cons g x xs) (omega (arith, rest))

pub any-sum : {X : Type 0} (q : X → Bool) (f : X → ℕ) (xs : List X) → AllByRecursion (λ x. q x ≡ true → 1 ≤ f x) xs → list_any q xs ≡ true
    → 1 ≤ sum_by f xs
any-sum q f [] all any = absurd cc
any-sum q f (x ∷ xs) all any = elim (cases_Bool (q x)) [
  | inl here ↦ let one = all.0 here in rw (sum_by-cons f x xs) (omega (arith, one))
  | inr other ↦ let rest = any-sum q f xs all.1 (rw other at any) in rw (sum_by-cons f x xs) (omega (arith, rest))
]

pub any-gives : {X : Type 0} (q : X → Bool) (C : Type 0) (xs : List X) → AllByRecursion (λ x. q x ≡ true → C) xs → list_any q xs ≡ true → C
any-gives q C [] all any = absurd cc
any-gives q C (x ∷ xs) all any = elim (cases_Bool (q x)) [
  | inl here ↦ all.0 here
  | inr other ↦ any-gives q C xs all.1 (rw other at any)
]

or_one : (b c : Bool) → c ≡ true → (b || c) ≡ true
or_one true c e = refl
or_one false c e = e

pub each-any : {X : Type 0} (q : X → Bool) (xs : List X) → AllByRecursion (λ x. q x ≡ true → list_any q xs ≡ true) xs
each-any q [] = tt
each-any q (x ∷ xs) = ((λ e. rw e refl), All-map _ _ (λ y is e. or_one (q x) _ (is e)) xs (each-any q xs))

pub found-any : {X : Type 0} (p q : X → Bool) (x : X) (xs : List X) → find p xs ≡ Some x → q x ≡ true → list_any q xs ≡ true
found-any p q x [] found passes = absurd cc
found-any p q x (y ∷ ys) found passes = cond_both (p y) (Some y) (find p ys) (λ o. o ≡ Some x → (q y || list_any q ys) ≡ true)
    (λ t is. let same : y ≡ x = cc in let here : q y ≡ true = ap q same ∙ passes in rw here refl)
    (λ f is. or_one (q y) (list_any q ys) (found-any p q x ys is passes)) found

-- how many places of snapshots of a machine pass a test
abbrev pub place_count : (NamedSlot → Bool) → NamedMachine → ℕ
place_count test m = sum_by (λ (s : NamedSnapshot). count_by test s.slots) m.snapshots

abbrev pub slot_count : (NamedSlot → Bool) → NamedMachine → ℕ
slot_count test m = count_by test m.slots

-- ---- mergings

module _ (l : NamedLibrary) (is : IsLibrary l) (image : ImageName) (j : NamedMerging) (into : merging_into image l.merging ≡ Some j) where
  pub merging-rules : IsMerging (images_of l) l.machines j
  merging-rules = find-has (IsMerging (images_of l) l.machines) (λ (k : NamedMerging). is_image k.parent image) j l.merging is.merging into

  pub merging-parent : is_image j.parent image ≡ true
  merging-parent = find-passes (λ (k : NamedMerging). is_image k.parent image) j l.merging into

  merging-counted : 1 ≤ mergings_into image l.merging
  merging-counted = any-count (λ (k : NamedMerging). is_image k.parent image) l.merging
      (found-any (λ (k : NamedMerging). is_image k.parent image) (λ (k : NamedMerging). is_image k.parent image) j l.merging into merging-parent)

-- a place holds the image that is merged into a medium's own
abbrev holds_merged : Option NamedMerging → NamedSlot → Bool
holds_merged None s = false
holds_merged (Some j) s = holds (OfInner j.child) s

module _ (l : NamedLibrary) (is : IsLibrary l) (n : Medium) (on : find_by medium_entry_name n.name l.media ≡ Some n)
    (normal : is_normal n.mode ≡ true) where
  abbrev own_image : NamedSlot → Bool
  own_image = holds (OfMedium n.name)

  abbrev merged : NamedSlot → Bool
  merged = holds_merged (merging_into (OfMedium n.name) l.merging)

  -- ---- a snapshot that has the medium first holds its file, or what is merged into it

  direct_not : (mode : Mode) → mode ≡ Normal → may_hold true mode Direct ≡ true → ⊥
  direct_not mode e may = let no : false ≡ true = rw e at may in absurd cc

  module _ (m : NamedMachine) (of : IsMachine (images_of l) m) where
    at-has : (port : ℕ) (slots : List NamedSlot) → has_slot_at port n.name slots ≡ true → has_slot_of n.name slots ≡ true
    at-has port slots at = any-more _ _ slots (All-every _ (λ t e. (and_parts (t.port == port) (bytes_eq t.medium n.name) e).1) slots) at

    upper-slots : (o : Option Name) → AllByRecursion (IsNamedSlot (images_of l) true) (upper_places o m.snapshots)
    upper-slots o = named-all (IsNamedSlot (images_of l) true) o m.snapshots
        (All-map _ _ (λ s rules. rules.places.valid.each) m.snapshots of.snapshots)

    abbrev is_lowest : NamedSlot → Bool
    is_lowest s = own_image s || merged s

    place-lowest : (upper : List NamedSlot) → AllByRecursion (IsNamedSlot (images_of l) true) upper → has_slot_of n.name upper ≡ false
        → (s : NamedSlot) (h : Held) → s.held ≡ h → IsNamedSlot (images_of l) true s → is_held_over (images_of l) upper s.port h ≡ true
        → IsOwnOf l.inners s.medium h → bytes_eq s.medium n.name ≡ true → is_lowest s ≡ true
    place-lowest upper places none s h e rules stands own same = by h e stands own
      where
        name_is : s.medium ≡ n.name
        name_is = (bytes_eq-Decides s.medium n.name).0 same

        medium_is : rules.medium ≡ n
        medium_is = let both : Some rules.medium ≡ Some n = sym rules.there ∙ ap (λ x. find_by medium_entry_name x l.media) name_is ∙ on in cc

        mode_is : rules.medium.mode ≡ Normal
        mode_is = ap (λ (x : Medium). x.mode) medium_is ∙ normal_is n.mode normal

        by : (h : Held) → s.held ≡ h → is_held_over (images_of l) upper s.port h ≡ true → IsOwnOf l.inners s.medium h → is_lowest s ≡ true
        by Direct e stands own = absurd (direct_not rules.medium.mode mode_is (sym (ap (may_hold true rules.medium.mode) e) ∙ rules.held))
        by (Own i) e stands own = elim (upper-has l is upper s.port i n.name n on normal (own ∙ ap Some name_is) places stands) [
          | inl at ↦ let clash : true ≡ false = sym (at-has s.port upper at) ∙ none in absurd cc
          | inr down ↦ or_one (own_image s) (merged s)
              (ap (λ o. holds_merged o s) down.into ∙ ap (is_held (OfInner down.merging.child) s.medium) e ∙ eq-eqb down.merging.child i down.child)
        ]
        by Base e stands own =
            let here : own_image s ≡ true = ap (is_held (OfMedium n.name) s.medium) e ∙ name_sym n.name s.medium ∙ same in rw here refl

    first-lowest : (s : NamedSnapshot) → IsSnapshotOf (images_of l) m s
        → cond (is_first n.name m s) 1 0 ≤ count_by own_image s.slots + count_by merged s.slots
    first-lowest s rules = elim (cases_Bool (is_first n.name m s)) [
      | inl first ↦
          let parts = and_parts (has_slot_of n.name s.slots) (not (has_slot_of n.name (upper_places s.parent m.snapshots))) first in
          let none = not-true _ parts.1 in
          let some = any-more (λ (t : NamedSlot). bytes_eq t.medium n.name) is_lowest s.slots (All-join (IsNamedSlot (images_of l) true) _ _
          (λ t place stands same. place-lowest (upper_places s.parent m.snapshots) (upper-slots s.parent) none t t.held refl place stands place.own
          same)
          s.slots rules.places.valid.each rules.places.stacked) parts.0 in
          let one = any-either s.slots some in
          rw first (omega (arith, one))
      | inr other ↦ rw other (omega arith)
    ]
      where
        any-either : (slots : List NamedSlot) → list_any is_lowest slots ≡ true → 1 ≤ count_by own_image slots + count_by merged slots
        any-either slots some = elim (cases_Bool (list_any own_image slots)) [
          | inl own ↦ let one = any-count own_image slots own in omega (arith, one)
          | inr none ↦
              let later = any-more is_lowest merged slots
              (All-map _ _ (λ t e both. or_right (own_image t) (merged t) e both) slots (none_of_any own_image slots none)) some in
              let one = any-count merged slots later in omega (arith, one)
        ]
          where
            or_right : (b c : Bool) → b ≡ false → (b || c) ≡ true → c ≡ true
            or_right true c none both = let clash : true ≡ false = none in absurd cc
            or_right false c none both = both

    -- ---- where a snapshot has it, some had it first

    depth : Name → ℕ
    depth = of.tree.depth

    HasFirst : ℕ → NamedSnapshot → Type 0
    HasFirst d s = depth s.name < d → has_slot_of n.name s.slots ≡ true → 1 ≤ first_in n.name m

    found-first : (d : ℕ) → AllByRecursion (HasFirst d) m.snapshots → (p : Name) (o : Option NamedSnapshot)
        → find_by named_snapshot_name p m.snapshots ≡ o → depth p < d
        → has_slot_of n.name (places_of_some o) ≡ true → 1 ≤ first_in n.name m
    unfolding HasFirst
    found-first d before p None e lt has = absurd cc
    found-first d before p (Some t) e lt has =
        let name_is : t.name ≡ p = (bytes_eq-Decides t.name p).0 (find_named named_snapshot_name p t m.snapshots e) in
        let same : depth t.name ≡ depth p = ap depth name_is in
        All-find named_snapshot_name (HasFirst d) p t m.snapshots before e (omega (arith, same, lt)) has

    above-first : (d : ℕ) → AllByRecursion (HasFirst d) m.snapshots → (s : NamedSnapshot) (o : Option Name) → IfSome o (λ p. depth p < depth s.name)
        → depth s.name < suc d → has_slot_of n.name (upper_places o m.snapshots) ≡ true → 1 ≤ first_in n.name m
    above-first d before s None deep lt has = absurd cc
    above-first d before s (Some p) deep lt has =
        found-first d before p (find_by named_snapshot_name p m.snapshots) refl (omega (arith, deep, lt)) has

    one-more : (d : ℕ) → AllByRecursion (HasFirst d) m.snapshots → (s : NamedSnapshot)
        → (is_first n.name m s ≡ true → list_any (is_first n.name m) m.snapshots ≡ true)
        → IfSome s.parent (λ p. depth p < depth s.name) → HasFirst (suc d) s
    unfolding HasFirst
    one-more d before s counted deep lt has = elim (cases_Bool (has_slot_of n.name (upper_places s.parent m.snapshots))) [
      | inl above ↦ above-first d before s s.parent deep lt above
      | inr none ↦ any-count (is_first n.name m) m.snapshots (counted (rw (has, none) refl))
    ]

    go : (d : ℕ) → AllByRecursion (HasFirst d) m.snapshots
    unfolding HasFirst depth
    go zero = All-every _ (λ s lt has. absurd (omega (arith, lt))) m.snapshots
    go (suc d) = All-join _ _ _ (one-more d (go d)) m.snapshots (each-any (is_first n.name m) m.snapshots)
        (All-of_mapped named_branch _ m.snapshots of.tree.below)

    snapped-first : has_snapshot_of n.name m ≡ true → 1 ≤ first_in n.name m
    unfolding HasFirst
    snapped-first snapped = any-gives (λ (s : NamedSnapshot). has_slot_of n.name s.slots) (1 ≤ first_in n.name m) m.snapshots
        (All-depths m.snapshots (λ d. go d)) snapped
      where
        All-depths : (xs : List NamedSnapshot) → ((d : ℕ) → AllByRecursion (HasFirst d) xs)
            → AllByRecursion (λ (s : NamedSnapshot). has_slot_of n.name s.slots ≡ true → 1 ≤ first_in n.name m) xs
        All-depths [] all = tt
        All-depths (x ∷ xs) all = ((λ has. (all (suc (depth x.name))).0 (omega arith) has), All-depths xs (λ d. (all d).1))

  -- ---- once

  first-least : is_frozen_in l.machines n ≡ true → 1 ≤ sum_by (first_in n.name) l.machines
  first-least frozen =
      any-sum (has_snapshot_of n.name) (first_in n.name) l.machines
      (All-map (IsMachine (images_of l)) _ (λ m of so. snapped-first m of so) l.machines is.machines)
      (and_parts (is_normal n.mode) (list_any (has_snapshot_of n.name) l.machines) frozen).1

  first-most : sum_by (first_in n.name) l.machines ≤ sum_by (place_count own_image) l.machines + sum_by (place_count merged) l.machines
  first-most =
      let each = sum-le (first_in n.name) (λ m. place_count own_image m + place_count merged m) l.machines
      (All-map (IsMachine (images_of l)) _ (λ m of.
      let places = sum-le (λ (s : NamedSnapshot). cond (is_first n.name m s) 1 0)
      (λ (s : NamedSnapshot). count_by own_image s.slots + count_by merged s.slots) m.snapshots
      (All-map (IsSnapshotOf (images_of l) m) _ (first-lowest m of) m.snapshots of.snapshots) in
      let split = sum-plus (λ (s : NamedSnapshot). count_by own_image s.slots) (λ (s : NamedSnapshot). count_by merged s.slots) m.snapshots in
      omega (arith, places, split)) l.machines is.machines) in
      let all = sum-plus (place_count own_image) (place_count merged) l.machines in
      omega (arith, each, all)

  module _ (frozen : is_frozen_in l.machines n ≡ true) where
    based : IsBasedOnce l.machines l.merging n
    based =
        let snapped = (and_parts (is_normal n.mode) (list_any (has_snapshot_of n.name) l.machines) frozen).1 in
        let so : is_based l.inners l.machines n.name ≡ true = elim (cases_Bool (is_based l.inners l.machines n.name)) [
          | inl yes_so ↦ yes_so
          | inr none ↦
              let both = or_parts (list_any (λ (x : NamedInner). is_image x.parent (OfMedium n.name)) l.inners)
              (nat_le 1 (count_in own_image l.machines)) none in
              let free = unsnapped l n on normal (none_of_any _ l.inners both.0) is.machines
              (omega (arith, leb-false 1 (count_in own_image l.machines) both.1)) in
              let clash : true ≡ false = sym snapped ∙ free in absurd cc
        ] in
        All-find medium_entry_name
        (λ (x : Medium). IsTrue (is_normal x.mode) → IsTrue (is_based l.inners l.machines x.name) → IsBasedOnce l.machines l.merging x)
        n.name n l.media is.based on normal so

    split : (test : NamedSlot → Bool) → count_in test l.machines ≡ sum_by (slot_count test) l.machines + sum_by (place_count test) l.machines
    split test = sum-plus (slot_count test) (place_count test) l.machines

    -- the child of a merging into the medium is held by a snapshot
    merged-once : (o : Option NamedMerging) → merging_into (OfMedium n.name) l.merging ≡ o
        → (sum_by (place_count own_image) l.machines + sum_by (place_count (holds_merged o)) l.machines ≤ 1)
        × (IfSome o (λ j. sum_by (slot_count (holds (OfInner j.child))) l.machines ≡ 0))
    merged-once None e =
        let none = zero-sum (place_count (holds_merged None)) l.machines (All-every _ (λ m.
        zero-sum (λ (s : NamedSnapshot). count_by (holds_merged None) s.slots) m.snapshots (All-every _ (λ s.
        zero-count (holds_merged None) s.slots (All-every _ (λ t. refl) s.slots)) m.snapshots)) l.machines) in
        let parts = split own_image in
        (omega (arith, none, parts, based.once), tt)
    merged-once (Some j) e =
        let counted = merging-counted l is (OfMedium n.name) j e in
        let rules = merging-rules l is (OfMedium n.name) j e in
        let parts = split own_image in
        let child = split (holds (OfInner j.child)) in
        let least = first-least frozen in
        let most = first-most in
        let here : sum_by (place_count merged) l.machines ≡ sum_by (place_count (holds (OfInner j.child))) l.machines =
        ap (λ o. sum_by (place_count (holds_merged o)) l.machines) e in (
          omega (arith, parts, based.once, counted, child, rules.held),
          omega
              (arith, parts, based.once, counted, child, rules.held, least, most, here),
        )

  pub first-once : is_frozen_in l.machines n ≡ true → sum_by (first_in n.name) l.machines ≡ 1
  first-once frozen =
      let once = (merged-once frozen (merging_into (OfMedium n.name) l.merging) refl).0 in
      let least = first-least frozen in
      let most = first-most in
      omega (arith, once, least, most)

-- ---- media that are merged into

-- a normal medium that is merged into
pub record MergedMedium (l : NamedLibrary) : Type 0 where
  pub medium : Medium
  pub on : find_by medium_entry_name medium.name l.media ≡ Some medium
  pub normal : is_normal medium.mode ≡ true
  pub merging : NamedMerging
  pub into : merging_into (OfMedium medium.name) l.merging ≡ Some merging

-- where a machine's slot holds what is merged into it, it is not frozen
pub merged-free : (l : NamedLibrary) → IsLibrary l → (r : MergedMedium l)
    → AllByRecursion (λ (m : NamedMachine). AllByRecursion
    (λ (s : NamedSlot). holds (OfInner r.merging.child) s ≡ true → is_frozen_in l.machines r.medium ≡ false) m.slots) l.machines
merged-free l is r = elim (cases_Bool (is_frozen_in l.machines r.medium)) [
  | inl frozen ↦
      let none : sum_by (slot_count (holds (OfInner r.merging.child))) l.machines ≡ 0 =
      (merged-once l is r.medium r.on r.normal frozen (Some r.merging) r.into).1 in
      All-map _ _ (λ m zero. All-map _ _ (λ s no held. let clash : true ≡ false = sym held ∙ no in absurd cc) m.slots
      (count-zero (holds (OfInner r.merging.child)) m.slots zero)) l.machines
      (sum-zero (slot_count (holds (OfInner r.merging.child))) l.machines none)
  | inr free ↦ All-every _ (λ m. All-every _ (λ s held. free) m.slots) l.machines
]
