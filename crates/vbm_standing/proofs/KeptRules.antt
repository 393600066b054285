-- The rules of a library after an edit of one machine: what the edit owes of that machine, so that all rules are kept.
use Rattle.std.proofs.Common.{[], ◌++◌, ◌+◌, ◌<◌, ◌∙◌, ◌∷◌, ◌≡◌, ◌≤◌, Bool, IsFalse, IsTrue, List, None, Option, Some, ap, append_assoc, arith, cond, false, inl, inr, leb-false, length, not, refl, reverse, subst, sym, true, ℕ}
use Rattle.std.specs.List.{AllByRecursion, list_any}
use Rattle.std.specs.Prelude.{◌==◌, count_by, nat_le, sum_by}
use Rattle.std.specs.Str.{bytes_eq}
use Rattle.std.proofs.lemmas.Bool.{and_right, cases_Bool, cond_both, eqb-true, lt-leb, ne_eqb, not-true, or_from, or_parts, or_right}
use Rattle.std.proofs.lemmas.List.{length-map}
use Rattle.std.proofs.lemmas.List.Folds.{list_any-append}
use Rattle.std.proofs.lemmas.Slice.Eq.{bytes_eq-Decides}
use Rattle.vbm_ports.specs.Files.{Files}
use Rattle.vbm_ids.specs.declared.TheConstants.{NUMBER_LIMIT}
use Rattle.vbm_modes.specs.declared.Mode.{Mode}
use Rattle.vbm_modes.specs.declared.Mode.TheVariants.{Immutable, MultiAttach, Normal, Readonly, Writethrough}
use Rattle.vbm_machines.specs.declared.Held.{Held}
use Rattle.vbm_machines.specs.declared.Held.TheVariants.{Base, Direct, Own}
use Rattle.vbm_named.proofs.Lists.{All-find, All-join, All-map, All-of_map, any_none, name_sym, none_of_any, rises_map}
use Rattle.vbm_named.specs.Names.{Name, find_by}
use Rattle.vbm_world.specs.World.{is_normal}
use Rattle.vbm_world.specs.declared.limits.TheConstants.{PLACE_LIMIT, SNAPSHOT_LIMIT}
use Rattle.vbm_registry.proofs.Counts.{sum-zero, sum_changed, zero-count, zero-sum}
use Rattle.vbm_registry.proofs.InnerCounts.{in_bound}
use Rattle.vbm_registry.proofs.ListLaws.{All-append, All-of_reverse, All-reverse, reverse-cons}
use Rattle.vbm_registry.specs.Chains.{is_image, medium_below, merging_into, parent_in, parent_of}
use Rattle.vbm_registry.specs.Entries.{inners_left}
use Rattle.vbm_registry.specs.Held.{may_hold}
use Rattle.vbm_registry.specs.Library.{medium_entry_name}
use Rattle.vbm_registry.specs.Named.{ImageName, ListedImages, NamedInner, NamedLibrary, NamedMachine, NamedMerging, NamedSlot, NamedSnapshot, OfInner, OfMedium, images_of, named_machine_name}
use Rattle.vbm_registry.specs.Rules.{AreInners, AreNamedSlots, AreSlotsUnder, IsBasedOnce, IsDrawn, IsHeldOnce, IsLibrary, IsMachine, IsMerging, IsNamedSlot, IsOwnOf, IsParent, IsSnapshotOf, count_in, count_in_machine, has_directly, has_number, holds, is_based, is_held, is_held_directly, is_held_over, is_parent_above, is_stacked, is_stacked_on, mergings_into, named_place_count, named_snapshot_count, upper_places}
use Rattle.vbm_registry.specs.declared.media.Medium.{Medium}
use Rattle.vbm_standing.proofs.ChainFrames.{IsRenewal, Remains, chain-stays, from, in-under, in_parts, new-from}
use Rattle.vbm_standing.proofs.ChainLaws.{AreClosed}
use Rattle.vbm_standing.proofs.EditedStores.{All-filter, store-renewed}
use Rattle.vbm_standing.proofs.FrozenMedia.{OfSlots}
use Rattle.vbm_standing.proofs.LeafImages.{each-parent, nowhere}
use Rattle.vbm_standing.proofs.PlacesHeld.{machine-listed}
use Rattle.vbm_standing.proofs.WorldParts.{OfHeld, OfMachine, OfPlace}
use Rattle.vbm_standing.specs.EditedFiles.{AreEdited, HasImage, IsStaying}
use Rattle.vbm_standing.specs.Edits.{Keep, Renew, Renewal, new_inners, renewal_count, renewed_library}
use Rattle.vbm_standing.specs.Faults.{IsStore}

-- ---- inner images

module _ (media : List Medium) where
  weaker : (bound more : ℕ) (xs : List NamedInner) → bound ≤ more → AreInners media bound xs → AreInners media more xs
  weaker bound more [] le are = tt
  weaker bound more (x ∷ xs) le are = (omega (arith, le, are.0), are.1, are.2)

  module _ (gone : ℕ → Bool) where
    number-staying : (xs : List NamedInner) (n : ℕ) → IsFalse (gone n) → has_number n xs ≡ true → has_number n (inners_left gone xs) ≡ true
    number-staying [] n here there = there
    number-staying (x ∷ xs) n here there = elim (cases_Bool (x.number == n)) [
      | inl same ↦
          let stays : gone x.number ≡ false = ap gone (eqb-true x.number n same) ∙ here in
          rw (stays, same) refl
      | inr other ↦
          let rest = number-staying xs n here (rw other at there) in
          cond_both (not (gone x.number)) (x ∷ inners_left gone xs) (inners_left gone xs) (λ l. has_number n l ≡ true)
          (λ e. or_right (x.number == n) _ rest) (λ e. rest)
    ]

    parent-staying : (xs : List NamedInner) (image : ImageName) → IsStaying gone image → IsParent media xs image
        → IsParent media (inners_left gone xs) image
    parent-staying xs (OfMedium name) stays is = is
    parent-staying xs (OfInner n) stays is = number-staying xs n stays is

    inners-staying : (bound : ℕ) (xs : List NamedInner) → AreClosed gone xs → AreInners media bound xs → AreInners media bound (inners_left gone xs)
    inners-staying bound [] closed are = tt
    inners-staying bound (x ∷ xs) closed are =
        let rest = inners-staying x.number xs closed.1 are.2 in
        cond_both (not (gone x.number)) (x ∷ inners_left gone xs) (inners_left gone xs) (AreInners media bound)
        (λ e. (are.0, parent-staying xs x.parent (closed.0 (not-true (gone x.number) e)) are.1, rest))
        (λ e. weaker x.number bound (inners_left gone xs) (omega (arith, are.0)) rest)

  parent-more : (x : NamedInner) (xs : List NamedInner) (image : ImageName) → IsParent media xs image → IsParent media (x ∷ xs) image
  parent-more x xs (OfMedium name) is = is
  parent-more x xs (OfInner n) is = or_right (x.number == n) (has_number n xs) is

  inners-new : (rs : List Renewal) (n : ℕ) (xs : List NamedInner) → AreInners media n xs
      → AllByRecursion (λ (y : NamedInner). IsParent media xs y.parent) (new_inners n rs)
      → AreInners media (n + renewal_count rs) (reverse (new_inners n rs) ++ xs)
  inners-new [] n xs are parents = weaker n (n + 0) xs (omega arith) are
  inners-new (Keep s ∷ rs) n xs are parents = inners-new rs n xs are parents
  inners-new (Renew s over ∷ rs) n xs are parents =
      let x : NamedInner = record { number = n; parent = over } in
      let rest = new_inners (n + 1) rs in
      let more = inners-new rs (n + 1) (x ∷ xs) (omega arith, parents.0, are) (All-map _ _ (λ y is. parent-more x xs y.parent is) rest parents.1) in
      subst (λ l. AreInners media (n + (renewal_count rs + 1)) l)
      (sym (append_assoc (reverse rest) (x ∷ []) xs) ∙ ap (λ l. l ++ xs) (sym (reverse-cons x rest)))
      (weaker (n + 1 + renewal_count rs) (n + (renewal_count rs + 1)) (reverse rest ++ x ∷ xs) (omega arith) more)

-- what an inner image stands on
parent-after : (gone : ℕ → Bool) (xs : List NamedInner) (n : ℕ) → IsFalse (gone n) → parent_in (inners_left gone xs) n ≡ parent_in xs n
parent-after gone [] n here = refl
parent-after gone (x ∷ xs) n here = elim (cases_Bool (gone x.number)) [
  | inl goes ↦
      let other : (x.number == n) ≡ false = ne_eqb x.number n (λ same. let no : false ≡ true = sym here ∙ ap gone (sym same) ∙ goes in absurd cc) in
      rw (goes, other) (parent-after gone xs n here)
  | inr stays ↦ elim (cases_Bool (x.number == n)) [
    | inl same ↦ rw (stays, same) refl
    | inr other ↦ rw (stays, other) (parent-after gone xs n here)
  ]
]

parent-new : (ys xs : List NamedInner) (bound n : ℕ) → AllByRecursion (λ (y : NamedInner). bound ≤ y.number) ys → n < bound
    → parent_in (ys ++ xs) n ≡ parent_in xs n
parent-new [] xs bound n from lt = refl
parent-new (y ∷ ys) xs bound n from lt =
    let other : (y.number == n) ≡ false = ne_eqb y.number n (λ same. omega (arith, from.0)) in
    rw other (parent-new ys xs bound n from.1 lt)

All-right : {X : Type 0} (P : X → Type 0) (xs ys : List X) → AllByRecursion P (xs ++ ys) → AllByRecursion P ys
All-right P [] ys all = all
All-right P (x ∷ xs) ys all = All-right P xs ys all.1

module _ (l : NamedLibrary) (gone : ℕ → Bool) (rs : List Renewal) (m : NamedMachine) (is : IsRenewal l gone rs) where
  abbrev k : NamedLibrary
  k = renewed_library l gone rs m

  -- the inner images after the edit
  pub inners-after : AllByRecursion (λ (x : NamedInner). IsParent l.media (reverse l.inners) x.parent) (new_inners l.inner rs)
      → AreInners l.media k.inner (reverse k.inners)
  inners-after parents =
      let listed = reverse l.inners in
      subst (AreInners l.media (l.inner + renewal_count rs)) (sym (in_parts l gone rs m is))
      (inners-new l.media rs l.inner (inners_left gone listed)
      (inners-staying l.media gone l.inner listed (All-reverse _ l.inners is.closed) is.inners)
      (All-join _ _ _ (λ x stays parent. parent-staying l.media gone listed x.parent stays.1 parent) (new_inners l.inner rs) is.over parents))

  -- the parents of the new ones
  pub new-parents : AllByRecursion (λ (x : NamedInner). IsParent l.media (reverse l.inners) x.parent) (new_inners l.inner rs)
      → AllByRecursion (λ (x : NamedInner). parent_of k.inners x.number ≡ Some x.parent) (new_inners l.inner rs)
  new-parents parents =
      All-right _ (inners_left gone l.inners) (new_inners l.inner rs)
      (All-of_reverse _ k.inners (each-parent k.media k.inner (reverse k.inners) (inners-after parents)))

  pub parent-stays : (n : ℕ) → Remains l gone (OfInner n) → parent_of k.inners n ≡ parent_of l.inners n
  parent-stays n stays =
      ap (λ xs. parent_in xs n) (in_parts l gone rs m is)
      ∙ parent-new (reverse (new_inners l.inner rs)) (inners_left gone (reverse l.inners)) l.inner n (from l gone rs m is)
      (in-under l.media l.inner (reverse l.inners) (OfInner n) is.inners stays.0)
      ∙ parent-after gone (reverse l.inners) n stays.1

-- ---- slots whose images stay

module _ (l : NamedLibrary) (gone : ℕ → Bool) (rs : List Renewal) (m : NamedMachine) (is : IsRenewal l gone rs) (plain : l.merging ≡ []) where
  abbrev after : ListedImages
  after = images_of (renewed_library l gone rs m)

  own-rule : (medium : Name) (h : Held) → OfHeld (Remains l gone) medium h → IsOwnOf l.inners medium h → IsOwnOf after.inners medium h
  own-rule medium Direct stays own = tt
  own-rule medium (Own n) stays own = ap medium_below (chain-stays l gone rs m is (OfInner n) stays) ∙ own
  own-rule medium Base stays own = tt

  pub slot-rule : (of_snapshot : Bool) (s : NamedSlot) → OfPlace (Remains l gone) s → IsNamedSlot (images_of l) of_snapshot s
      → IsNamedSlot after of_snapshot s
  slot-rule of_snapshot s stays of = record {
    medium = of.medium;
    there = of.there;
    held = of.held;
    own = own-rule s.medium s.held stays of.own;
    autoreset = of.autoreset;
  }

  pub slots-rule : (of_snapshot : Bool) (slots : List NamedSlot) → AllByRecursion (OfPlace (Remains l gone)) slots
      → AreNamedSlots (images_of l) of_snapshot slots → AreNamedSlots after of_snapshot slots
  slots-rule of_snapshot slots stays of = record {
    ports = of.ports;
    different = of.different;
    each = All-join _ _ _ (slot-rule of_snapshot) slots stays of.each;
  }

  -- where nothing is merged
  stacked-plain : (upper : List NamedSlot) (port child : ℕ) (o : Option ImageName)
      → is_stacked_on after upper port child o ≡ is_stacked_on (images_of l) upper port child o
  stacked-plain upper port child None = refl
  stacked-plain upper port child (Some image) =
      ap (λ js. is_parent_above after upper port child image (merging_into image js)) plain
      ∙ sym (ap (λ js. is_parent_above (images_of l) upper port child image (merging_into image js)) plain)

  stacked-held : (upper : List NamedSlot) (port : ℕ) (medium : Name) (h : Held) → OfHeld (Remains l gone) medium h
      → IsTrue (is_held_over (images_of l) upper port h) → IsTrue (is_held_over after upper port h)
  stacked-held upper port medium Direct stays stands = refl
  stacked-held upper port medium (Own n) stays stands =
      stacked-plain upper port n (parent_of after.inners n) ∙ ap (is_stacked_on (images_of l) upper port n) (parent-stays l gone rs m is n stays)
      ∙ stands
  stacked-held upper port medium Base stays stands = refl

  pub stacked-rule : (upper slots : List NamedSlot) → AllByRecursion (OfPlace (Remains l gone)) slots
      → AllByRecursion (λ (s : NamedSlot). IsTrue (is_stacked (images_of l) upper s)) slots
      → AllByRecursion (λ (s : NamedSlot). IsTrue (is_stacked after upper s)) slots
  stacked-rule upper slots stays stands = All-join _ _ _ (λ s x y. stacked-held upper s.port s.medium s.held x y) slots stays stands

  pub under-rule : (of_snapshot : Bool) (upper slots : List NamedSlot) → AllByRecursion (OfPlace (Remains l gone)) slots
      → AreSlotsUnder (images_of l) of_snapshot upper slots → AreSlotsUnder after of_snapshot upper slots
  under-rule of_snapshot upper slots stays of = record {
    valid = slots-rule of_snapshot slots stays of.valid;
    stacked = stacked-rule upper slots stays of.stacked;
    inherits = of.inherits;
  }

  -- the snapshots of a machine
  pub snapshots-rule : (n : NamedMachine) → AllByRecursion (λ (s : NamedSnapshot). AllByRecursion (OfPlace (Remains l gone)) s.slots) n.snapshots
      → IsMachine (images_of l) n → AllByRecursion (IsSnapshotOf after n) n.snapshots
  snapshots-rule n stays of = All-join _ (IsSnapshotOf (images_of l) n) _ (λ s x y. record {
    name = y.name;
    places = under-rule true (upper_places s.parent n.snapshots) s.slots x y.places;
  }) n.snapshots stays of.snapshots

  -- a machine whose images stay
  pub machine-rule : (n : NamedMachine) → OfMachine (Remains l gone) n → IsMachine (images_of l) n → IsMachine after n
  machine-rule n stays of = record {
    name = of.name;
    tree = of.tree;
    slots = under-rule false (upper_places n.current n.snapshots) n.slots stays.0 of.slots;
    snapshots = snapshots-rule n stays.1 of;
  }

-- ---- slots of machines and places of snapshots, by the modes of media

-- the medium's own image is held by snapshots alone
pub slot-free : (name medium : Name) (h : Held) (mode : Mode) → IsTrue (may_hold false mode h) → is_held (OfMedium name) medium h ≡ false
slot-free name medium Direct mode may = refl
slot-free name medium (Own i) mode may = refl
slot-free name medium Base mode may = absurd cc

-- where the medium has another name, the slot does not hold its image
pub other-free : (name medium : Name) (h : Held) → bytes_eq medium name ≡ false → is_held (OfMedium name) medium h ≡ false
other-free name medium Direct apart = refl
other-free name medium (Own i) apart = refl
other-free name medium Base apart = name_sym name medium ∙ apart

-- a slot that holds the medium's image is of the medium
pub base-name : (name medium : Name) (h : Held) → is_held (OfMedium name) medium h ≡ true → medium ≡ name
base-name name medium Direct held = absurd cc
base-name name medium (Own i) held = absurd cc
base-name name medium Base held = sym ((bytes_eq-Decides name medium).0 held)

-- no image over what such a slot holds stands on the medium
pub over-free : (name medium : Name) (h : Held) → is_held (OfMedium name) medium h ≡ false
    → OfHeld (λ image. is_image image (OfMedium name) ≡ false) medium h
over-free name medium Direct none = tt
over-free name medium (Own i) none = refl
over-free name medium Base none = name_sym medium name ∙ none

-- a snapshot's place of a normal medium is not shared
snap-held : (h : Held) (mode : Mode) → is_normal mode ≡ true → IsTrue (may_hold true mode h) → is_held_directly h ≡ false
snap-held Direct Normal normal may = absurd cc
snap-held Direct Immutable normal may = absurd cc
snap-held Direct Writethrough normal may = absurd cc
snap-held Direct Readonly normal may = absurd cc
snap-held Direct MultiAttach normal may = absurd cc
snap-held (Own i) mode normal may = refl
snap-held Base mode normal may = refl

module _ (l : NamedLibrary) (n : Medium) (on : find_by medium_entry_name n.name l.media ≡ Some n) where
  -- the medium of a slot with its name
  pub medium-is : (of_snapshot : Bool) (s : NamedSlot) (is : IsNamedSlot (images_of l) of_snapshot s) → bytes_eq s.medium n.name ≡ true
      → is.medium ≡ n
  medium-is of_snapshot s is same =
      let name_is : s.medium ≡ n.name = (bytes_eq-Decides s.medium n.name).0 same in
      let both : Some is.medium ≡ Some n = sym is.there ∙ ap (λ y. find_by medium_entry_name y l.media) name_is ∙ on in cc

  pub snap-apart : is_normal n.mode ≡ true → (s : NamedSlot) → IsNamedSlot (images_of l) true s → has_directly n.name s ≡ false
  snap-apart normal s is = elim (cases_Bool (bytes_eq s.medium n.name)) [
    | inl same ↦
        let mode : is_normal is.medium.mode ≡ true = ap (λ (y : Medium). is_normal y.mode) (medium-is true s is same) ∙ normal in
        let none = snap-held s.held is.medium.mode mode is.held in
        rw none (and_right (bytes_eq s.medium n.name) false refl)
    | inr other ↦ rw other refl
  ]

  -- of all snapshots of a machine
  pub snaps-direct : is_normal n.mode ≡ true → (y : NamedMachine) → IsMachine (images_of l) y
      → sum_by (λ (s : NamedSnapshot). count_by (has_directly n.name) s.slots) y.snapshots ≡ 0
  snaps-direct normal y of = zero-sum (λ (s : NamedSnapshot). count_by (has_directly n.name) s.slots) y.snapshots
      (All-map (IsSnapshotOf (images_of l) y) _ (λ s rules. zero-count (has_directly n.name) s.slots
      (All-map _ _ (snap-apart normal) s.slots rules.places.valid.each)) y.snapshots of.snapshots)

-- no slot of a machine holds the medium's own image
pub slots-base : (l : NamedLibrary) (name : Name) (slots : List NamedSlot) → AllByRecursion (IsNamedSlot (images_of l) false) slots
    → AllByRecursion (λ (s : NamedSlot). holds (OfMedium name) s ≡ false) slots
slots-base l name slots all = All-map (IsNamedSlot (images_of l) false) _ (λ s x. slot-free name s.medium s.held x.medium.mode x.held) slots all

-- ---- numbers that were not drawn

module _ (l : NamedLibrary) (is : IsLibrary l) (n : ℕ) (le : l.inner ≤ n) where
  unheld : (medium : Name) (h : Held) → OfHeld (HasImage l) medium h → is_held (OfInner n) medium h ≡ false
  unheld medium Direct listed = refl
  unheld medium (Own i) listed =
      let lt = in-under l.media l.inner (reverse l.inners) (OfInner i) is.inners listed in ne_eqb n i (λ same. omega (arith, le, lt, same))
  unheld medium Base listed = refl

  pub unheld-slots : (ss : List NamedSlot) → AllByRecursion (OfPlace (HasImage l)) ss
      → AllByRecursion (λ (s : NamedSlot). holds (OfInner n) s ≡ false) ss
  unheld-slots ss all = All-map _ _ (λ s listed. unheld s.medium s.held listed) ss all

  pub unheld-machines : AllByRecursion (OfSlots (λ s. holds (OfInner n) s ≡ false)) l.machines
  unheld-machines = All-map (IsMachine (images_of l)) _ (λ y of.
      let listed = machine-listed l y of in
      (unheld-slots y.slots listed.0, All-map _ _ (λ s on. unheld-slots s.slots on) y.snapshots listed.1)) l.machines is.machines

-- ---- an edit of a machine

-- A machine in the place of one of its name keeps the rules, and those of others rest on images that stay. Its slots and snapshots hold listed
-- images as the old one's, and each new image once.
pub record IsRuledEdit (l : NamedLibrary) (gone : ℕ → Bool) (rs : List Renewal) (old new : NamedMachine) : Type 0 where
  pub there : find_by named_machine_name new.name l.machines ≡ Some old
  pub renewal : IsRenewal l gone rs
  pub parents : AllByRecursion (λ (x : NamedInner). IsParent l.media (reverse l.inners) x.parent) (new_inners l.inner rs)
  pub drawn : l.inner + renewal_count rs ≤ NUMBER_LIMIT
  pub machine : IsMachine (images_of (renewed_library l gone rs new)) new
  pub others : AllByRecursion (λ (n : NamedMachine). bytes_eq n.name new.name ≡ false → OfMachine (Remains l gone) n) l.machines
  pub snapshots : named_snapshot_count (renewed_library l gone rs new).machines ≤ SNAPSHOT_LIMIT
  pub places : named_place_count (renewed_library l gone rs new).machines ≤ PLACE_LIMIT
  pub held : (n : ℕ) → n < l.inner → gone n ≡ false → count_in_machine (holds (OfInner n)) new ≡ count_in_machine (holds (OfInner n)) old
  pub once : AllByRecursion (λ (x : NamedInner). count_in_machine (holds (OfInner x.number)) new ≡ 1) (new_inners l.inner rs)
  pub based : AllByRecursion (λ (n : Medium). IsTrue (is_normal n.mode)
      → IsTrue (is_based (renewed_library l gone rs new).inners (renewed_library l gone rs new).machines n.name)
      → IsBasedOnce (renewed_library l gone rs new).machines l.merging n) l.media

-- The machine holds the medium's own image as before, and no new image stands on it.
pub record KeepsBase (l : NamedLibrary) (rs : List Renewal) (old new : NamedMachine) (n : Medium) : Type 0 where
  pub bases : count_in_machine (holds (OfMedium n.name)) new ≡ count_in_machine (holds (OfMedium n.name)) old
  pub direct : IsBasedOnce l.machines l.merging n → count_in_machine (has_directly n.name) new ≤ count_in_machine (has_directly n.name) old
  pub free : is_based l.inners l.machines n.name ≡ false
      → AllByRecursion (λ (x : NamedInner). is_image x.parent (OfMedium n.name) ≡ false) (new_inners l.inner rs)

module _ (l : NamedLibrary) (gone : ℕ → Bool) (rs : List Renewal) (old new : NamedMachine) (is : IsLibrary l) (plain : l.merging ≡ [])
    (there : find_by named_machine_name new.name l.machines ≡ Some old) where
  abbrev later : NamedLibrary
  later = renewed_library l gone rs new

  -- how many slots pass a test after, and before
  pub balance : (test : NamedSlot → Bool) → count_in test later.machines + count_in_machine test old
      ≡ count_in test l.machines + count_in_machine test new
  balance test = sum_changed named_machine_name (count_in_machine test) old new l.machines is.machines_rise there

  -- what is zero in all machines is in the old one
  pub none-of-old : (test : NamedSlot → Bool) → count_in test l.machines ≡ 0 → count_in_machine test old ≡ 0
  none-of-old test zero =
      All-find named_machine_name (λ y. count_in_machine test y ≡ 0) new.name old l.machines (sum-zero (count_in_machine test) l.machines zero) there

  pub same-sum : (f : NamedMachine → ℕ) → f new ≡ f old → sum_by f later.machines ≡ sum_by f l.machines
  same-sum f e = omega (arith, sum_changed named_machine_name f old new l.machines is.machines_rise there, e)

  -- where the snapshots stay as they are
  pub same-snapshots : new.snapshots ≡ old.snapshots
      → (named_snapshot_count later.machines ≤ SNAPSHOT_LIMIT) × (named_place_count later.machines ≤ PLACE_LIMIT)
  same-snapshots same = (
    subst (λ n. n ≤ SNAPSHOT_LIMIT) (sym (same-sum (λ y. length y.snapshots) (ap length same))) is.few_snapshots,
    subst (λ n. n ≤ PLACE_LIMIT) (sym (same-sum (λ y. sum_by (λ (t : NamedSnapshot). length t.slots) y.snapshots)
        (ap (sum_by (λ (t : NamedSnapshot). length t.slots)) same))) is.few_places,
  )

  -- ---- media on which something stands

  abbrev stand_on : Name → List NamedInner → Bool
  stand_on name inners = list_any (λ (x : NamedInner). is_image x.parent (OfMedium name)) inners

  -- Nothing stands on a medium on which nothing stood, no new image does, and no snapshot holds it after.
  pub free-still : (name : Name) → is_based l.inners l.machines name ≡ false
      → AllByRecursion (λ (x : NamedInner). is_image x.parent (OfMedium name) ≡ false) (new_inners l.inner rs)
      → count_in (holds (OfMedium name)) later.machines ≡ 0 → is_based later.inners later.machines name ≡ false
  free-still name free apart zero =
      let parts = or_parts (stand_on name l.inners) (nat_le 1 (count_in (holds (OfMedium name)) l.machines)) free in
      let now = any_none (λ (x : NamedInner). is_image x.parent (OfMedium name)) (new_inners l.inner rs) apart in
      let before = any_none (λ (x : NamedInner). is_image x.parent (OfMedium name)) (inners_left gone l.inners)
      (All-filter _ (λ (x : NamedInner). not (gone x.number)) l.inners (All-map _ _ (λ x e so. e) l.inners (none_of_any _ l.inners parts.0))) in
      or_from (stand_on name later.inners) (nat_le 1 (count_in (holds (OfMedium name)) later.machines))
      (list_any-append (λ (x : NamedInner). is_image x.parent (OfMedium name)) (inners_left gone l.inners) (new_inners l.inner rs)
      ∙ rw (before, now) refl)
      (lt-leb 1 (count_in (holds (OfMedium name)) later.machines) (omega (arith, zero)))

  pub based-still : (n : Medium) → (IsTrue (is_based l.inners l.machines n.name) → IsBasedOnce l.machines l.merging n) → KeepsBase l rs old new n
      → IsTrue (is_based later.inners later.machines n.name) → IsBasedOnce later.machines l.merging n
  based-still n based keeps now = elim (cases_Bool (is_based l.inners l.machines n.name)) [
    | inl was ↦
        let before = based was in
        record {
          nowhere = omega (arith, balance (has_directly n.name), before.nowhere, keeps.direct before);
          once = omega (arith, balance (holds (OfMedium n.name)), before.once, keeps.bases);
        }
    | inr free ↦
        let parts = or_parts (stand_on n.name l.inners) (nat_le 1 (count_in (holds (OfMedium n.name)) l.machines)) free in
        let zero = leb-false 1 (count_in (holds (OfMedium n.name)) l.machines) parts.1 in
        let none : count_in (holds (OfMedium n.name)) later.machines ≡ 0 = omega (arith, zero, balance (holds (OfMedium n.name)), keeps.bases) in
        let clash : true ≡ false = sym now ∙ free-still n.name free (keeps.free free) none in absurd cc
  ]

  pub all-based : AllByRecursion (λ (n : Medium). IsTrue (is_normal n.mode) → KeepsBase l rs old new n) l.media
      → AllByRecursion (λ (n : Medium). IsTrue (is_normal n.mode) → IsTrue (is_based later.inners later.machines n.name)
      → IsBasedOnce later.machines l.merging n) l.media
  all-based keeps = All-join _ _ _ (λ n based keep normal now. based-still n (based normal) (keep normal) now) l.media is.based keeps

-- ---- the rules

module _ (l : NamedLibrary) (gone : ℕ → Bool) (rs : List Renewal) (old new : NamedMachine) (is : IsLibrary l) (plain : l.merging ≡ [])
    (edit : IsRuledEdit l gone rs old new) where
  abbrev edited : NamedLibrary
  edited = renewed_library l gone rs new

  held-old : (n : ℕ) → n < l.inner → gone n ≡ false → IsHeldOnce l.machines l.merging (OfInner n) → IsHeldOnce edited.machines l.merging (OfInner n)
  held-old n lt stays once = omega (arith, once, balance l gone rs old new is plain edit.there (holds (OfInner n)), edit.held n lt stays)

  held-new : (n : ℕ) → l.inner ≤ n → count_in_machine (holds (OfInner n)) new ≡ 1 → IsHeldOnce edited.machines l.merging (OfInner n)
  held-new n le one =
      let test = holds (OfInner n) in
      let before = nowhere test l (unheld-machines l is n le) in
      let mine = none-of-old l gone rs old new is plain edit.there test before in
      let none : mergings_into (OfInner n) l.merging ≡ 0 = ap (mergings_into (OfInner n)) plain in
      omega (arith, before, mine, balance l gone rs old new is plain edit.there test, one, none)

  held-after : AllByRecursion (λ (x : NamedInner). IsHeldOnce edited.machines l.merging (OfInner x.number)) edited.inners
  held-after = All-append _ (inners_left gone l.inners) (new_inners l.inner rs)
      (All-filter (λ (x : NamedInner). IsHeldOnce edited.machines l.merging (OfInner x.number)) (λ (x : NamedInner). not (gone x.number)) l.inners
      (All-join (λ (x : NamedInner). IsHeldOnce l.machines l.merging (OfInner x.number)) (λ (x : NamedInner). x.number < l.inner) _
      (λ x once lt so. held-old x.number lt (not-true (gone x.number) so) once) l.inners is.held
      (All-of_reverse _ l.inners (in_bound l.media l.inner (reverse l.inners) is.inners))))
      (All-join (λ (x : NamedInner). l.inner ≤ x.number) (λ (x : NamedInner). count_in_machine (holds (OfInner x.number)) new ≡ 1) _
      (λ x le one. held-new x.number le one) (new_inners l.inner rs) (new-from rs l.inner l.inner (omega arith)) edit.once)

  keeps_name : (x : NamedMachine) → named_machine_name (cond (bytes_eq x.name new.name) new x) ≡ named_machine_name x
  keeps_name x = cond_both (bytes_eq x.name new.name) new x (λ y. y.name ≡ x.name) (λ e. sym ((bytes_eq-Decides x.name new.name).0 e)) (λ e. refl)

  machines-after : AllByRecursion (IsMachine (images_of edited)) edited.machines
  machines-after = All-of_map _ (IsMachine (images_of edited)) l.machines (All-join (IsMachine (images_of l)) _ _ (λ y x stays.
      cond_both (bytes_eq y.name new.name) new y (IsMachine (images_of edited)) (λ e. edit.machine)
      (λ e. machine-rule l gone rs new edit.renewal plain y (stays e) x)) l.machines is.machines edit.others)

  -- The library after the edit keeps the rules.
  pub edited_rules : IsLibrary edited
  edited_rules = record {
    seed = is.seed;
    next = is.next;
    inner = edit.drawn;
    few_media = is.few_media;
    few_machines = omega (arith, is.few_machines, length-map l.machines (λ x. cond (bytes_eq x.name new.name) new x));
    few_snapshots = edit.snapshots;
    few_places = edit.places;
    few_mergings = is.few_mergings;
    media_rise = is.media_rise;
    media = is.media;
    inners = inners-after l gone rs new edit.renewal edit.parents;
    machines_rise = rises_map (λ x. cond (bytes_eq x.name new.name) new x) named_machine_name named_machine_name keeps_name l.machines is.machines_rise;
    machines = machines-after;
    making = is.making;
    held = held-after;
    based = edit.based;
    merging = subst (AllByRecursion (IsMerging (images_of edited) edited.machines)) (sym plain) tt;
    drawn = subst (AllByRecursion (λ (j : NamedMerging). IsDrawn l.next edited.inner j.parent j.number)) (sym plain) tt;
  }

  -- The files after it are those of a store.
  pub edited_store : (a b : Files) → AreEdited l gone rs a b → IsStore l a → IsStore edited b
  edited_store a b files store = store-renewed l gone rs new a b
      (record { renewal = edit.renewal; same = files.same; made = files.made }) is.media files.media store
