-- A machine is started: the library keeps its rules, and the files those of a store.
use Rattle.std.proofs.Common.{[], ◌&&◌, ◌+◌, ◌<◌, ◌||◌, ◌∙◌, ◌∷◌, ◌≡◌, ◌≤◌, Bool, IsFalse, IsTrue, List, None, Option, Some, ap, arith, cond, false, is_some, map, not, refl, reverse, subst, sym, true, ℕ}
use Rattle.std.specs.List.{AllByRecursion, list_any}
use Rattle.std.specs.Prelude.{◌==◌, count_by, filter, find}
use Rattle.std.specs.Str.{bytes_eq}
use Rattle.std.proofs.lemmas.Bool.{and_parts, and_right, cond_both, eq-eqb, false_from_ne_true, ne_eqb, or_right}
use Rattle.vbm_ports.specs.Files.{Files}
use Rattle.vbm_ids.specs.declared.TheConstants.{NUMBER_LIMIT}
use Rattle.vbm_modes.specs.Modes.{is_own, is_reset}
use Rattle.vbm_modes.specs.declared.Mode.{Mode}
use Rattle.vbm_modes.specs.declared.Mode.TheVariants.{Immutable, MultiAttach, Normal, Readonly, Writethrough}
use Rattle.vbm_machines.specs.declared.Held.{Held}
use Rattle.vbm_machines.specs.declared.Held.TheVariants.{Base, Direct, Own}
use Rattle.vbm_named.proofs.Lists.{All-both, All-every, All-find, All-join, All-map, each_found, has_found, none_of_any, same_name}
use Rattle.vbm_named.specs.Names.{Name, find_by}
use Rattle.vbm_world.specs.World.{is_layered, is_normal}
use Rattle.vbm_registry.proofs.Counts.{count-cons, split_count, zero-count}
use Rattle.vbm_registry.specs.Chains.{chain_of, is_image, medium_below, merging_into, parent_of}
use Rattle.vbm_registry.specs.Library.{medium_entry_name}
use Rattle.vbm_registry.specs.Named.{ImageName, ListedImages, NamedInner, NamedLibrary, NamedMachine, NamedSlot, NamedSnapshot, OfInner, OfMedium, images_of, named_machine_name}
use Rattle.vbm_registry.specs.Rules.{AreNamedSlots, IsLibrary, IsMachine, IsNamedSlot, IsOwnOf, IsParent, IsSnapshotOf, MediaDiffer, PortsRise, count_in_machine, has_directly, has_mode, has_slot_at, holds, is_above, is_held, is_parent_above, is_stacked, is_stacked_on, upper_places}
use Rattle.vbm_registry.specs.declared.media.Medium.{Medium}
use Rattle.vbm_standing.proofs.ChainFrames.{IsRenewal, Remains, chain-new, new-from}
use Rattle.vbm_standing.proofs.EditedStores.{All-filter}
use Rattle.vbm_standing.proofs.KeptRules.{IsRuledEdit, KeepsBase, all-based, edited_rules, edited_store, medium-is, new-parents, none-of-old, same-snapshots, slot-rule, slots-base, snapshots-rule, stacked-rule, unheld-machines, unheld-slots}
use Rattle.vbm_standing.proofs.LeafImages.{going-own, leaves-closed, left-stay, named-all, nowhere, others-stay, snaps-stay}
use Rattle.vbm_standing.proofs.PlacesHeld.{machine-both, machine-listed, places-both}
use Rattle.vbm_standing.proofs.StartedWorlds.{find-has, find-passes, parents-some, unfilter}
use Rattle.vbm_standing.proofs.WorldParts.{OfHeld, OfMachine, OfPlace}
use Rattle.vbm_standing.specs.EditedFiles.{AreEdited, HasImage, IsStaying}
use Rattle.vbm_standing.specs.Edits.{Renewal, image_held, image_of_place, is_place_like, is_reset_at_start, library_started, new_inners, own_in, renewal_at_start, renewal_count, renewal_if, renewed_slots, reset_image}
use Rattle.vbm_standing.specs.Faults.{IsStore}

-- ---- slots of which some are renewed

module _ (test : NamedSlot → Bool) (over : NamedSlot → ImageName) where
  abbrev some : NamedSlot → Renewal
  some s = renewal_if (test s) s (over s)

  -- a property of each slot after, from one of each slot before
  slot-if : (P : NamedSlot → Type 0) (c : Bool) (s : NamedSlot) (image : ImageName) (rs : List Renewal) (n : ℕ) → (c ≡ false → P s)
      → (c ≡ true → P (record s { held = Own n }))
      → ((m : ℕ) → n ≤ m → AllByRecursion P (renewed_slots m rs)) → AllByRecursion P (renewed_slots n (renewal_if c s image ∷ rs))
  slot-if P true s image rs n keep new next = (new refl, next (n + 1) (omega arith))
  slot-if P false s image rs n keep new next = (keep refl, next n (omega arith))

  some-all : (P : NamedSlot → Type 0) (slots : List NamedSlot) (n : ℕ)
      → AllByRecursion (λ s. (test s ≡ false → P s) × (test s ≡ true → (i : ℕ) → n ≤ i → P (record s { held = Own i }))) slots
      → AllByRecursion P (renewed_slots n (map some slots))
  some-all P [] n all = tt
  some-all P (s ∷ slots) n all = slot-if P (test s) s (over s) (map some slots) n all.0.0 (λ e. all.0.1 e n (omega arith))
      (λ m le. some-all P slots m (All-map _ _ (λ t both. (both.0, λ e i lt. both.1 e i (omega (arith, le, lt)))) slots all.1))

  ports-if : (c : Bool) (s : NamedSlot) (image : ImageName) (rs : List Renewal) (n low : ℕ) → low ≤ s.port
      → ((m : ℕ) → PortsRise (s.port + 1) (renewed_slots m rs)) → PortsRise low (renewed_slots n (renewal_if c s image ∷ rs))
  ports-if true s image rs n low le next = (le, next (n + 1))
  ports-if false s image rs n low le next = (le, next n)

  some-ports : (slots : List NamedSlot) (n low : ℕ) → PortsRise low slots → PortsRise low (renewed_slots n (map some slots))
  some-ports [] n low rising = rising
  some-ports (s ∷ slots) n low rising = ports-if (test s) s (over s) (map some slots) n low rising.0 (λ m. some-ports slots m (s.port + 1) rising.1)

  different-if : (c : Bool) (s : NamedSlot) (image : ImageName) (rs : List Renewal) (n : ℕ)
      → ((m : ℕ) → AllByRecursion (λ (t : NamedSlot). IsFalse (bytes_eq t.medium s.medium)) (renewed_slots m rs) × MediaDiffer (renewed_slots m rs))
      → MediaDiffer (renewed_slots n (renewal_if c s image ∷ rs))
  different-if true s image rs n next = next (n + 1)
  different-if false s image rs n next = next n

  some-different : (slots : List NamedSlot) (n : ℕ) → MediaDiffer slots → MediaDiffer (renewed_slots n (map some slots))
  some-different [] n different = tt
  some-different (s ∷ slots) n different = different-if (test s) s (over s) (map some slots) n (λ m. (
    some-all (λ (t : NamedSlot). IsFalse (bytes_eq t.medium s.medium)) slots m (All-map _ _ (λ t e. ((λ c. e), (λ c i le. e))) slots different.0),
    some-different slots m different.1,
  ))

  at-if : (port : ℕ) (name : Name) (c : Bool) (s : NamedSlot) (image : ImageName) (rs : List Renewal) (slots : List NamedSlot) (n : ℕ)
      → ((m : ℕ) → has_slot_at port name (renewed_slots m rs) ≡ has_slot_at port name slots)
      → has_slot_at port name (renewed_slots n (renewal_if c s image ∷ rs)) ≡ has_slot_at port name (s ∷ slots)
  at-if port name true s image rs slots n next = ap (λ b. (s.port == port && bytes_eq s.medium name) || b) (next (n + 1))
  at-if port name false s image rs slots n next = ap (λ b. (s.port == port && bytes_eq s.medium name) || b) (next n)

  some-at : (port : ℕ) (name : Name) (slots : List NamedSlot) (n : ℕ)
      → has_slot_at port name (renewed_slots n (map some slots)) ≡ has_slot_at port name slots
  some-at port name [] n = refl
  some-at port name (s ∷ slots) n = at-if port name (test s) s (over s) (map some slots) slots n (λ m. some-at port name slots m)

  -- new images come with their slots
  new-if : (P : NamedSlot → Type 0) (Q : NamedInner → Type 0) (c : Bool) (s : NamedSlot) (image : ImageName) (rs : List Renewal) (n : ℕ)
      → (c ≡ false → P s) → (c ≡ true → Q (record { number = n; parent = image }) → P (record s { held = Own n }))
      → AllByRecursion Q (new_inners n (renewal_if c s image ∷ rs))
      → ((m : ℕ) → AllByRecursion Q (new_inners m rs) → AllByRecursion P (renewed_slots m rs))
      → AllByRecursion P (renewed_slots n (renewal_if c s image ∷ rs))
  new-if P Q true s image rs n keep new all next = (new refl all.0, next (n + 1) all.1)
  new-if P Q false s image rs n keep new all next = (keep refl, next n all)

  some-new : (P : NamedSlot → Type 0) (Q : NamedInner → Type 0) (slots : List NamedSlot) (n : ℕ)
      → AllByRecursion (λ s. (test s ≡ false → P s) × (test s ≡ true → (i : ℕ) → Q (record { number = i; parent = over s })
      → P (record s { held = Own i }))) slots
      → AllByRecursion Q (new_inners n (map some slots)) → AllByRecursion P (renewed_slots n (map some slots))
  some-new P Q [] n all news = tt
  some-new P Q (s ∷ slots) n all news =
      new-if P Q (test s) s (over s) (map some slots) n all.0.0 (λ e. all.0.1 e n) news (λ m q. some-new P Q slots m all.1 q)

  -- how many of them pass a test that no new image passes: those that are kept and pass it
  count-if : (p : NamedSlot → Bool) (c : Bool) (s : NamedSlot) (image : ImageName) (rs : List Renewal) (n k : ℕ)
      → (c ≡ true → p (record s { held = Own n }) ≡ false)
      → ((m : ℕ) → n ≤ m → count_by p (renewed_slots m rs) ≡ k)
      → count_by p (renewed_slots n (renewal_if c s image ∷ rs)) ≡ cond c 0 (cond (p s) 1 0) + k
  count-if p true s image rs n k none next =
      let no_one = none refl in
      count-cons p (record s { held = Own n }) (renewed_slots (n + 1) rs) ∙ rw no_one (omega (arith, next (n + 1) (omega arith)))
  count-if p false s image rs n k none next = count-cons p s (renewed_slots n rs) ∙ omega (arith, next n (omega arith))

  some-count : (p : NamedSlot → Bool) (slots : List NamedSlot) (n : ℕ)
      → AllByRecursion (λ s. test s ≡ true → (i : ℕ) → n ≤ i → p (record s { held = Own i }) ≡ false) slots
      → count_by p (renewed_slots n (map some slots)) ≡ count_by p (filter (λ s. not (test s)) slots)
  some-count p [] n none = refl
  some-count p (s ∷ slots) n none =
      count-if p (test s) s (over s) (map some slots) n (count_by p (filter (λ t. not (test t)) slots)) (λ e. none.0 e n (omega arith))
      (λ m le. some-count p slots m (All-map _ _ (λ t x e i lt. x e i (omega (arith, le, lt))) slots none.1))
      ∙ by_test (test s)
    where
      by_test : (c : Bool) → cond c 0 (cond (p s) 1 0) + count_by p (filter (λ t. not (test t)) slots)
          ≡ count_by p (cond (not c) (s ∷ filter (λ t. not (test t)) slots) (filter (λ t. not (test t)) slots))
      by_test true = omega arith
      by_test false = sym (count-cons p s (filter (λ t. not (test t)) slots))

  -- ---- each new image is held once, where no slot before held one of its number

  module _ (low : ℕ) (unheld : (n : ℕ) → low ≤ n → NamedSlot → Type 0)
      (apart : (n : ℕ) (le : low ≤ n) (s : NamedSlot) → unheld n le s → holds (OfInner n) s ≡ false) where
    abbrev IsOnce : List NamedSlot → NamedInner → Type 0
    IsOnce ss x = count_by (holds (OfInner x.number)) ss ≡ 1

    abbrev AreUnheld : List NamedSlot → Type 0
    AreUnheld ss = AllByRecursion (λ s. (n : ℕ) (le : low ≤ n) → unheld n le s) ss

    once-if : (c : Bool) (s : NamedSlot) (i : ImageName) (ss : List NamedSlot) (n : ℕ) → low ≤ n → AreUnheld (s ∷ ss)
        → AllByRecursion (IsOnce (renewed_slots n (map some ss))) (new_inners n (map some ss))
        → AllByRecursion (IsOnce (renewed_slots (n + 1) (map some ss))) (new_inners (n + 1) (map some ss))
        → AllByRecursion (IsOnce (renewed_slots n (renewal_if c s i ∷ map some ss))) (new_inners n (renewal_if c s i ∷ map some ss))
    once-if true s i ss n le off same next = (
      (let none = zero-count (holds (OfInner n)) (renewed_slots (n + 1) (map some ss))
          (some-all (λ (t : NamedSlot). holds (OfInner n) t ≡ false) ss (n + 1)
          (All-map _ _ (λ t is_off. ((λ e. apart n le t (is_off n le)), (λ e j lt. ne_eqb n j (λ eq. omega (arith, eq, lt))))) ss off.1)) in
          let here_it : (n == n) ≡ true = eq-eqb n n refl in
          count-cons (holds (OfInner n)) (record s { held = Own n }) (renewed_slots (n + 1) (map some ss)) ∙ rw here_it (omega (arith, none))),
      All-join _ _ _ (λ x more one.
          let other : (x.number == n) ≡ false = ne_eqb x.number n (λ eq. omega (arith, more, eq)) in
          count-cons (holds (OfInner x.number)) (record s { held = Own n }) (renewed_slots (n + 1) (map some ss)) ∙ rw other (omega (arith, one)))
          (new_inners (n + 1) (map some ss)) (new-from (map some ss) (n + 1) (n + 1) (omega arith)) next,
    )
    once-if false s i ss n le off same next = All-join _ _ _ (λ x more one.
        let far : low ≤ x.number = omega (arith, le, more) in
        let other = apart x.number far s (off.0 x.number far) in
        count-cons (holds (OfInner x.number)) s (renewed_slots n (map some ss)) ∙ rw other (omega (arith, one)))
        (new_inners n (map some ss)) (new-from (map some ss) n n (omega arith)) same

    some-once : (ss : List NamedSlot) (n : ℕ) → low ≤ n → AreUnheld ss
        → AllByRecursion (IsOnce (renewed_slots n (map some ss))) (new_inners n (map some ss))
    some-once [] n le off = tt
    some-once (s ∷ ss) n le off =
        once-if (test s) s (over s) ss n le off (some-once ss n le off.1) (some-once ss (n + 1) (omega (arith, le)) off.1)

-- what is found passes any test that it passes
find-any : {X : Type 0} (p q : X → Bool) (x : X) (xs : List X) → find p xs ≡ Some x → q x ≡ true → list_any q xs ≡ true
find-any p q x [] e is = absurd cc
find-any p q x (y ∷ ys) e is = cond_both (p y) (Some y) (find p ys) (λ o. o ≡ Some x → list_any q (y ∷ ys) ≡ true)
    (λ t found. let same : y ≡ x = cc in let here : q y ≡ true = ap q same ∙ is in rw here refl)
    (λ f found. or_right (q y) _ (find-any p q x ys found is)) e

reset_modes : (mode : Mode) (auto : Bool) → is_reset mode auto ≡ true → (is_own mode ≡ true) × (is_layered mode ≡ true) × (is_normal mode ≡ false)
reset_modes Normal auto e = absurd cc
reset_modes Immutable auto e = (refl, refl, refl)
reset_modes MultiAttach auto e = absurd cc
reset_modes Writethrough auto e = absurd cc
reset_modes Readonly auto e = absurd cc

-- ---- the library after it

module _ (l : NamedLibrary) (m : NamedMachine) (is : IsLibrary l) (plain : l.merging ≡ []) (there : find_by named_machine_name m.name l.machines
    ≡ Some m)
    (drawn : l.inner + renewal_count (map (renewal_at_start l.media (upper_places m.current m.snapshots)) m.slots) ≤ NUMBER_LIMIT) where
  abbrev resets : NamedSlot → Bool
  resets = is_reset_at_start l.media

  abbrev upper : List NamedSlot
  upper = upper_places m.current m.snapshots

  abbrev image : NamedSlot → ImageName
  image = reset_image upper

  abbrev rs : List Renewal
  rs = map (renewal_at_start l.media upper) m.slots

  abbrev gone : ℕ → Bool
  gone = own_in (filter resets m.slots)

  abbrev fresh : List NamedSlot
  fresh = renewed_slots l.inner rs

  abbrev edited : NamedMachine
  edited = record m { slots = fresh }

  abbrev after : NamedLibrary
  after = library_started l m

  of : (n : ℕ) → gone n ≡ true → own_in m.slots n ≡ true
  of = going-own l is plain m there resets

  ruled : IsMachine (images_of l) m
  ruled = All-find named_machine_name (IsMachine (images_of l)) m.name m l.machines is.machines there

  listed : OfMachine (HasImage l) m
  listed = machine-listed l m ruled

  snapshots-staying : AllByRecursion (λ (t : NamedSnapshot). AllByRecursion (OfPlace (Remains l gone)) t.slots) m.snapshots
  snapshots-staying = All-join _ _ _ (λ t on stays. places-both (HasImage l) (IsStaying gone) t.slots on stays) m.snapshots listed.1
      (All-find named_machine_name _ m.name m l.machines (snaps-stay l is plain m there gone of) there)

  upper-staying : AllByRecursion (OfPlace (Remains l gone)) upper
  upper-staying = named-all (OfPlace (Remains l gone)) m.current m.snapshots snapshots-staying

  upper-slots : AllByRecursion (IsNamedSlot (images_of l) true) upper
  upper-slots = named-all (IsNamedSlot (images_of l) true) m.current m.snapshots
      (All-map (IsSnapshotOf (images_of l) m) _ (λ s rules. rules.places.valid.each) m.snapshots ruled.snapshots)

  kept-staying : AllByRecursion (λ s. resets s ≡ false → OfPlace (Remains l gone) s) m.slots
  kept-staying = unfilter (OfPlace (Remains l gone)) resets m.slots
      (places-both (HasImage l) (IsStaying gone) (filter (λ s. not (resets s)) m.slots)
      (All-filter _ (λ s. not (resets s)) m.slots (All-map _ _ (λ s on so. on) m.slots listed.0)) (left-stay l is plain m there resets))

  -- ---- what a reset slot stands on

  module _ (s : NamedSlot) (place : IsNamedSlot (images_of l) false s) (resets_so : resets s ≡ true) where
    modes : (is_own place.medium.mode ≡ true) × (is_layered place.medium.mode ≡ true) × (is_normal place.medium.mode ≡ false)
    modes = reset_modes place.medium.mode s.autoreset (sym (ap (has_mode (λ mode. is_reset mode s.autoreset)) place.there) ∙ resets_so)

    here : HasImage l (OfMedium s.medium)
    here = has_found medium_entry_name s.medium l.media ∙ ap is_some place.there

    abbrev like_it : NamedSlot → Bool
    like_it = is_place_like s

    -- what holds of the medium's own image, and of what a place at the port of the medium holds
    image-is : (P : ImageName → Type 0) → P (OfMedium s.medium)
        → ((t : NamedSlot) (j : ℕ) → find like_it upper ≡ Some t → t.held ≡ Own j → P (OfInner j))
        → P (image s)
    image-is P own found = of_found (find like_it upper) refl
      where
        held : (t : NamedSlot) (h : Held) → find like_it upper ≡ Some t → t.held ≡ h → P (image_held s.medium h)
        held t Direct e is_held = own
        held t (Own j) e is_held = found t j e is_held
        held t Base e is_held = own

        of_found : (o : Option NamedSlot) → find like_it upper ≡ o → P (image_of_place s.medium o)
        of_found None e = own
        of_found (Some t) e = held t t.held e refl

    image-stays : Remains l gone (image s)
    image-stays = image-is (Remains l gone) (here, tt)
        (λ t j e h. subst (OfHeld (Remains l gone) t.medium) h (find-has (OfPlace (Remains l gone)) like_it t upper upper-staying e))

    image-parent : IsParent l.media (reverse l.inners) (image s)
    image-parent = image-is (IsParent l.media (reverse l.inners)) (ap (has_mode is_layered) place.there ∙ modes.1)
        (λ t j e h. (subst (OfHeld (Remains l gone) t.medium) h (find-has (OfPlace (Remains l gone)) like_it t upper upper-staying e)).0)

    passes : (t : NamedSlot) → find like_it upper ≡ Some t → ((t.port == s.port) ≡ true) × (bytes_eq t.medium s.medium ≡ true)
    passes t e = and_parts (t.port == s.port) (bytes_eq t.medium s.medium) (find-passes like_it t upper e)

    image-below : medium_below (chain_of l.inners (image s)) ≡ Some s.medium
    image-below = image-is (λ i. medium_below (chain_of l.inners i) ≡ Some s.medium) refl (λ t j e h.
        let name : t.medium ≡ s.medium = same_name t.medium s.medium (passes t e).1 in
        let rule = find-has (IsNamedSlot (images_of l) true) like_it t upper upper-slots e in
        subst (IsOwnOf l.inners t.medium) h rule.own ∙ ap Some name)

    image-under : is_above l.media upper s.port (image s) ≡ true
    image-under = image-is (λ i. is_above l.media upper s.port i ≡ true)
        (or_right (list_any (λ (t : NamedSlot). t.port == s.port && holds (OfMedium s.medium) t) upper) _ (ap (has_mode is_own) place.there
        ∙ modes.0))
        (λ t j e h.
        let port = (passes t e).0 in
        let held : holds (OfInner j) t ≡ true = ap (is_held (OfInner j) t.medium) h ∙ eq-eqb j j refl in
        let any = find-any like_it (λ (x : NamedSlot). x.port == s.port && holds (OfInner j) x) t upper e (rw (port, held) refl) in
        rw any refl)

  renewal : IsRenewal l gone rs
  renewal = record {
    inners = is.inners;
    closed = leaves-closed l is plain m there gone of;
    over = parents-some resets image (Remains l gone) m.slots l.inner
        (All-map (IsNamedSlot (images_of l) false) _ (λ s place so. image-stays s place so) m.slots ruled.slots.valid.each);
  }

  parents : AllByRecursion (λ (x : NamedInner). IsParent l.media (reverse l.inners) x.parent) (new_inners l.inner rs)
  parents = parents-some resets image (IsParent l.media (reverse l.inners)) m.slots l.inner
      (All-map (IsNamedSlot (images_of l) false) _ (λ s place so. image-parent s place so) m.slots ruled.slots.valid.each)

  -- ---- the machine

  new-place : (s : NamedSlot) (place : IsNamedSlot (images_of l) false s) (so : resets s ≡ true) (i : ℕ)
      → chain_of after.inners (OfInner i) ≡ OfInner i ∷ chain_of l.inners (image s) → IsNamedSlot (images_of after) false (record s { held = Own i })
  new-place s place so i chain = record {
    medium = place.medium;
    there = place.there;
    held = (modes s place so).1;
    own = ap medium_below chain ∙ image-below s place so;
    autoreset = place.autoreset;
  }

  slots-after : AreNamedSlots (images_of after) false fresh
  slots-after = record {
    ports = some-ports resets image m.slots l.inner 0 ruled.slots.valid.ports;
    different = some-different resets image m.slots l.inner ruled.slots.valid.different;
    each = some-new resets image (IsNamedSlot (images_of after) false)
        (λ x. chain_of after.inners (OfInner x.number) ≡ OfInner x.number ∷ chain_of l.inners x.parent) m.slots l.inner
        (All-join (IsNamedSlot (images_of l) false) _ _ (λ s place stays. (
          (λ e. slot-rule l gone rs edited renewal plain false s (stays e) place),
          (λ e i chain. new-place s place e i chain),
        )) m.slots ruled.slots.valid.each kept-staying) (chain-new l gone rs edited renewal);
  }

  new-stacked : (s : NamedSlot) (place : IsNamedSlot (images_of l) false s) (so : resets s ≡ true) (i : ℕ) → parent_of after.inners i ≡ Some (image s)
      → is_stacked_on (images_of after) upper s.port i (parent_of after.inners i) ≡ true
  new-stacked s place so i parent =
      ap (is_stacked_on (images_of after) upper s.port i) parent
      ∙ ap (λ js. is_parent_above (images_of after) upper s.port i (image s) (merging_into (image s) js)) plain
      ∙ image-under s place so

  abbrev IsStackedIn : ListedImages → NamedSlot → Type 0
  IsStackedIn images s = IsTrue (is_stacked images upper s)

  stacked-after : AllByRecursion (IsStackedIn (images_of after)) fresh
  stacked-after = some-new resets image (IsStackedIn (images_of after)) (λ x. parent_of after.inners x.number ≡ Some x.parent) m.slots l.inner
      (All-join _ _ _ (λ s both stays. (
        (λ e. (stacked-rule l gone rs edited renewal plain upper (s ∷ []) (stays e, tt) (both.1, tt)).0),
        (λ e i parent. new-stacked s both.0 e i parent),
      )) m.slots (All-both (IsNamedSlot (images_of l) false)
      (IsStackedIn (images_of l)) m.slots ruled.slots.valid.each ruled.slots.stacked) kept-staying)
      (new-parents l gone rs edited renewal parents)

  machine-after : IsMachine (images_of after) edited
  machine-after = record {
    name = ruled.name;
    tree = ruled.tree;
    slots = record {
      valid = slots-after;
      stacked = stacked-after;
      inherits = All-map _ _ (λ s x normal. some-at resets image s.port s.medium m.slots l.inner ∙ x normal) upper ruled.slots.inherits;
    };
    snapshots = All-map _ _ (λ t x. record { name = x.name; places = x.places }) m.snapshots
        (snapshots-rule l gone rs edited renewal plain m snapshots-staying ruled);
  }

  -- ---- counts

  held-old : (n : ℕ) → n < l.inner → gone n ≡ false → count_in_machine (holds (OfInner n)) edited ≡ count_in_machine (holds (OfInner n)) m
  held-old n lt stays =
      let test = holds (OfInner n) in
      let kept = some-count resets image test m.slots l.inner (All-every _ (λ s e i le. ne_eqb n i (λ same. omega (arith, same, lt, le))) m.slots) in
      let none = zero-count test (filter resets m.slots) (none_of_any test (filter resets m.slots) stays) in
      omega (arith, kept, none, split_count test resets m.slots)

  fresh-once : AllByRecursion (λ (x : NamedInner). count_by (holds (OfInner x.number)) fresh ≡ 1) (new_inners l.inner rs)
  fresh-once = some-once resets image l.inner (λ n le s. OfPlace (HasImage l) s) (λ n le s on. (unheld-slots l is n le (s ∷ []) (on, tt)).0)
      m.slots l.inner (omega arith) (All-map _ _ (λ s on n le. on) m.slots listed.0)

  held-new : AllByRecursion (λ (x : NamedInner). count_in_machine (holds (OfInner x.number)) edited ≡ 1) (new_inners l.inner rs)
  held-new = All-join _ _ _ (λ x le once.
      let test = holds (OfInner x.number) in
      let mine = none-of-old l gone rs m edited is plain there test (nowhere test l (unheld-machines l is x.number le)) in
      omega (arith, once, mine))
      (new_inners l.inner rs) (new-from rs l.inner l.inner (omega arith)) fresh-once

  -- ---- media

  module _ (n : Medium) (on : find_by medium_entry_name n.name l.media ≡ Some n) (normal : is_normal n.mode ≡ true) where
    abbrev base : NamedSlot → Bool
    base = holds (OfMedium n.name)

    abbrev direct : NamedSlot → Bool
    direct = has_directly n.name

    old-base : AllByRecursion (λ (s : NamedSlot). base s ≡ false) m.slots
    old-base = slots-base l n.name m.slots ruled.slots.valid.each

    base-same : count_in_machine base edited ≡ count_in_machine base m
    base-same =
        let old = zero-count base m.slots old-base in
        let new = zero-count base fresh (some-all resets image (λ (t : NamedSlot). base t ≡ false) m.slots l.inner
        (All-map _ _ (λ s e. ((λ c. e), (λ c i le. refl))) m.slots old-base)) in
        omega (arith, old, new)

    -- no reset slot stands on it
    image-other : (s : NamedSlot) (place : IsNamedSlot (images_of l) false s) (so : resets s ≡ true) → is_image (image s) (OfMedium n.name) ≡ false
    image-other s place so = image-is s place so (λ i. is_image i (OfMedium n.name) ≡ false)
        (false_from_ne_true (bytes_eq s.medium n.name) (λ same.
        let clash : true ≡ false = sym normal ∙ ap (λ (x : Medium). is_normal x.mode) (sym (medium-is l n on false s place same))
        ∙ (modes s place so).2 in
        absurd cc))
        (λ t j e h. refl)

    keeps-base : KeepsBase l rs m edited n
    keeps-base =
        let kept = some-count resets image direct m.slots l.inner
        (All-every _ (λ s e i le. and_right (bytes_eq s.medium n.name) false refl) m.slots) in
        record {
          bases = base-same;
          direct = λ based. omega (arith, kept, split_count direct resets m.slots);
          free = λ free. parents-some resets image (λ i. is_image i (OfMedium n.name) ≡ false) m.slots l.inner
              (All-map (IsNamedSlot (images_of l) false) _ (λ s place so. image-other s place so) m.slots ruled.slots.valid.each);
        }

  started_edit : IsRuledEdit l gone rs m edited
  started_edit =
      let same = same-snapshots l gone rs m edited is plain there refl in
      record {
        there = there;
        renewal = renewal;
        parents = parents;
        drawn = drawn;
        machine = machine-after;
        others = All-join (IsMachine (images_of l)) _ _ (λ y x stays other. machine-both (HasImage l) (IsStaying gone) y (machine-listed l y x)
            (stays other))
            l.machines is.machines (others-stay l is plain m there gone of);
        snapshots = same.0;
        places = same.1;
        held = held-old;
        once = held-new;
        based = all-based l gone rs m edited is plain there (All-map _ _ (λ n on normal. keeps-base n on normal) l.media
            (each_found medium_entry_name l.media is.media_rise));
      }

  -- A library after a machine is started keeps the rules.
  pub started_rules : IsLibrary after
  started_rules = edited_rules l gone rs m edited is plain started_edit

  pub started_store : (a b : Files) → AreEdited l gone rs a b → IsStore l a → IsStore after b
  started_store a b files store = edited_store l gone rs m edited is plain started_edit a b files store
