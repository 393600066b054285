-- The rules of a library after a medium that nothing uses came, went or got another mode.
use Rattle.std.proofs.Common.{◌≡◌, ℕ, ◌<◌, ◌≤◌, Bool, true, false, cond, ◌||◌, ◌&&◌, List, [], ◌∷◌, reverse, length, Option, Some, None, refl, sym, ap, subst, ◌∙◌, arith, IsTrue, IsFalse, is_some, eqb-true}
use Rattle.std.specs.Prelude.{◌==◌, IfSome, nat_le}
use Rattle.std.specs.List.{AllByRecursion, list_any}
use Rattle.std.specs.Option.{option_map}
use Rattle.std.specs.Str.{bytes_eq}
use Rattle.std.proofs.lemmas.Bool.{cond_both, or_parts, or_from, false_from_ne_true, lt-leb}
use Rattle.std.proofs.lemmas.List.{length-map}
use Rattle.std.proofs.lemmas.Slice.Eq.{bytes_eq-Decides}
use Rattle.vbm_ports.specs.Names.{is_medium_name}
use Rattle.vbm_ids.specs.declared.TheConstants.{NUMBER_LIMIT}
use Rattle.vbm_modes.specs.declared.Mode.{Mode}
use Rattle.vbm_modes.specs.Modes.{is_own}
use Rattle.vbm_machines.specs.declared.Held.{Held}
use Rattle.vbm_machines.specs.declared.Held.TheVariants.{Direct, Own, Base}
use Rattle.vbm_named.specs.Names.{Name, is_named, find_by, has_name, put_by, without, Rises}
use Rattle.vbm_named.proofs.Lists.{name_refl, name_sym, has_found, All-map, All-join, find_named, any_none, none_of_any, All-put, find_put_other, rises_put, length-put, All-without, find_without_other, rises_without, length-without, find_change, rises_change, All-change, has_map}
use Rattle.vbm_world.specs.declared.limits.TheConstants.{MEDIA_LIMIT}
use Rattle.vbm_world.specs.World.{is_normal, is_layered}
use Rattle.vbm_registry.specs.declared.media.Medium.{Medium}
use Rattle.vbm_registry.specs.Library.{medium_entry_name}
use Rattle.vbm_registry.specs.Named.{ImageName, OfMedium, OfInner, NamedInner, NamedSlot, NamedMachine, NamedMerging, NamedLibrary, images_of}
use Rattle.vbm_registry.specs.Chains.{is_image, chain_of, medium_below, parent_of, merging_into}
use Rattle.vbm_registry.specs.Rules.{has_mode, is_medium_of, IsParent, AreInners, IsNamedSlot, upper_places, is_held, holds, is_common, is_above, is_some_above, is_parent_above, is_stacked_on, is_held_over, AreSlotsUnder, IsMachine, count_in, is_based, IsBasedOnce, IsMergedInto, IsDrawn, IsMerging, IsLibrary}
use Rattle.vbm_registry.specs.Entries.{medium_put, medium_gone, library_with_mode, is_using, IsUnused}
use Rattle.vbm_registry.proofs.ListLaws.{All-reverse, All-of_reverse, any_put}
use Rattle.vbm_registry.proofs.RenumberedLaws.{parent-all}
use Rattle.vbm_standing.proofs.FrozenMedia.{OfSlots}
use Rattle.vbm_standing.proofs.LeafImages.{named-all, nowhere, each-parent}
use Rattle.vbm_registry.proofs.Counts.{zero-count}
use Rattle.vbm_standing.proofs.Stores.{absent}
use Rattle.vbm_standing.proofs.StackedPlaces.{held-medium, parent-below}

-- ---- what does not use a medium

abbrev pub IsOtherSlot : Name → NamedSlot → Type 0
IsOtherSlot name s = bytes_eq s.medium name ≡ false

abbrev pub IsOtherImage : Name → ImageName → Type 0
IsOtherImage name image = is_image image (OfMedium name) ≡ false

pub others-in : (name : Name) (machines : List NamedMachine) → list_any (is_using name) machines ≡ false
    → AllByRecursion (OfSlots (IsOtherSlot name)) machines
others-in name machines none = All-map _ _ (λ m e.
    let both = or_parts (list_any (λ (s : NamedSlot). bytes_eq s.medium name) m.slots) _ e in (
      none_of_any _ m.slots both.0,
      All-map _ _ (λ s of. none_of_any _ s.slots of) m.snapshots (none_of_any _ m.snapshots both.1),
    )) machines (none_of_any (is_using name) machines none)

not-held : (name : Name) (s : NamedSlot) (h : Held) → IsOtherSlot name s → is_held (OfMedium name) s.medium h ≡ false
not-held name s Direct apart = refl
not-held name s (Own n) apart = refl
not-held name s Base apart = name_sym name s.medium ∙ apart

module _ (l : NamedLibrary) (name : Name) (unused : IsUnused l name) where
  pub slots-other : AllByRecursion (OfSlots (IsOtherSlot name)) l.machines
  slots-other = others-in name l.machines unused.slots

  pub parents-other : AllByRecursion (λ (x : NamedInner). IsOtherImage name x.parent) l.inners
  parents-other = none_of_any _ l.inners unused.parents

  -- no parent is the medium's image
  pub parent-other : (n : ℕ) (image : ImageName) → parent_of l.inners n ≡ Some image → IsOtherImage name image
  parent-other n image e = parent-all (IsOtherImage name) (reverse l.inners) n image (All-reverse _ l.inners parents-other) e

  -- nothing stands on it
  pub unbased : is_based l.inners l.machines name ≡ false
  unbased =
      let zero = nowhere (holds (OfMedium name)) l (All-map _ _ (λ m other. (
        All-map _ _ (λ s apart. not-held name s s.held apart) m.slots other.0,
        All-map _ _ (λ s all. All-map _ _ (λ t apart. not-held name t t.held apart) s.slots all) m.snapshots other.1,
      )) l.machines slots-other) in
      or_from (list_any (λ (x : NamedInner). is_image x.parent (OfMedium name)) l.inners) (nat_le 1 (count_in (holds (OfMedium name)) l.machines))
      unused.parents (lt-leb 1 (count_in (holds (OfMedium name)) l.machines) (omega (arith, zero)))

-- ---- where no slot has a medium, no inner image stands on it

module _ (l : NamedLibrary) (is : IsLibrary l) (name : Name) (free : list_any (is_using name) l.machines ≡ false) where
  -- no slot holds an image over it
  unheld-over : (n : ℕ) → medium_below (chain_of l.inners (OfInner n)) ≡ Some name → count_in (holds (OfInner n)) l.machines ≡ 0
  unheld-over n below = nowhere (holds (OfInner n)) l (All-join _ _ _ (λ m of other. (
    All-join _ _ _ (unheld false) m.slots of.slots.valid.each other.0,
    All-join _ _ _ (λ s rules all. All-join _ _ _ (unheld true) s.slots rules.places.valid.each all) m.snapshots of.snapshots other.1,
  )) l.machines is.machines (others-in name l.machines free))
    where
      unheld : (of_snapshot : Bool) (s : NamedSlot) → IsNamedSlot (images_of l) of_snapshot s → IsOtherSlot name s → holds (OfInner n) s ≡ false
      unheld of_snapshot s of apart = false_from_ne_true (holds (OfInner n) s) (λ held.
          let both : Some name ≡ Some s.medium = sym below ∙ held-medium l is (OfInner n) s.medium s.held of.own held in
          let same : name ≡ s.medium = cc in
          let clash : true ≡ false = sym (name_refl name) ∙ ap (λ x. bytes_eq x name) same ∙ apart in absurd cc)

  over-of : (n : ℕ) (image : ImageName) → parent_of l.inners n ≡ Some image → is_image image (OfMedium name) ≡ true
      → medium_below (chain_of l.inners (OfInner n)) ≡ Some name
  over-of n (OfMedium other) parent same = parent-below l n (OfMedium other) is parent ∙ ap Some ((bytes_eq-Decides other name).0 same)
  over-of n (OfInner k) parent same = absurd cc

  -- and none is merged into such an image
  unmerged : (n : ℕ) → medium_below (chain_of l.inners (OfInner n)) ≡ Some name
      → AllByRecursion (λ (j : NamedMerging). is_image j.parent (OfInner n) ≡ false) l.merging
  unmerged n below = All-map _ _ (λ j rules. false_from_ne_true (is_image j.parent (OfInner n)) (λ same.
      let zero = unheld-over j.child (child-below j.child j.parent rules.parent same) in
      absurd (omega (arith, zero, rules.held)))) l.merging is.merging
    where
      child-below : (child : ℕ) (image : ImageName) → parent_of l.inners child ≡ Some image → is_image image (OfInner n) ≡ true
          → medium_below (chain_of l.inners (OfInner child)) ≡ Some name
      child-below child (OfInner k) parent same =
          parent-below l child (OfInner k) is parent ∙ ap (λ i. medium_below (chain_of l.inners (OfInner i))) (eqb-true k n same) ∙ below
      child-below child (OfMedium other) parent same = absurd cc

  pub unused-if : IsUnused l name
  unused-if = record {
    slots = free;
    parents = any_none _ l.inners (All-join _ _ _ (λ x parent once. false_from_ne_true (is_image x.parent (OfMedium name)) (λ same.
        let below = over-of x.number x.parent parent same in
        let held = unheld-over x.number below in
        let none = zero-count (λ (j : NamedMerging). is_image j.parent (OfInner x.number)) l.merging (unmerged x.number below) in
        absurd (omega (arith, held, none, once)))) l.inners
        (All-of_reverse _ l.inners (each-parent l.media l.inner (reverse l.inners) is.inners)) is.held);
  }

-- ---- a medium that is not listed is used by nothing

module _ (l : NamedLibrary) (is : IsLibrary l) (name : Name) (new : has_name medium_entry_name name l.media ≡ false) where
  not-listed : (other : Name) → is_some (find_by medium_entry_name other l.media) ≡ true → bytes_eq other name ≡ false
  not-listed other there = false_from_ne_true (bytes_eq other name) (λ same.
      let is_name : other ≡ name = (bytes_eq-Decides other name).0 same in
      let has : has_name medium_entry_name other l.media ≡ true = has_found medium_entry_name other l.media ∙ there in
      let clash : true ≡ false = sym has ∙ ap (λ n. has_name medium_entry_name n l.media) is_name ∙ new in absurd cc)

  pub unused-new : IsUnused l name
  unused-new = unused-if l is name
      (any_none (is_using name) l.machines (All-map _ _ (λ m of. or_from (list_any (λ (s : NamedSlot). bytes_eq s.medium name) m.slots) _
      (any_none _ m.slots (All-map _ _ (λ s rules. not-listed s.medium (ap is_some rules.there)) m.slots of.slots.valid.each))
      (any_none _ m.snapshots (All-map _ _ (λ s rules. any_none _ s.slots
      (All-map _ _ (λ t at. not-listed t.medium (ap is_some at.there)) s.slots rules.places.valid.each)) m.snapshots of.snapshots))) l.machines
      is.machines))

-- ---- other media, of which those that are used are the same

module _ (l : NamedLibrary) (name : Name) (is : IsLibrary l) (unused : IsUnused l name) (next : ℕ) (media : List Medium) (making : Option Name)
    (agree : (other : Name) → bytes_eq other name ≡ false → find_by medium_entry_name other media ≡ find_by medium_entry_name other l.media) where
  abbrev k : NamedLibrary
  k = record l { next = next; media = media; making = making }

  still : (test : Mode → Bool) (other : Name) → bytes_eq other name ≡ false → is_medium_of test media other ≡ is_medium_of test l.media other
  still test other apart = ap (has_mode test) (agree other apart)

  parent-media : (xs : List NamedInner) (image : ImageName) → IsOtherImage name image → IsParent l.media xs image → IsParent media xs image
  parent-media xs (OfMedium other) apart parent = still is_layered other apart ∙ parent
  parent-media xs (OfInner n) apart parent = parent

  inners-media : (bound : ℕ) (xs : List NamedInner) → AllByRecursion (λ (x : NamedInner). IsOtherImage name x.parent) xs → AreInners l.media bound xs
      → AreInners media bound xs
  inners-media bound [] apart are = tt
  inners-media bound (x ∷ xs) apart are = (are.0, parent-media xs x.parent apart.0 are.1, inners-media x.number xs apart.1 are.2)

  slot-media : (of_snapshot : Bool) (s : NamedSlot) → IsNamedSlot (images_of l) of_snapshot s → IsOtherSlot name s
      → IsNamedSlot (images_of k) of_snapshot s
  slot-media of_snapshot s of apart = record {
    medium = of.medium;
    there = agree s.medium apart ∙ of.there;
    held = of.held;
    own = of.own;
    autoreset = of.autoreset;
  }

  common-media : (image : ImageName) → IsOtherImage name image → is_common media image ≡ is_common l.media image
  common-media (OfMedium other) apart = still is_own other apart
  common-media (OfInner n) apart = refl

  above-media : (upper : List NamedSlot) (port : ℕ) (image : ImageName) → IsOtherImage name image
      → is_above media upper port image ≡ is_above l.media upper port image
  above-media upper port image apart = ap (λ b. list_any (λ (s : NamedSlot). s.port == port && holds image s) upper || b) (common-media image apart)

  some_above-media : (upper : List NamedSlot) (port n : ℕ) (o : Option ImageName) → parent_of l.inners n ≡ o
      → is_some_above media upper port o ≡ is_some_above l.media upper port o
  some_above-media upper port n None e = refl
  some_above-media upper port n (Some image) e = above-media upper port image (parent-other l name unused n image e)

  parent_above-media : (upper : List NamedSlot) (port child : ℕ) (parent : ImageName) (o : Option NamedMerging) → IsOtherImage name parent
      → is_parent_above (images_of k) upper port child parent o ≡ is_parent_above (images_of l) upper port child parent o
  parent_above-media upper port child parent None apart = above-media upper port parent apart
  parent_above-media upper port child (OfMedium other) (Some j) apart = refl
  parent_above-media upper port child (OfInner n) (Some j) apart = ap (λ b. j.child == child && b)
      (some_above-media upper port n (parent_of l.inners n) refl)

  stacked_on-media : (upper : List NamedSlot) (port child : ℕ) (o : Option ImageName) → parent_of l.inners child ≡ o
      → is_stacked_on (images_of k) upper port child o ≡ is_stacked_on (images_of l) upper port child o
  stacked_on-media upper port child None e = refl
  stacked_on-media upper port child (Some parent) e =
      parent_above-media upper port child parent (merging_into parent l.merging) (parent-other l name unused child parent e)

  held_over-media : (upper : List NamedSlot) (port : ℕ) (h : Held) → is_held_over (images_of l) upper port h ≡ true
      → is_held_over (images_of k) upper port h ≡ true
  held_over-media upper port Direct stands = refl
  held_over-media upper port (Own n) stands = stacked_on-media upper port n (parent_of l.inners n) refl ∙ stands
  held_over-media upper port Base stands = refl

  slots-media : (of_snapshot : Bool) (upper slots : List NamedSlot) → AllByRecursion (IsOtherSlot name) upper
      → AllByRecursion (IsOtherSlot name) slots
      → AreSlotsUnder (images_of l) of_snapshot upper slots → AreSlotsUnder (images_of k) of_snapshot upper slots
  slots-media of_snapshot upper slots upper_apart apart of = record {
    valid = record {
      ports = of.valid.ports;
      different = of.valid.different;
      each = All-join _ _ _ (slot-media of_snapshot) slots of.valid.each apart;
    };
    stacked = All-map _ _ (λ s stands. held_over-media upper s.port s.held stands) slots of.stacked;
    inherits = All-join _ _ _ (λ s other inherits normal. inherits (sym (still is_normal s.medium other) ∙ normal)) upper upper_apart of.inherits;
  }

  machine-media : (m : NamedMachine) → IsMachine (images_of l) m → OfSlots (IsOtherSlot name) m → IsMachine (images_of k) m
  machine-media m of apart = record {
    name = of.name;
    tree = of.tree;
    slots = slots-media false (upper_places m.current m.snapshots) m.slots (named-all (IsOtherSlot name) m.current m.snapshots apart.1) apart.0
        of.slots;
    snapshots = All-join _ _ _ (λ s rules other. record {
      name = rules.name;
      places = slots-media true (upper_places s.parent m.snapshots) s.slots (named-all (IsOtherSlot name) s.parent m.snapshots apart.1) other
          rules.places;
    }) m.snapshots of.snapshots apart.1;
  }

  merged_into-media : (image : ImageName) → IsOtherImage name image → IsMergedInto l.media image → IsMergedInto media image
  merged_into-media (OfMedium other) apart of = still is_normal other apart ∙ of
  merged_into-media (OfInner n) apart of = tt

  merging-media : (j : NamedMerging) → IsMerging (images_of l) l.machines j → IsMerging (images_of k) l.machines j
  merging-media j of = record {
    parent = of.parent;
    normal = merged_into-media j.parent (parent-other l name unused j.child j.parent of.parent) of.normal;
    only = of.only;
    held = of.held;
    once = of.once;
  }

  drawn-media : l.next ≤ next → (image : ImageName) (number : ℕ) → IsDrawn l.next l.inner image number → IsDrawn next l.inner image number
  drawn-media grows (OfMedium other) number drawn = omega (arith, grows, drawn)
  drawn-media grows (OfInner n) number drawn = drawn

  media-rules : l.next ≤ next → next ≤ NUMBER_LIMIT → length media ≤ MEDIA_LIMIT → Rises medium_entry_name media
      → AllByRecursion (λ (m : Medium). IsTrue (is_medium_name m.name)) media
      → IfSome making (λ other. IsTrue (is_medium_name other) × IsFalse (has_name medium_entry_name other media))
      → AllByRecursion (λ (m : Medium). IsTrue (is_normal m.mode) → IsTrue (is_based l.inners l.machines m.name)
      → IsBasedOnce l.machines l.merging m) media
      → IsLibrary k
  media-rules grows few room rises names made based = record {
    seed = is.seed;
    next = few;
    inner = is.inner;
    few_media = room;
    few_machines = is.few_machines;
    few_snapshots = is.few_snapshots;
    few_places = is.few_places;
    few_mergings = is.few_mergings;
    media_rise = rises;
    media = names;
    inners = inners-media l.inner (reverse l.inners) (All-reverse _ l.inners (parents-other l name unused)) is.inners;
    machines_rise = is.machines_rise;
    machines = All-join _ _ _ machine-media l.machines is.machines (slots-other l name unused);
    making = made;
    held = is.held;
    based = based;
    merging = All-map _ _ merging-media l.merging is.merging;
    drawn = All-map _ _ (λ j drawn. drawn-media grows j.parent j.number drawn) l.merging is.drawn;
  }

-- ---- one medium more

-- The making of a file may end with its listing.
pub put-rules : (l : NamedLibrary) (m : Medium) (next : ℕ) (making : Option Name) → IsLibrary l → has_name medium_entry_name m.name l.media ≡ false
    → IsTrue (is_medium_name m.name) → length l.media < MEDIA_LIMIT → l.next ≤ next → next ≤ NUMBER_LIMIT
    → IfSome making (λ name. (l.making ≡ Some name) × (bytes_eq m.name name ≡ false))
    → IsLibrary (medium_put (record l { next = next; making = making }) m)
put-rules l m next making is new named room grows few unmade =
    let unused = unused-new l is m.name new in
    let media = put_by medium_entry_name m l.media in
    media-rules l m.name is unused next media making
    (λ other apart. find_put_other medium_entry_name other m l.media (name_sym m.name other ∙ apart))
    grows few (omega (arith, room, length-put medium_entry_name m l.media))
    (rises_put medium_entry_name m l.media (absent medium_entry_name m.name l.media new) is.media_rise)
    (All-put medium_entry_name _ m l.media named is.media)
    (made making unmade)
    (All-put medium_entry_name _ m l.media (λ normal now. let clash : true ≡ false = sym now ∙ unbased l m.name unused in absurd cc) is.based)
  where
    made : (o : Option Name) → IfSome o (λ name. (l.making ≡ Some name) × (bytes_eq m.name name ≡ false))
        → IfSome o (λ name. IsTrue (is_medium_name name) × IsFalse (has_name medium_entry_name name (put_by medium_entry_name m l.media)))
    made None apart = tt
    made (Some name) apart =
        let was : IsTrue (is_medium_name name) × IsFalse (has_name medium_entry_name name l.media) =
        subst (λ o. IfSome o (λ n. IsTrue (is_medium_name n) × IsFalse (has_name medium_entry_name n l.media))) apart.0 is.making in (
          was.0,
          any_put medium_entry_name (λ (n : Medium). bytes_eq n.name name) m l.media
              ∙ or_from (bytes_eq m.name name) (has_name medium_entry_name name l.media) apart.1 was.1,
        )

-- ---- one medium less

pub gone-rules : (l : NamedLibrary) (name : Name) → IsLibrary l → IsUnused l name → IsLibrary (medium_gone l name)
gone-rules l name is unused =
    media-rules l name is unused l.next (without medium_entry_name name l.media) l.making
    (λ other apart. find_without_other medium_entry_name name other l.media (name_sym name other ∙ apart))
    (omega arith) is.next (omega (arith, is.few_media, length-without medium_entry_name name l.media))
    (rises_without medium_entry_name name l.media is.media_rise)
    (All-without medium_entry_name _ name l.media is.media) (made l.making is.making) (All-without medium_entry_name _ name l.media is.based)
  where
    fewer : (other : Name) (ms : List Medium) → has_name medium_entry_name other ms ≡ false
        → has_name medium_entry_name other (without medium_entry_name name ms) ≡ false
    fewer other ms none = any_none _ (without medium_entry_name name ms)
        (All-without medium_entry_name _ name ms (none_of_any (is_named medium_entry_name other) ms none))

    made : (o : Option Name) → IfSome o (λ n. IsTrue (is_medium_name n) × IsFalse (has_name medium_entry_name n l.media))
        → IfSome o (λ n. IsTrue (is_medium_name n) × IsFalse (has_name medium_entry_name n (without medium_entry_name name l.media)))
    made None of = tt
    made (Some other) of = (of.0, fewer other l.media of.1)

-- ---- another mode

pub mode-rules : (l : NamedLibrary) (name : Name) (mode : Mode) → IsLibrary l → IsUnused l name → IsLibrary (library_with_mode l name mode)
mode-rules l name mode is unused =
    media-rules l name is unused l.next (library_with_mode l name mode).media l.making agree
    (omega arith) is.next (omega (arith, is.few_media, length-map l.media renew))
    (rises_change medium_entry_name name change (λ x. refl) l.media is.media_rise)
    (All-change medium_entry_name name change (λ x. refl) _ (λ x same of. of) l.media is.media) (made l.making is.making)
    (All-change medium_entry_name name change (λ x. refl) _ (λ x same of normal now.
    let here : is_based l.inners l.machines x.name ≡ false = ap (is_based l.inners l.machines) ((bytes_eq-Decides x.name name).0 same)
    ∙ unbased l name unused in
    let clash : true ≡ false = sym now ∙ here in absurd cc) l.media is.based)
  where
    change : Medium → Medium
    change m = record m { mode = mode }

    renew : Medium → Medium
    renew x = cond (is_named medium_entry_name name x) (change x) x

    agree : (other : Name) → bytes_eq other name ≡ false
        → find_by medium_entry_name other (library_with_mode l name mode).media ≡ find_by medium_entry_name other l.media
    agree other apart = find_change medium_entry_name name change (λ x. refl) other l.media ∙ of (find_by medium_entry_name other l.media) refl
      where
        of : (o : Option Medium) → find_by medium_entry_name other l.media ≡ o → option_map renew o ≡ o
        of None e = refl
        of (Some x) e =
            let is_name : x.name ≡ other = (bytes_eq-Decides x.name other).0 (find_named medium_entry_name other x l.media e) in
            let no : bytes_eq x.name name ≡ false = ap (λ n. bytes_eq n name) is_name ∙ apart in
            rw no refl

    keeps : (x : Medium) → medium_entry_name (renew x) ≡ medium_entry_name x
    keeps x = cond_both (is_named medium_entry_name name x) (change x) x (λ y. y.name ≡ x.name) (λ e. refl) (λ e. refl)

    made : (o : Option Name) → IfSome o (λ n. IsTrue (is_medium_name n) × IsFalse (has_name medium_entry_name n l.media))
        → IfSome o (λ n. IsTrue (is_medium_name n) × IsFalse (has_name medium_entry_name n (library_with_mode l name mode).media))
    made None of = tt
    made (Some other) of = (of.0, has_map renew medium_entry_name medium_entry_name keeps other l.media ∙ of.1)
