-- The rules on places by places are those by names.
use Rattle.std.proofs.Common.{◌≡◌, ◌<◌, ℕ, zero, suc, ◌+◌, Bool, true, false, not, cond, ◌&&◌, ◌||◌, List, [], ◌∷◌, ◌++◌, map, reverse, length, get_or, sum_by, Option, Some, None, refl, sym, ap, subst, ◌∙◌, arith, IsTrue}
use Rattle.std.specs.Prelude.{◌==◌, nat_le, find, count_by, IfSome}
use Rattle.std.specs.List.{AllByRecursion, list_any, list_all, slice_get}
use Rattle.std.specs.Option.{option_map}
use Rattle.std.specs.Str.{bytes_eq}
use Rattle.std.proofs.lemmas.Bool.Decides.{nat_tests}
use Rattle.std.proofs.lemmas.List.Sums.{sum_by-cons, sum_by-append}
use Rattle.std.proofs.lemmas.Option.{slice_get_within}
use Rattle.indexmap.proofs.ReorderLemmas.{map-reverse}
use Rattle.vbm_modes.specs.declared.Mode.{Mode}
use Rattle.vbm_modes.specs.Modes.{is_own}
use Rattle.vbm_machines.specs.declared.Held.{Held}
use Rattle.vbm_machines.specs.declared.Held.TheVariants.{Direct, Own, Base}
use Rattle.vbm_machines.specs.declared.Slot.{Slot}
use Rattle.vbm_machines.specs.declared.Snapshot.{Snapshot}
use Rattle.vbm_machines.specs.declared.Machine.{Machine}
use Rattle.vbm_named.specs.Names.{Name, find_by}
use Rattle.vbm_named.proofs.Lists.{name_sym, find_map, All-map}
use Rattle.vbm_world.specs.World.{is_normal}
use Rattle.vbm_registry.specs.declared.media.Medium.{Medium}
use Rattle.vbm_registry.specs.declared.library.Inner.{Inner}
use Rattle.vbm_registry.specs.declared.library.ImageRef.{ImageRef}
use Rattle.vbm_registry.specs.declared.library.ImageRef.TheVariants as refs
use Rattle.vbm_registry.specs.declared.library.Merging.{Merging}
use Rattle.vbm_registry.specs.declared.library.Library.{Library}
use Rattle.vbm_registry.specs.Library.{medium_entry_name}
use Rattle.vbm_registry.specs.Grammar.{snapshot_entry_name}
use Rattle.vbm_registry.specs.Named.{OfMedium, OfInner, ImageName, NamedInner, NamedSlot, NamedSnapshot, NamedMachine, NamedMerging, ListedImages, images_of, named_snapshot_name, name_in, image_named, inner_named, slot_named, snapshot_named, snapshot_names, machine_named, merging_named, medium_names, named}
use Rattle.vbm_registry.specs.Chains.{is_image, parent_of, merging_into}
use Rattle.vbm_registry.specs.Rules.{has_mode, is_medium_of, places_of_some, upper_places, is_held, holds, is_held_directly, has_directly, is_common, is_above, is_some_above, is_parent_above, is_stacked_on, is_held_over, is_stacked, has_slot_at, count_in_machine, count_in, mergings_into, is_based}
use Rattle.vbm_registry.specs.PlaceRules.{is_held_once, is_based_once, are_under, is_snapshot_under, is_machine_under, is_some_image, is_merged_into, is_merging, is_drawn, keeps_places}
use Rattle.vbm_registry.specs.AtPlaces.{AreNamed, IsListedRef, HasNames, is_same_image, ImagesAt, parent_at, images_at, has_mode_at, merging_at, mergings_at, is_held_at, slot_holds, is_used_at, slot_uses, is_common_at, is_above_at, is_some_above_at, is_parent_above_at, is_child_stacked, is_held_stacked, is_slot_stacked, has_slot_with, is_passed_on, are_slots_under, slots_of_some, upper_slots, is_snapshot_stacked, is_machine_stacked, slots_in_snapshots, slots_in_machine, slots_in_machines, capped, SlotCounts, CountsSlots, children_at, CountsChildren, is_held_once_at, is_inner_held_once, is_medium_held_once, all_from, is_some_same, is_merged_at, is_merging_at, is_drawn_at, is_merging_drawn, places_are_kept_at}
use Rattle.vbm_registry.proofs.ListLaws.{All-reverse}
use Rattle.vbm_registry.proofs.NamedPlaces.{name_get, found_at, same_place, any_same, all_same, all_same_in}

-- ---- tests and lists

eq_swap : (a b : ℕ) → (a == b) ≡ (b == a)
eq_swap a b = grind (arith, nat_tests)

and_true : (b : Bool) → (b && true) ≡ b
and_true true = refl
and_true false = refl

and_false : (b : Bool) → (b && false) ≡ false
and_false true = refl
and_false false = refl

or_when : (a b c : Bool) → (a ≡ true → b ≡ c) → (not a || b) ≡ (not a || c)
or_when true b c same = same refl
or_when false b c same = refl

cond_some : {X Y : Type 0} (f : X → Y) (b : Bool) (x : X) (o : Option X) → cond b (Some (f x)) (option_map f o) ≡ option_map f (cond b (Some x) o)
cond_some f true x o = refl
cond_some f false x o = refl

module _ {X Y : Type 0} (f : X → Y) (p : Y → Bool) (q : X → Bool) where
  find_same : ((x : X) → p (f x) ≡ q x) → (xs : List X) → find p (map f xs) ≡ option_map f (find q xs)
  find_same same [] = refl
  find_same same (x ∷ xs) =
      let first = same x in let rest = find_same same xs in
      let both : cond (p (f x)) (Some (f x)) (find p (map f xs)) ≡ cond (q x) (Some (f x)) (option_map f (find q xs)) =
      λ i. cond (first i) (Some (f x)) (rest i) in
      both ∙ cond_some f (q x) x (find q xs)

  count_same_in : (xs : List X) → AllByRecursion (λ x. p (f x) ≡ q x) xs → count_by p (map f xs) ≡ count_by q xs
  count_same_in [] same = refl
  count_same_in (x ∷ xs) same =
      let first = same.0 in let rest = count_same_in xs same.1 in
      let both : cond (p (f x)) 1 0 + count_by p (map f xs) ≡ cond (q x) 1 0 + count_by q xs = λ i. cond (first i) 1 0 + rest i in
      sum_by-cons (λ y. cond (p y) 1 0) (f x) (map f xs) ∙ both ∙ sym (sum_by-cons (λ y. cond (q y) 1 0) x xs)

  all_alike : ((x : X) → p (f x) ≡ q x) → (xs : List X) → AllByRecursion (λ x. p (f x) ≡ q x) xs
  all_alike same [] = tt
  all_alike same (x ∷ xs) = (same x, all_alike same xs)

  count_same : ((x : X) → p (f x) ≡ q x) → (xs : List X) → count_by p (map f xs) ≡ count_by q xs
  count_same same xs = count_same_in xs (all_alike same xs)

found_all : {X : Type 0} (P : X → Type 0) (p : X → Bool) (xs : List X) → AllByRecursion P xs → IfSome (find p xs) P
found_all P p [] all = tt
found_all P p (x ∷ xs) all = elim (p x) as (λ b. IfSome (cond b (Some x) (find p xs)) P) [ true ↦ all.0 | false ↦ found_all P p xs all.1 ]

any_counted : {X : Type 0} (p : X → Bool) (xs : List X) → list_any p xs ≡ nat_le 1 (count_by p xs)
any_counted p [] = refl
any_counted p (x ∷ xs) =
    let rest = any_counted p xs in
    let sum = sum_by-cons (λ y. cond (p y) 1 0) x xs in
    rw (rest, sum) (first (p x) (count_by p xs))
  where
    first : (b : Bool) (n : ℕ) → (b || nat_le 1 n) ≡ nat_le 1 (cond b 1 0 + n)
    first true n = grind (arith, nat_tests)
    first false n = grind (arith, nat_tests)

-- ---- counts up to a limit

capped_once : (n m : ℕ) → (capped n + m == 1) ≡ (n + m == 1)
capped_once n m = grind (arith, nat_tests)

capped_one : (n : ℕ) → (capped n == 1) ≡ (n == 1)
capped_one n = grind (arith, nat_tests)

capped_none : (n : ℕ) → (capped n == 0) ≡ (n == 0)
capped_none n = grind (arith, nat_tests)

capped_some : (n : ℕ) → nat_le 1 (capped n) ≡ nat_le 1 n
capped_some n = grind (arith, nat_tests)

-- ---- images

same_image_swap : (a b : ImageRef) → is_same_image a b ≡ is_same_image b a
same_image_swap (refs.Medium a) (refs.Medium b) = eq_swap a b
same_image_swap (refs.Medium a) (refs.Inner b) = refl
same_image_swap (refs.Inner a) (refs.Medium b) = refl
same_image_swap (refs.Inner a) (refs.Inner b) = eq_swap a b

module _ (media : List Medium) (listed : AreNamed medium_entry_name media) where
  abbrev names : List Name
  names = medium_names media

  image_left : (a b : ImageRef) → IsListedRef media a → is_image (image_named names a) (image_named names b) ≡ is_same_image a b
  image_left (refs.Medium p) (refs.Medium q) within = same_place medium_entry_name media p q listed within
  image_left (refs.Medium p) (refs.Inner n) within = refl
  image_left (refs.Inner m) (refs.Medium q) within = refl
  image_left (refs.Inner m) (refs.Inner n) within = refl

  place_right : (p q : ℕ) → q < length media → bytes_eq (name_in names p) (name_in names q) ≡ (p == q)
  place_right p q within =
      name_sym (name_in names p) (name_in names q) ∙ same_place medium_entry_name media q p listed within ∙ eq_swap q p

  image_right : (a b : ImageRef) → IsListedRef media b → is_image (image_named names a) (image_named names b) ≡ is_same_image a b
  image_right (refs.Medium p) (refs.Medium q) within = place_right p q within
  image_right (refs.Medium p) (refs.Inner n) within = refl
  image_right (refs.Inner m) (refs.Medium q) within = refl
  image_right (refs.Inner m) (refs.Inner n) within = refl

  held_same : (image : ImageRef) (medium : ℕ) (held : Held) → IsListedRef media image
      → is_held (image_named names image) (name_in names medium) held ≡ is_held_at image medium held
  held_same image medium Direct within = refl
  held_same image medium (Own n) within = image_left image (refs.Inner n) within
  held_same image medium Base within = image_left image (refs.Medium medium) within

  used_same : (place medium : ℕ) (held : Held) → place < length media
      → (bytes_eq (name_in names medium) (name_in names place) && is_held_directly held) ≡ is_used_at (refs.Medium place) medium held
  used_same place medium Direct within =
      and_true (bytes_eq (name_in names medium) (name_in names place))
      ∙ name_sym (name_in names medium) (name_in names place) ∙ same_place medium_entry_name media place medium listed within
  used_same place medium (Own n) within = and_false (bytes_eq (name_in names medium) (name_in names place))
  used_same place medium Base within = and_false (bytes_eq (name_in names medium) (name_in names place))

  mode_same : (test : Mode → Bool) (place : ℕ) → is_medium_of test media (name_in names place) ≡ has_mode_at test media place
  mode_same test place = ap (has_mode test) (found_at medium_entry_name media place listed)

  mode_listed : (test : Mode → Bool) (place : ℕ) → has_mode_at test media place ≡ true → place < length media
  mode_listed test place has = elim (slice_get media place) as (λ o. slice_get media place ≡ o → has_mode test o ≡ true → place < length media) [
    | None ↦ λ e h. absurd cc
    | Some m ↦ λ e h. slice_get_within media place m e
  ] refl has

  common_same : (image : ImageRef) → is_common media (image_named names image) ≡ is_common_at media image
  common_same (refs.Medium place) = mode_same is_own place
  common_same (refs.Inner n) = refl

  above_same : (upper : List Slot) (port : ℕ) (image : ImageRef) → IsListedRef media image
      → is_above media (map (slot_named names) upper) port (image_named names image) ≡ is_above_at media upper port image
  above_same upper port image within =
      let any = any_same (slot_named names) (λ (s : NamedSlot). s.port == port && holds (image_named names image) s)
      (λ (s : Slot). s.port == port && slot_holds image s) (λ s. ap (λ b. s.port == port && b) (held_same image s.medium s.held within)) upper in
      let common = common_same image in
      λ i. any i || common i

  some_above_same : (upper : List Slot) (port : ℕ) (o : Option ImageRef) → IfSome o (IsListedRef media)
      → is_some_above media (map (slot_named names) upper) port (option_map (image_named names) o) ≡ is_some_above_at media upper port o
  some_above_same upper port None within = refl
  some_above_same upper port (Some image) within = above_same upper port image within

  merging_same : (js : List Merging) (image : ImageRef) → IsListedRef media image
      → merging_into (image_named names image) (map (merging_named names) js) ≡ option_map (merging_named names) (merging_at image js)
  merging_same js image within = find_same (merging_named names) (λ (j : NamedMerging). is_image j.parent (image_named names image))
      (λ (j : Merging). is_same_image j.parent image) (λ j. image_right j.parent image within) js

  mergings_same : (js : List Merging) (image : ImageRef) → IsListedRef media image
      → mergings_into (image_named names image) (map (merging_named names) js) ≡ mergings_at image js
  mergings_same js image within = count_same (merging_named names) (λ (j : NamedMerging). is_image j.parent (image_named names image))
      (λ (j : Merging). is_same_image j.parent image) (λ j. image_right j.parent image within) js

  parent_named : (o : Option Inner) → option_map (λ (x : NamedInner). x.parent) (option_map (inner_named names) o)
      ≡ option_map (image_named names) (option_map (λ (x : Inner). x.parent) o)
  parent_named None = refl
  parent_named (Some x) = refl

  parent_same : (inners : List Inner) (n : ℕ) → parent_of (map (inner_named names) inners) n ≡ option_map (image_named names) (parent_at inners n)
  parent_same inners n =
      ap (λ (xs : List NamedInner). option_map (λ (x : NamedInner). x.parent) (find (λ (x : NamedInner). x.number == n) xs))
      (sym (map-reverse (inner_named names) inners))
      ∙ ap (option_map (λ (x : NamedInner). x.parent))
      (find_same (inner_named names) (λ (x : NamedInner). x.number == n) (λ (x : Inner). x.number == n) (λ x. refl) (reverse inners))
      ∙ parent_named (find (λ (x : Inner). x.number == n) (reverse inners))

  parent_listed : (inners : List Inner) → AllByRecursion (λ (x : Inner). IsListedRef media x.parent) inners → (n : ℕ)
      → IfSome (parent_at inners n) (IsListedRef media)
  parent_listed inners all n =
      of_found (find (λ (x : Inner). x.number == n) (reverse inners))
      (found_all _ (λ (x : Inner). x.number == n) (reverse inners) (All-reverse _ inners all)) where
        of_found : (o : Option Inner) → IfSome o (λ (x : Inner). IsListedRef media x.parent)
            → IfSome (option_map (λ (x : Inner). x.parent) o) (IsListedRef media)
        of_found None h = tt
        of_found (Some x) h = h

  -- how many stand on an image, which need not be in the list
  children_same : (inners : List Inner) → AllByRecursion (λ (x : Inner). IsListedRef media x.parent) inners → (image : ImageRef)
      → count_by (λ (x : NamedInner). is_image x.parent (image_named names image)) (map (inner_named names) inners)
      ≡ count_by (λ (x : Inner). is_same_image image x.parent) inners
  children_same inners all image = count_same_in (inner_named names) (λ (x : NamedInner). is_image x.parent (image_named names image))
      (λ (x : Inner). is_same_image image x.parent) inners
      (All-map _ _ (λ x within. image_left x.parent image within ∙ same_image_swap x.parent image) inners all)

  -- ---- slots of machines

  module _ (test : NamedSlot → Bool) (q : Slot → Bool) (same : (s : Slot) → test (slot_named names s) ≡ q s) where
    in_snapshots : (others : List Name) (snapshots : List Snapshot)
        → sum_by (λ (s : NamedSnapshot). count_by test s.slots) (map (snapshot_named names others) snapshots)
        ≡ count_by q (slots_in_snapshots snapshots)
    in_snapshots others [] = refl
    in_snapshots others (s ∷ rest) =
        let first = count_same (slot_named names) test q same s.slots in
        let more = in_snapshots others rest in
        sum_by-cons (λ (t : NamedSnapshot). count_by test t.slots) (snapshot_named names others s) (map (snapshot_named names others) rest)
        ∙ (λ i. first i + more i) ∙ sym (sum_by-append (λ y. cond (q y) 1 0) s.slots (slots_in_snapshots rest))

    in_machine : (m : Machine) → count_in_machine test (machine_named names m) ≡ count_by q (slots_in_machine m)
    in_machine m =
        let first = count_same (slot_named names) test q same m.slots in
        let more = in_snapshots (snapshot_names m.snapshots) m.snapshots in
        (λ i. first i + more i) ∙ sym (sum_by-append (λ y. cond (q y) 1 0) m.slots (slots_in_snapshots m.snapshots))

    in_machines : (ms : List Machine) → count_in test (map (machine_named names) ms) ≡ count_by q (slots_in_machines ms)
    in_machines [] = refl
    in_machines (m ∷ rest) =
        let first = in_machine m in
        let more = in_machines rest in
        sum_by-cons (count_in_machine test) (machine_named names m) (map (machine_named names) rest)
        ∙ (λ i. first i + more i) ∙ sym (sum_by-append (λ y. cond (q y) 1 0) (slots_in_machine m) (slots_in_machines rest))

  holders_same : (image : ImageRef) → IsListedRef media image → (ms : List Machine)
      → count_in (holds (image_named names image)) (map (machine_named names) ms) ≡ count_by (slot_holds image) (slots_in_machines ms)
  holders_same image within =
      in_machines (holds (image_named names image)) (slot_holds image) (λ s. held_same image s.medium s.held within)

  users_same : (place : ℕ) → place < length media → (ms : List Machine)
      → count_in (has_directly (name_in names place)) (map (machine_named names) ms) ≡ count_by (slot_uses (refs.Medium place)) (slots_in_machines ms)
  users_same place within =
      in_machines (has_directly (name_in names place)) (slot_uses (refs.Medium place)) (λ s. used_same place s.medium s.held within)

-- ---- a library

all_placed : {X : Type 0} (p : X → Bool) (test : ℕ → X → Bool) (place : ℕ) (xs : List X)
    → ((i j : ℕ) (x : X) → slice_get xs i ≡ Some x → j ≡ place + i → p x ≡ test j x) → list_all p xs ≡ all_from test place xs
all_placed p test place [] same = refl
all_placed p test place (x ∷ xs) same =
    let first = same 0 place x refl (omega arith) in
    let rest = all_placed p test (place + 1) xs (λ i j y at is. same (suc i) j y at (omega arith)) in
    λ i. first i && rest i

module _ (l : Library) (has : HasNames l) where
  abbrev at : List Name
  at = medium_names l.media

  abbrev images : ListedImages
  images = images_of (named l)

  abbrev slots_at : List Slot → List NamedSlot
  slots_at slots = map (slot_named at) slots

  parent_above_same : (upper : List Slot) (port child : ℕ) (parent : ImageRef) (j : Option Merging) → IsListedRef l.media parent
      → is_parent_above images (slots_at upper) port child (image_named at parent) (option_map (merging_named at) j)
      ≡ is_parent_above_at (images_at l) upper port child parent j
  parent_above_same upper port child (refs.Medium place) None within = above_same l.media has.media upper port (refs.Medium place) within
  parent_above_same upper port child (refs.Inner n) None within = above_same l.media has.media upper port (refs.Inner n) within
  parent_above_same upper port child (refs.Medium place) (Some j) within = refl
  parent_above_same upper port child (refs.Inner n) (Some j) within = ap (λ b. j.child == child && b)
      (ap (is_some_above l.media (slots_at upper) port) (parent_same l.media has.media l.inners n)
      ∙ some_above_same l.media has.media upper port (parent_at l.inners n) (parent_listed l.media has.media l.inners has.parents n))

  child_same : (upper : List Slot) (port child : ℕ) (o : Option ImageRef) → IfSome o (IsListedRef l.media)
      → is_stacked_on images (slots_at upper) port child (option_map (image_named at) o) ≡ is_child_stacked (images_at l) upper port child o
  child_same upper port child None within = refl
  child_same upper port child (Some parent) within =
      ap (is_parent_above images (slots_at upper) port child (image_named at parent)) (merging_same l.media has.media l.merging parent within)
      ∙ parent_above_same upper port child parent (merging_at parent l.merging) within

  over_same : (upper : List Slot) (port : ℕ) (held : Held)
      → is_held_over images (slots_at upper) port held ≡ is_held_stacked (images_at l) upper port held
  over_same upper port Direct = refl
  over_same upper port (Own n) =
      ap (is_stacked_on images (slots_at upper) port n) (parent_same l.media has.media l.inners n)
      ∙ child_same upper port n (parent_at l.inners n) (parent_listed l.media has.media l.inners has.parents n)
  over_same upper port Base = refl

  passed_same : (lower : List Slot) (s : Slot)
      → (not (is_medium_of is_normal l.media (name_in at s.medium)) || has_slot_at s.port (name_in at s.medium) (slots_at lower))
      ≡ is_passed_on l.media lower s
  passed_same lower s =
      ap (λ t. not t || has_slot_at s.port (name_in at s.medium) (slots_at lower)) (mode_same l.media has.media is_normal s.medium)
      ∙ or_when (has_mode_at is_normal l.media s.medium) (has_slot_at s.port (name_in at s.medium) (slots_at lower))
      (has_slot_with s.port s.medium lower)
      (λ e. any_same (slot_named at) (λ (t : NamedSlot). t.port == s.port && bytes_eq t.medium (name_in at s.medium))
      (λ (t : Slot). t.port == s.port && t.medium == s.medium)
      (λ t. ap (λ b. t.port == s.port && b)
      (place_right l.media has.media t.medium s.medium (mode_listed l.media has.media is_normal s.medium e))) lower)

  under_same : (upper slots : List Slot) → are_under images (slots_at upper) (slots_at slots) ≡ are_slots_under (images_at l) upper slots
  under_same upper slots =
      let stacked = all_same (slot_named at) (is_stacked images (slots_at upper)) (is_slot_stacked (images_at l) upper)
      (λ s. over_same upper s.port s.held) slots in
      let passed = all_same (slot_named at)
      (λ (s : NamedSlot). not (is_medium_of is_normal l.media s.medium) || has_slot_at s.port s.medium (slots_at slots))
      (is_passed_on l.media slots) (passed_same slots) upper in
      λ i. stacked i && passed i

  places_named : (others : List Name) (o : Option Snapshot)
      → places_of_some (option_map (snapshot_named at others) o) ≡ slots_at (slots_of_some o)
  places_named others None = refl
  places_named others (Some s) = refl

  upper_same : (snapshots : List Snapshot) → AreNamed snapshot_entry_name snapshots → (place : Option ℕ)
      → upper_places (option_map (name_in (snapshot_names snapshots)) place) (map (snapshot_named at (snapshot_names snapshots)) snapshots)
      ≡ slots_at (upper_slots place snapshots)
  upper_same snapshots listed None = refl
  upper_same snapshots listed (Some place) =
      ap places_of_some (find_map (snapshot_named at (snapshot_names snapshots)) snapshot_entry_name named_snapshot_name (λ s. refl)
      (name_in (snapshot_names snapshots) place) snapshots)
      ∙ ap (λ o. places_of_some (option_map (snapshot_named at (snapshot_names snapshots)) o)) (found_at snapshot_entry_name snapshots place listed)
      ∙ places_named (snapshot_names snapshots) (slice_get snapshots place)

  machine_same : (m : Machine) → AreNamed snapshot_entry_name m.snapshots
      → is_machine_under images (machine_named at m) ≡ is_machine_stacked (images_at l) m
  machine_same m listed =
      let under : (place : Option ℕ) (slots : List Slot)
      → are_under images (upper_places (option_map (name_in (snapshot_names m.snapshots)) place)
      (map (snapshot_named at (snapshot_names m.snapshots)) m.snapshots)) (slots_at slots)
      ≡ are_slots_under (images_at l) (upper_slots place m.snapshots) slots =
      λ place slots. ap (λ u. are_under images u (slots_at slots)) (upper_same m.snapshots listed place)
      ∙ under_same (upper_slots place m.snapshots) slots in
      let own = under m.current m.slots in
      let each = all_same (snapshot_named at (snapshot_names m.snapshots))
      (is_snapshot_under images (map (snapshot_named at (snapshot_names m.snapshots)) m.snapshots))
      (is_snapshot_stacked (images_at l) m.snapshots) (λ s. under s.parent s.slots) m.snapshots in
      λ i. own i && each i

  some_same : (image : ImageRef) (o : Option ImageRef) → IfSome o (IsListedRef l.media)
      → is_some_image (image_named at image) (option_map (image_named at) o) ≡ is_some_same image o
  some_same image None within = refl
  some_same image (Some other) within = image_left l.media has.media other image within

  merged_same : (image : ImageRef) → is_merged_into l.media (image_named at image) ≡ is_merged_at l.media image
  merged_same (refs.Medium place) = mode_same l.media has.media is_normal place
  merged_same (refs.Inner n) = refl

  drawn_same : (next inner : ℕ) (image : ImageRef) (number : ℕ)
      → is_drawn next inner (image_named at image) number ≡ is_drawn_at next inner image number
  drawn_same next inner (refs.Medium place) number = refl
  drawn_same next inner (refs.Inner n) number = refl

  module _ (counts : SlotCounts) (children : ImageRef → ℕ) (counted : CountsSlots counts (slots_in_machines l.machines))
      (born : CountsChildren children l.inners) where
    abbrev machines_at : List NamedMachine
    machines_at = map (machine_named at) l.machines

    abbrev merging_named_at : List NamedMerging
    merging_named_at = map (merging_named at) l.merging

    once_same : (image : ImageRef) → IsListedRef l.media image
        → is_held_once machines_at merging_named_at (image_named at image) ≡ is_held_once_at counts.held l.merging image
    once_same image within =
        let holders = holders_same l.media has.media image within l.machines in
        let merged = mergings_same l.media has.media l.merging image within in
        (λ i. holders i + merged i == 1)
        ∙ sym (capped_once (count_by (slot_holds image) (slots_in_machines l.machines)) (mergings_at image l.merging))
        ∙ ap (λ n. n + mergings_at image l.merging == 1) (sym (counted.held image))

    children_some : (place : ℕ)
        → list_any (λ (x : NamedInner). is_image x.parent (OfMedium (name_in at place))) (map (inner_named at) l.inners)
        ≡ nat_le 1 (children (refs.Medium place))
    children_some place =
        let image : ImageRef = refs.Medium place in
        any_counted (λ (x : NamedInner). is_image x.parent (image_named at image)) (map (inner_named at) l.inners)
        ∙ ap (nat_le 1) (children_same l.media has.media l.inners has.parents image)
        ∙ sym (capped_some (count_by (λ (x : Inner). is_same_image image x.parent) l.inners))
        ∙ ap (nat_le 1) (sym (born place))

    holders_some : (image : ImageRef) → IsListedRef l.media image
        → nat_le 1 (count_in (holds (image_named at image)) machines_at) ≡ nat_le 1 (counts.held image)
    holders_some image within =
        ap (nat_le 1) (holders_same l.media has.media image within l.machines)
        ∙ sym (capped_some (count_by (slot_holds image) (slots_in_machines l.machines)))
        ∙ ap (nat_le 1) (sym (counted.held image))

    users_none : (place : ℕ) → place < length l.media
        → (count_in (has_directly (name_in at place)) machines_at == 0) ≡ (counts.used (refs.Medium place) == 0)
    users_none place within =
        ap (λ n. n == 0) (users_same l.media has.media place within l.machines)
        ∙ sym (capped_none (count_by (slot_uses (refs.Medium place)) (slots_in_machines l.machines)))
        ∙ ap (λ n. n == 0) (sym (counted.used (refs.Medium place)))

    medium_same : (place : ℕ) (m : Medium) → slice_get l.media place ≡ Some m
        → is_based_once (map (inner_named at) l.inners) machines_at merging_named_at m
        ≡ is_medium_held_once counts children l.merging place m
    medium_same place m there =
        let within : place < length l.media = slice_get_within l.media place m there in
        let called : m.name ≡ name_in at place = sym (name_get medium_entry_name l.media place m there) in
        let born_some = children_some place in
        let held_some = holders_some (refs.Medium place) within in
        let none = users_none place within in
        let once = once_same (refs.Medium place) within in
        (λ i. not (is_normal m.mode && is_based (map (inner_named at) l.inners) machines_at (called i))
        || (count_in (has_directly (called i)) machines_at == 0 && is_held_once machines_at merging_named_at (OfMedium (called i))))
        ∙ (λ i. not (is_normal m.mode && (born_some i || held_some i)) || (none i && once i))

    merging_rule_same : (j : Merging) → is_merging images machines_at (merging_named at j) ≡ is_merging_at (images_at l) l.inners counts.held j
    merging_rule_same j =
        let parent = ap (is_some_image (image_named at j.parent)) (parent_same l.media has.media l.inners j.child)
        ∙ some_same j.parent (parent_at l.inners j.child) (parent_listed l.media has.media l.inners has.parents j.child) in
        let merged = merged_same j.parent in
        let only = ap (λ n. n == 1) (children_same l.media has.media l.inners has.parents j.parent) in
        let held = ap (λ n. n == 1) (holders_same l.media has.media (refs.Inner j.child) tt l.machines)
        ∙ sym (capped_one (count_by (slot_holds (refs.Inner j.child)) (slots_in_machines l.machines)))
        ∙ ap (λ n. n == 1) (sym (counted.held (refs.Inner j.child))) in
        let once = ap (λ n. n == 1) (count_same (merging_named at) (λ (k : NamedMerging). k.child == j.child)
        (λ (k : Merging). k.child == j.child) (λ k. refl) l.merging) in
        λ i. parent i && merged i && only i && held i && once i

    pub kept_at_places : places_are_kept_at counts children l ≡ keeps_places l
    kept_at_places =
        let inners = all_same (inner_named at) (λ (x : NamedInner). is_held_once machines_at merging_named_at (OfInner x.number))
        (is_inner_held_once counts.held l.merging) (λ x. once_same (refs.Inner x.number) tt) l.inners in
        let based = all_placed (is_based_once (map (inner_named at) l.inners) machines_at merging_named_at)
        (is_medium_held_once counts children l.merging) 0 l.media
        (λ i j m there is. medium_same j m (subst (λ k. slice_get l.media k ≡ Some m) (let same : i ≡ j = omega arith in same) there)) in
        let under = all_same_in (machine_named at) (is_machine_under images) (is_machine_stacked (images_at l)) l.machines
        (All-map _ _ machine_same l.machines has.snapshots) in
        let merging = all_same (merging_named at) (is_merging images machines_at) (is_merging_at (images_at l) l.inners counts.held)
        merging_rule_same l.merging in
        let drawn = all_same (merging_named at) (λ (j : NamedMerging). is_drawn l.next l.inner j.parent j.number)
        (is_merging_drawn l.next l.inner) (λ j. drawn_same l.next l.inner j.parent j.number) l.merging in
        sym (λ i. inners i && based i && under i && merging i && drawn i)
