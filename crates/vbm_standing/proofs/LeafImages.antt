-- The images that a machine's slots hold: nothing stands on them, and nothing else holds them.
use Rattle.std.proofs.Common.{◌≡◌, ℕ, ◌+◌, ◌<◌, ◌≤◌, Bool, true, false, not, cond, ◌&&◌, List, [], ◌∷◌, reverse, Option, Some, None, IsTrue, refl, sym, ap, subst, ◌∙◌, arith, inl, inr, eqb-true}
use Rattle.std.specs.Prelude.{◌==◌, filter, count_by, sum_by}
use Rattle.std.specs.List.{AllByRecursion, list_any}
use Rattle.std.specs.Str.{bytes_eq}
use Rattle.std.proofs.lemmas.Bool.{cases_Bool, cond_both, false_from_ne_true, eq-eqb, ne_eqb}
use Rattle.std.proofs.lemmas.List.Sums.{sum_by-cons}
use Rattle.vbm_machines.specs.declared.Held.{Held}
use Rattle.vbm_machines.specs.declared.Held.TheVariants.{Direct, Own, Base}
use Rattle.vbm_named.specs.Names.{Name, find_by}
use Rattle.vbm_named.proofs.Lists.{find_cases, All-every, All-map, All-join, All-find, any_none}
use Rattle.vbm_registry.specs.declared.media.Medium.{Medium}
use Rattle.vbm_registry.specs.Named.{ImageName, OfMedium, OfInner, NamedInner, NamedSlot, NamedSnapshot, NamedMachine, NamedLibrary, images_of, named_snapshot_name, named_machine_name}
use Rattle.vbm_registry.specs.Chains.{is_image, parent_in, parent_of, merging_into}
use Rattle.vbm_registry.specs.Rules.{has_number, AreInners, holds, places_of_some, upper_places, is_above, is_parent_above, is_stacked_on, is_held, is_held_over, count_in_machine, count_in, mergings_into, IsHeldOnce, IsMachine, IsLibrary}
use Rattle.vbm_standing.specs.Edits.{own_in}
use Rattle.vbm_registry.proofs.ListLaws.{All-reverse, All-of_reverse}
use Rattle.vbm_registry.proofs.Counts.{sum-zero, count-zero, zero-sum, zero-count, any-count, split_count}
use Rattle.vbm_registry.proofs.InnerCounts.{in_bound}
use Rattle.vbm_standing.proofs.ChainLaws.{AreClosed}
use Rattle.vbm_standing.proofs.WorldParts.{OfHeld, OfPlace, OfMachine}
use Rattle.vbm_standing.proofs.PlacesHeld.{machine-listed}
use Rattle.vbm_standing.proofs.EditedStores.{each-number}
use Rattle.vbm_standing.proofs.FrozenMedia.{OfSlots}
use Rattle.vbm_standing.specs.EditedFiles.{IsStaying, HasImage}

-- ---- counts

module _ {X : Type 0} where
  pub All-forall : {N : Type 0} (P : N → X → Type 0) (xs : List X) → ((n : N) → AllByRecursion (P n) xs) → AllByRecursion (λ x. (n : N) → P n x) xs
  All-forall P [] all = tt
  All-forall P (x ∷ xs) all = (λ n. (all n).0, All-forall P xs (λ n. (all n).1))

abbrev snap_count : (NamedSlot → Bool) → NamedMachine → ℕ
snap_count test m = sum_by (λ (s : NamedSnapshot). count_by test s.slots) m.snapshots

pub nowhere : (test : NamedSlot → Bool) (l : NamedLibrary) → AllByRecursion (OfSlots (λ s. test s ≡ false)) l.machines → count_in test l.machines ≡ 0
nowhere test l all = zero-sum (count_in_machine test) l.machines (All-map _ _ (λ m free.
    let slots = zero-count test m.slots free.0 in
    let places = zero-sum (λ (s : NamedSnapshot). count_by test s.slots) m.snapshots (All-map _ _ (λ s e. zero-count test s.slots e) m.snapshots free.1) in
    omega (arith, slots, places)) l.machines all)

found-in_sum : (test : NamedSlot → Bool) (m : NamedMachine) (ms : List NamedMachine) → find_by named_machine_name m.name ms ≡ Some m
    → count_in_machine test m ≤ sum_by (count_in_machine test) ms
found-in_sum test m [] there = absurd cc
found-in_sum test m (x ∷ xs) there = find_cases named_machine_name m.name x xs (λ o. o ≡ Some m → count_in_machine test m ≤ sum_by (count_in_machine test) (x ∷ xs))
    (λ e is. let same : x ≡ m = cc in rw (sum_by-cons (count_in_machine test) x xs) (rw same (omega arith)))
    (λ e is. rw (sum_by-cons (count_in_machine test) x xs) (omega (arith, found-in_sum test m xs is))) there

-- what a machine holds in a slot, and all hold once, no snapshot holds, and no other machine
abbrev IsSole : (NamedSlot → Bool) → NamedMachine → NamedMachine → Type 0
IsSole test m x = (snap_count test x ≡ 0) × (bytes_eq x.name m.name ≡ false → count_in_machine test x ≡ 0)

sole : (test : NamedSlot → Bool) (m : NamedMachine) (ms : List NamedMachine) → find_by named_machine_name m.name ms ≡ Some m
    → sum_by (count_in_machine test) ms ≡ 1 → 1 ≤ count_by test m.slots → AllByRecursion (IsSole test m) ms
sole test m [] there once holds = tt
sole test m (x ∷ xs) there once holds = find_cases named_machine_name m.name x xs (λ o. o ≡ Some m → AllByRecursion (IsSole test m) (x ∷ xs))
    (λ e is.
    let same : x ≡ m = cc in
    let here : 1 ≤ count_by test x.slots = rw same holds in (
      (omega (arith, parts, here), λ other. let clash : true ≡ false = sym e ∙ other in absurd cc),
      All-map _ _ (λ y zero. (omega (arith, zero), λ other. zero)) xs (sum-zero (count_in_machine test) xs (omega (arith, parts, here))),
    ))
    (λ e is.
    let later = found-in_sum test m xs is in (
      (omega (arith, parts, later, holds), λ other. omega (arith, parts, later, holds)),
      sole test m xs is (omega (arith, parts, later, holds)) holds,
    )) there
  where
    parts : sum_by (count_in_machine test) (x ∷ xs) ≡ count_in_machine test x + sum_by (count_in_machine test) xs
    parts = sum_by-cons (count_in_machine test) x xs

-- ---- numbers

-- what holds of each listed number
pub All-number : (P : ℕ → Type 0) (xs : List NamedInner) (n : ℕ) → AllByRecursion (λ (x : NamedInner). P x.number) xs → has_number n xs ≡ true → P n
All-number P [] n all there = absurd cc
All-number P (x ∷ xs) n all there = elim (cases_Bool (x.number == n)) [
  | inl here ↦ subst P (eqb-true x.number n here) all.0
  | inr other ↦ All-number P xs n all.1 (rw other at there)
]

-- the parent that is found is the parent
pub each-parent : (media : List Medium) (bound : ℕ) (xs : List NamedInner) → AreInners media bound xs
    → AllByRecursion (λ (x : NamedInner). parent_in xs x.number ≡ Some x.parent) xs
each-parent media bound [] are = tt
each-parent media bound (x ∷ xs) are = (
  (let same = eq-eqb x.number x.number refl in rw same refl),
  All-join _ _ (λ (y : NamedInner). parent_in (x ∷ xs) y.number ≡ Some y.parent)
      (λ y lt is. let other : (x.number == y.number) ≡ false = ne_eqb x.number y.number (λ same. omega (arith, lt, same)) in rw other is)
      xs (in_bound media x.number xs are.2) (each-parent media x.number xs are.2),
)

-- ---- leaves

places_of_some-all : (P : NamedSlot → Type 0) (o : Option NamedSnapshot) → ((s : NamedSnapshot) → o ≡ Some s → AllByRecursion P s.slots) → AllByRecursion P (places_of_some o)
places_of_some-all P None all = tt
places_of_some-all P (Some s) all = all s refl

-- what holds of all places of snapshots holds of those of a named one
pub named-all : (P : NamedSlot → Type 0) (name : Option Name) (snapshots : List NamedSnapshot)
    → AllByRecursion (λ (s : NamedSnapshot). AllByRecursion P s.slots) snapshots → AllByRecursion P (upper_places name snapshots)
named-all P None snapshots all = tt
named-all P (Some name) snapshots all = places_of_some-all P (find_by named_snapshot_name name snapshots)
    (λ s is. All-find named_snapshot_name (λ s. AllByRecursion P s.slots) name s snapshots all is)

and_left_false : (a b : Bool) → b ≡ false → (a && b) ≡ false
and_left_false true b e = e
and_left_false false b e = refl

-- an image that listed places hold is listed
module _ (l : NamedLibrary) (n : ℕ) where
  one-listed : (medium : Name) (h : Held) → OfHeld (HasImage l) medium h → is_held (OfInner n) medium h ≡ true → has_number n (reverse l.inners) ≡ true
  one-listed medium Direct of held = absurd cc
  one-listed medium (Own k) of held = subst (λ i. has_number i (reverse l.inners) ≡ true) (sym (eqb-true n k held)) of
  one-listed medium Base of held = absurd cc

  pub any-listed : (slots : List NamedSlot) → AllByRecursion (OfPlace (HasImage l)) slots → own_in slots n ≡ true → has_number n (reverse l.inners) ≡ true
  any-listed [] all own = absurd cc
  any-listed (s ∷ slots) all own = elim (cases_Bool (holds (OfInner n) s)) [
    | inl here ↦ one-listed s.medium s.held all.0 here
    | inr other ↦ any-listed slots all.1 (rw other at own)
  ]

module _ (l : NamedLibrary) (is : IsLibrary l) (plain : l.merging ≡ []) where
  -- each listed image is held once
  once : (n : ℕ) → has_number n (reverse l.inners) ≡ true → count_in (holds (OfInner n)) l.machines ≡ 1
  once n there =
      let held = All-number (λ n. IsHeldOnce l.machines l.merging (OfInner n)) (reverse l.inners) n (All-reverse _ l.inners is.held) there in
      let none : mergings_into (OfInner n) l.merging ≡ 0 = ap (mergings_into (OfInner n)) plain in
      omega (arith, held, none)

  module _ (n : ℕ) (free : AllByRecursion (λ (m : NamedMachine). AllByRecursion (λ (s : NamedSnapshot). AllByRecursion (λ (t : NamedSlot). holds (OfInner n) t ≡ false) s.slots) m.snapshots) l.machines) where
    not-under : (upper : List NamedSlot) (port : ℕ) → AllByRecursion (λ (t : NamedSlot). holds (OfInner n) t ≡ false) upper
        → is_above l.media upper port (OfInner n) ≡ false
    not-under upper port none =
        let no : list_any (λ (s : NamedSlot). s.port == port && holds (OfInner n) s) upper ≡ false =
        any_none _ upper (All-map _ _ (λ s e. and_left_false (s.port == port) _ e) upper none) in
        rw no refl

    -- a place whose image stands on it does not stack
    not-stacked : (upper : List NamedSlot) (port child : ℕ) → AllByRecursion (λ (t : NamedSlot). holds (OfInner n) t ≡ false) upper
        → parent_of l.inners child ≡ Some (OfInner n) → is_stacked_on (images_of l) upper port child (parent_of l.inners child) ≡ false
    not-stacked upper port child none parent =
        ap (is_stacked_on (images_of l) upper port child) parent
        ∙ ap (λ js. is_parent_above (images_of l) upper port child (OfInner n) (merging_into (OfInner n) js)) plain
        ∙ not-under upper port none

    apart-held : (upper : List NamedSlot) (port child : ℕ) (medium : Name) (h : Held) → AllByRecursion (λ (t : NamedSlot). holds (OfInner n) t ≡ false) upper
        → parent_of l.inners child ≡ Some (OfInner n) → IsTrue (is_held_over (images_of l) upper port h) → is_held (OfInner child) medium h ≡ false
    apart-held upper port child medium Direct none parent stands = refl
    apart-held upper port child medium (Own i) none parent stands = elim (cases_Bool (child == i)) [
      | inl same ↦
          let child_is : child ≡ i = eqb-true child i same in
          let no : is_stacked_on (images_of l) upper port i (parent_of l.inners i) ≡ false = not-stacked upper port i none (ap (parent_of l.inners) (sym child_is) ∙ parent) in
          let clash : true ≡ false = sym stands ∙ no in absurd cc
      | inr other ↦ other
    ]
    apart-held upper port child medium Base none parent stands = refl

    -- no place holds an image that stands on it
    unheld : (child : ℕ) → parent_of l.inners child ≡ Some (OfInner n) → AllByRecursion (OfSlots (λ s. holds (OfInner child) s ≡ false)) l.machines
    unheld child parent = All-join _ _ _ (λ m of none. (
      (let upper = upper_places m.current m.snapshots in
          All-map _ _ (λ s stacked. apart-held upper s.port child s.medium s.held (named-all _ m.current m.snapshots none) parent stacked) m.slots of.slots.stacked),
      All-map _ _ (λ t of. let upper = upper_places t.parent m.snapshots in
          All-map _ _ (λ s stacked. apart-held upper s.port child s.medium s.held (named-all _ t.parent m.snapshots none) parent stacked) t.slots of.places.stacked) m.snapshots of.snapshots,
    )) l.machines is.machines free

    -- nothing stands on an image that no snapshot holds
    pub nothing-on : AllByRecursion (λ (x : NamedInner). is_image x.parent (OfInner n) ≡ false) l.inners
    nothing-on = All-of_reverse _ l.inners (All-join _ _ _ (λ x there parent. none x.number x.parent there parent)
        (reverse l.inners) (each-number (reverse l.inners)) (each-parent l.media l.inner (reverse l.inners) is.inners))
      where
        none : (child : ℕ) (image : ImageName) → has_number child (reverse l.inners) ≡ true → parent_of l.inners child ≡ Some image → is_image image (OfInner n) ≡ false
        none child (OfMedium name) there parent = refl
        none child (OfInner i) there parent = elim (cases_Bool (i == n)) [
          | inl same ↦
              let i_is : i ≡ n = eqb-true i n same in
              let zero = nowhere (holds (OfInner child)) l (unheld child (parent ∙ ap (λ j. Some (OfInner j)) i_is)) in
              let one = once child there in
              absurd (omega (arith, zero, one))
          | inr other ↦ other
        ]

  -- ---- a machine's own images

  module _ (m : NamedMachine) (there : find_by named_machine_name m.name l.machines ≡ Some m) where
    -- an image that a slot holds is listed
    slot-number : (n : ℕ) → own_in m.slots n ≡ true → has_number n (reverse l.inners) ≡ true
    slot-number n own = any-listed l n m.slots (machine-listed l m (All-find named_machine_name (IsMachine (images_of l)) m.name m l.machines is.machines there)).0 own

    held-sole : (n : ℕ) → own_in m.slots n ≡ true → AllByRecursion (IsSole (holds (OfInner n)) m) l.machines
    held-sole n own = sole (holds (OfInner n)) m l.machines there (once n (slot-number n own)) (any-count (holds (OfInner n)) m.slots own)

    -- no snapshot holds it
    pub unsnapped : (n : ℕ) → own_in m.slots n ≡ true
        → AllByRecursion (λ (x : NamedMachine). AllByRecursion (λ (s : NamedSnapshot). AllByRecursion (λ (t : NamedSlot). holds (OfInner n) t ≡ false) s.slots) x.snapshots) l.machines
    unsnapped n own = All-map _ _ (λ x alone. All-map _ _ (λ s zero. count-zero (holds (OfInner n)) s.slots zero) x.snapshots
        (sum-zero (λ (s : NamedSnapshot). count_by (holds (OfInner n)) s.slots) x.snapshots alone.0)) l.machines (held-sole n own)

    -- nothing stands on it
    pub leaf : (n : ℕ) → own_in m.slots n ≡ true → AllByRecursion (λ (x : NamedInner). is_image x.parent (OfInner n) ≡ false) l.inners
    leaf n own = nothing-on n (unsnapped n own)

    -- where such images go, what stays stands on what stays
    pub leaves-closed : (gone : ℕ → Bool) → ((n : ℕ) → gone n ≡ true → own_in m.slots n ≡ true) → AreClosed gone l.inners
    leaves-closed gone of = All-map _ _ (λ x none stays. closed x.parent none) l.inners (All-forall _ l.inners each)
      where
        each : (n : ℕ) → AllByRecursion (λ (x : NamedInner). gone n ≡ true → is_image x.parent (OfInner n) ≡ false) l.inners
        each n = elim (cases_Bool (gone n)) [
          | inl goes ↦ All-map _ _ (λ x e so. e) l.inners (leaf n (of n goes))
          | inr here ↦ All-every _ (λ x so. let clash : true ≡ false = sym so ∙ here in absurd cc) l.inners
        ]

        closed : (image : ImageName) → ((n : ℕ) → gone n ≡ true → is_image image (OfInner n) ≡ false) → IsStaying gone image
        closed (OfMedium name) none = tt
        closed (OfInner n) none = false_from_ne_true (gone n) (λ goes.
            let clash : true ≡ false = sym (eq-eqb n n refl) ∙ none n goes in absurd cc)

    -- ---- what other places hold stays

    module _ (gone : ℕ → Bool) (of : (n : ℕ) → gone n ≡ true → own_in m.slots n ≡ true) where
      abbrev Apart : ℕ → NamedSlot → Type 0
      Apart n t = gone n ≡ true → holds (OfInner n) t ≡ false

      held-staying : (medium : Name) (h : Held) → ((n : ℕ) → gone n ≡ true → is_held (OfInner n) medium h ≡ false) → OfHeld (IsStaying gone) medium h
      held-staying medium Direct none = tt
      held-staying medium (Own k) none = false_from_ne_true (gone k) (λ goes.
          let clash : true ≡ false = sym (eq-eqb k k refl) ∙ none k goes in absurd cc)
      held-staying medium Base none = tt

      places-staying : (slots : List NamedSlot) → ((n : ℕ) → AllByRecursion (Apart n) slots) → AllByRecursion (OfPlace (IsStaying gone)) slots
      places-staying slots each = All-map _ _ (λ t none. held-staying t.medium t.held none) slots (All-forall Apart slots each)

      abbrev SnapsApart : ℕ → NamedMachine → Type 0
      SnapsApart n x = AllByRecursion (λ (s : NamedSnapshot). AllByRecursion (Apart n) s.slots) x.snapshots

      snaps-apart : (n : ℕ) → AllByRecursion (SnapsApart n) l.machines
      snaps-apart n = elim (cases_Bool (gone n)) [
        | inl goes ↦ All-map _ _ (λ x all. All-map _ _ (λ s none. All-map _ _ (λ t e so. e) s.slots none) x.snapshots all) l.machines (unsnapped n (of n goes))
        | inr here ↦ All-every _ (λ x. All-every _ (λ s. All-every _ (λ t so. let clash : true ≡ false = sym so ∙ here in absurd cc) s.slots) x.snapshots) l.machines
      ]

      -- those of snapshots
      pub snaps-stay : AllByRecursion (λ (x : NamedMachine). AllByRecursion (λ (s : NamedSnapshot). AllByRecursion (OfPlace (IsStaying gone)) s.slots) x.snapshots) l.machines
      snaps-stay = All-map _ _ (λ x all. All-map _ _ (λ s each. places-staying s.slots each) x.snapshots
          (All-forall (λ (n : ℕ) (s : NamedSnapshot). AllByRecursion (Apart n) s.slots) x.snapshots all)) l.machines (All-forall SnapsApart l.machines snaps-apart)

      abbrev SlotsApart : ℕ → NamedMachine → Type 0
      SlotsApart n x = bytes_eq x.name m.name ≡ false → AllByRecursion (Apart n) x.slots

      slots-apart : (n : ℕ) → AllByRecursion (SlotsApart n) l.machines
      slots-apart n = elim (cases_Bool (gone n)) [
        | inl goes ↦ All-map _ _ (λ x alone other.
            let zero = alone.1 other in
            All-map _ _ (λ t e so. e) x.slots (count-zero (holds (OfInner n)) x.slots (omega (arith, zero)))) l.machines (held-sole n (of n goes))
        | inr here ↦ All-every _ (λ x other. All-every _ (λ t so. let clash : true ≡ false = sym so ∙ here in absurd cc) x.slots) l.machines
      ]

      -- and those of other machines
      pub others-stay : AllByRecursion (λ (x : NamedMachine). bytes_eq x.name m.name ≡ false → OfMachine (IsStaying gone) x) l.machines
      others-stay = All-join _ _ _ (λ x each snaps other. (places-staying x.slots (λ n. each n other), snaps)) l.machines
          (All-forall SlotsApart l.machines slots-apart) snaps-stay

-- ---- slots of which some go

any_filter : {X : Type 0} (p q : X → Bool) (xs : List X) → list_any p (filter q xs) ≡ true → list_any p xs ≡ true
any_filter p q [] any = any
any_filter p q (x ∷ xs) any = elim (cases_Bool (p x)) [
  | inl here ↦ rw here refl
  | inr other ↦ rw other (any_filter p q xs (cond_both (q x) (x ∷ filter q xs) (filter q xs) (λ l. list_any p l ≡ true → list_any p (filter q xs) ≡ true)
      (λ e any. rw other at any) (λ e any. any) any))
]

module _ (l : NamedLibrary) (is : IsLibrary l) (plain : l.merging ≡ []) (m : NamedMachine) (there : find_by named_machine_name m.name l.machines ≡ Some m)
    (q : NamedSlot → Bool) where
  -- the images of these slots go
  abbrev pub going : ℕ → Bool
  going = own_in (filter q m.slots)

  pub going-own : (n : ℕ) → going n ≡ true → own_in m.slots n ≡ true
  going-own n goes = any_filter (holds (OfInner n)) q m.slots goes

  abbrev left : List NamedSlot
  left = filter (λ (s : NamedSlot). not (q s)) m.slots

  kept-apart : (n : ℕ) → going n ≡ true → AllByRecursion (λ (t : NamedSlot). holds (OfInner n) t ≡ false) left
  kept-apart n goes =
      let test = holds (OfInner n) in
      let one = once l is plain n (slot-number l is plain m there n (going-own n goes)) in
      let most = found-in_sum test m l.machines there in
      let parts = split_count test q m.slots in
      let some = any-count test (filter q m.slots) goes in
      count-zero test left (omega (arith, one, most, parts, some))

  -- those of the others stay
  pub left-stay : AllByRecursion (OfPlace (IsStaying going)) left
  left-stay = places-staying l is plain m there going going-own left each
    where
      each : (n : ℕ) → AllByRecursion (λ (t : NamedSlot). going n ≡ true → holds (OfInner n) t ≡ false) left
      each n = elim (cases_Bool (going n)) [
        | inl goes ↦ All-map _ _ (λ t e so. e) left (kept-apart n goes)
        | inr here ↦ All-every _ (λ t so. let clash : true ≡ false = sym so ∙ here in absurd cc) left
      ]
