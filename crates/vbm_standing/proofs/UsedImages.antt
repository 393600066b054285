-- Images that machines' slots use: nothing stands on them, and no snapshot holds them, in the middle of mergings too.
use Rattle.std.proofs.Common.{◌≡◌, ℕ, ◌+◌, ◌≤◌, Bool, true, false, ◌&&◌, List, [], ◌∷◌, reverse, Option, Some, None, refl, sym, ap, subst, ◌∙◌, arith, inl, inr, eqb-true}
use Rattle.std.specs.Prelude.{◌==◌, find, count_by, sum_by}
use Rattle.std.specs.List.{AllByRecursion, list_any}
use Rattle.std.proofs.lemmas.Bool.{cases_Bool, and_right}
use Rattle.vbm_machines.specs.declared.Held.{Held}
use Rattle.vbm_machines.specs.declared.Held.TheVariants.{Direct, Own, Base}
use Rattle.vbm_named.specs.Names.{Name, is_named, find_by}
use Rattle.vbm_named.proofs.Lists.{All-every, All-map, All-join, All-find, any_none}
use Rattle.vbm_registry.specs.Named.{ImageName, OfMedium, OfInner, NamedInner, NamedSlot, NamedSnapshot, NamedMachine, NamedMerging, NamedLibrary, images_of, named_machine_name}
use Rattle.vbm_registry.specs.Chains.{is_image, parent_of, merging_into}
use Rattle.vbm_registry.specs.Rules.{has_number, holds, upper_places, is_above, is_some_above, is_parent_above, is_stacked_on, is_held, is_held_over, count_in, mergings_into, IsHeldOnce, IsMachine, IsLibrary}
use Rattle.vbm_standing.specs.Edits.{own_in}
use Rattle.vbm_standing.proofs.PlacesHeld.{machine-listed}
use Rattle.vbm_registry.proofs.ListLaws.{All-reverse, All-of_reverse}
use Rattle.vbm_registry.proofs.Counts.{sum-zero, count-zero, any-count, zero-count}
use Rattle.vbm_standing.proofs.LeafImages.{All-number, any-listed, nowhere, each-parent, named-all}
use Rattle.vbm_standing.proofs.FirstSnapshots.{sum-plus, any-sum, found-any, place_count, slot_count, merging-rules, merging-parent}

find_none : {X : Type 0} (p : X → Bool) (xs : List X) → AllByRecursion (λ x. p x ≡ false) xs → find p xs ≡ None
find_none p [] all = refl
find_none p (x ∷ xs) all = let no = all.0 in rw no (find_none p xs all.1)

find_some : {X : Type 0} (p : X → Bool) (xs : List X) (o : Option X) → find p xs ≡ o → o ≡ None → AllByRecursion (λ x. p x ≡ false) xs
find_some p [] o e none = tt
find_some p (x ∷ xs) o e none = elim (cases_Bool (p x)) [
  | inl here ↦ let found : Some x ≡ None = rw here at (e ∙ none) in absurd cc
  | inr other ↦ (other, find_some p xs o (rw other at e) none)
]

-- no place of a snapshot holds the image
abbrev pub IsUnsnapped : NamedLibrary → ℕ → Type 0
IsUnsnapped l n = AllByRecursion (λ (m : NamedMachine). AllByRecursion (λ (s : NamedSnapshot).
    AllByRecursion (λ (t : NamedSlot). holds (OfInner n) t ≡ false) s.slots) m.snapshots) l.machines

module _ (l : NamedLibrary) (is : IsLibrary l) (n : ℕ) (free : IsUnsnapped l n) (unmerged : mergings_into (OfInner n) l.merging ≡ 0) where
  none-into : merging_into (OfInner n) l.merging ≡ None
  none-into = find_none (λ (j : NamedMerging). is_image j.parent (OfInner n)) l.merging
      (count-zero (λ (j : NamedMerging). is_image j.parent (OfInner n)) l.merging unmerged)

  not-above : (upper : List NamedSlot) (port : ℕ) → AllByRecursion (λ (t : NamedSlot). holds (OfInner n) t ≡ false) upper
      → is_above l.media upper port (OfInner n) ≡ false
  not-above upper port none =
      let no : list_any (λ (s : NamedSlot). s.port == port && holds (OfInner n) s) upper ≡ false =
      any_none _ upper (All-map _ _ (λ s e. rw e (and_right (s.port == port) false refl)) upper none) in
      rw no refl

  -- an image that stands on nothing that a snapshot holds is held by no place
  module _ (c : ℕ) (loose : (upper : List NamedSlot) (port : ℕ) → AllByRecursion (λ (t : NamedSlot). holds (OfInner n) t ≡ false) upper
      → is_stacked_on (images_of l) upper port c (parent_of l.inners c) ≡ false) where
    held-not : (upper : List NamedSlot) (port : ℕ) (medium : Name) (h : Held) → AllByRecursion (λ (t : NamedSlot). holds (OfInner n) t ≡ false) upper
        → is_held_over (images_of l) upper port h ≡ true → is_held (OfInner c) medium h ≡ false
    held-not upper port medium Direct none stands = refl
    held-not upper port medium (Own i) none stands = elim (cases_Bool (c == i)) [
      | inl same ↦
          let number : c ≡ i = eqb-true c i same in
          let no : is_stacked_on (images_of l) upper port i (parent_of l.inners i) ≡ false =
          subst (λ k. is_stacked_on (images_of l) upper port k (parent_of l.inners k) ≡ false) number (loose upper port none) in
          let clash : true ≡ false = sym stands ∙ no in absurd cc
      | inr other ↦ other
    ]
    held-not upper port medium Base none stands = refl

    unheld : count_in (holds (OfInner c)) l.machines ≡ 0
    unheld = nowhere (holds (OfInner c)) l (All-join _ _ _ (λ m of none. (
      (let upper = upper_places m.current m.snapshots in
          All-map _ _ (λ s stands. held-not upper s.port s.medium s.held (named-all _ m.current m.snapshots none) stands) m.slots of.slots.stacked),
      All-map _ _ (λ t rules. let upper = upper_places t.parent m.snapshots in
          All-map _ _ (λ s stands. held-not upper s.port s.medium s.held (named-all _ t.parent m.snapshots none) stands) t.slots
          rules.places.stacked) m.snapshots of.snapshots,
    )) l.machines is.machines free)

  -- a child
  child-loose : (c : ℕ) → parent_of l.inners c ≡ Some (OfInner n) → (upper : List NamedSlot) (port : ℕ)
      → AllByRecursion (λ (t : NamedSlot). holds (OfInner n) t ≡ false) upper
      → is_stacked_on (images_of l) upper port c (parent_of l.inners c) ≡ false
  child-loose c parent upper port none =
      ap (is_stacked_on (images_of l) upper port c) parent
      ∙ ap (is_parent_above (images_of l) upper port c (OfInner n)) none-into
      ∙ not-above upper port none

  -- the child of a child that is being merged
  second-loose : (c d : ℕ) (j : NamedMerging) → parent_of l.inners c ≡ Some (OfInner n) → parent_of l.inners d ≡ Some (OfInner c)
      → merging_into (OfInner c) l.merging ≡ Some j → (upper : List NamedSlot) (port : ℕ)
      → AllByRecursion (λ (t : NamedSlot). holds (OfInner n) t ≡ false) upper
      → is_stacked_on (images_of l) upper port d (parent_of l.inners d) ≡ false
  second-loose c d j parent second into upper port none =
      ap (is_stacked_on (images_of l) upper port d) second
      ∙ ap (is_parent_above (images_of l) upper port d (OfInner c)) into
      ∙ ap (λ o. j.child == d && is_some_above l.media upper port o) parent
      ∙ ap (λ b. j.child == d && b) (not-above upper port none)
      ∙ and_right (j.child == d) false refl

  image-inner : (image : ImageName) (c : ℕ) → is_image image (OfInner c) ≡ true → image ≡ OfInner c
  image-inner (OfInner k) c same = ap OfInner (eqb-true k c same)
  image-inner (OfMedium name) c same = absurd cc

  child-none : (c : ℕ) → parent_of l.inners c ≡ Some (OfInner n) → IsHeldOnce l.machines l.merging (OfInner c) → ⊥
  child-none c parent once =
      let zero = unheld c (child-loose c parent) in by (merging_into (OfInner c) l.merging) refl zero
    where
      by : (o : Option NamedMerging) → merging_into (OfInner c) l.merging ≡ o → count_in (holds (OfInner c)) l.machines ≡ 0 → ⊥
      by None e zero =
          let none = zero-count (λ (j : NamedMerging). is_image j.parent (OfInner c)) l.merging
          (find_some (λ (j : NamedMerging). is_image j.parent (OfInner c)) l.merging None e refl) in
          omega (arith, zero, none, once)
      by (Some j) e zero =
          let rules = merging-rules l is (OfInner c) j e in
          let second : parent_of l.inners j.child ≡ Some (OfInner c) = rules.parent
          ∙ ap Some (image-inner j.parent c (merging-parent l is (OfInner c) j e)) in
          let none = unheld j.child (second-loose c j.child j parent second e) in
          omega (arith, none, rules.held)

  -- nothing stands on the image
  pub nothing-over : AllByRecursion (λ (x : NamedInner). is_image x.parent (OfInner n) ≡ false) l.inners
  nothing-over = All-join _ _ _ (λ x parent once. by x.number x.parent parent once) l.inners
      (All-of_reverse _ l.inners (each-parent l.media l.inner (reverse l.inners) is.inners)) is.held
    where
      by : (c : ℕ) (image : ImageName) → parent_of l.inners c ≡ Some image → IsHeldOnce l.machines l.merging (OfInner c)
          → is_image image (OfInner n) ≡ false
      by c (OfMedium name) parent once = refl
      by c (OfInner i) parent once = elim (cases_Bool (i == n)) [
        | inl same ↦ absurd (child-none c (parent ∙ ap (λ k. Some (OfInner k)) (eqb-true i n same)) once)
        | inr other ↦ other
      ]

-- ---- an image that a machine's slot holds

module _ (l : NamedLibrary) (is : IsLibrary l) (m : NamedMachine) (there : find_by named_machine_name m.name l.machines ≡ Some m)
    (n : ℕ) (own : own_in m.slots n ≡ true) where
  abbrev here : NamedSlot → Bool
  here = holds (OfInner n)

  slot-number : has_number n (reverse l.inners) ≡ true
  slot-number = any-listed l n m.slots
      (machine-listed l m (All-find named_machine_name (IsMachine (images_of l)) m.name m l.machines is.machines there)).0 own

  -- it is held once, and nothing is merged into it
  pub used-once : IsHeldOnce l.machines l.merging (OfInner n)
  used-once = All-number (λ k. IsHeldOnce l.machines l.merging (OfInner k)) (reverse l.inners) n (All-reverse _ l.inners is.held) slot-number

  parts : count_in here l.machines ≡ sum_by (slot_count here) l.machines + sum_by (place_count here) l.machines
  parts = sum-plus (slot_count here) (place_count here) l.machines

  some-slot : 1 ≤ sum_by (slot_count here) l.machines
  some-slot = any-sum (λ (x : NamedMachine). own_in x.slots n) (slot_count here) l.machines (All-every _ (λ x e. any-count here x.slots e) l.machines)
      (found-any (λ (x : NamedMachine). is_named named_machine_name m.name x) (λ (x : NamedMachine). own_in x.slots n) m l.machines there own)

  -- no snapshot holds it
  pub used-unsnapped : IsUnsnapped l n
  used-unsnapped = All-map _ _ (λ x zero. All-map _ _ (λ s none. count-zero here s.slots none) x.snapshots
      (sum-zero (λ (s : NamedSnapshot). count_by here s.slots) x.snapshots zero)) l.machines
      (sum-zero (place_count here) l.machines (let p = parts in let s = some-slot in let o = used-once in omega (arith, p, s, o)))

  -- nothing stands on it
  pub used-leaf : AllByRecursion (λ (x : NamedInner). is_image x.parent (OfInner n) ≡ false) l.inners
  used-leaf = nothing-over l is n used-unsnapped (let p = parts in let s = some-slot in let o = used-once in omega (arith, p, s, o))
