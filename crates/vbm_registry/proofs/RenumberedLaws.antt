-- Edits of a library's lists are edits of the library by names: where places are renumbered, all of them name what they named.
use Rattle.std.proofs.Common.{◌≡◌, ◌≢◌, ℕ, zero, suc, ◌+◌, Bool, true, false, not, cond, ◌||◌, List, [], ◌∷◌, ◌++◌, map, reverse, get_or, Option, Some, None, refl, sym, ap, subst, ◌∙◌, arith, inl, inr}
use Rattle.std.specs.Prelude.{◌==◌, filter}
use Rattle.std.specs.List.{AllByRecursion, list_any, position_or_len, slice_get}
use Rattle.std.specs.Option.{option_map}
use Rattle.std.specs.Str.{bytes_eq}
use Rattle.std.proofs.lemmas.Bool.{cases_Bool, cond_both, or_parts}
use Rattle.std.proofs.lemmas.List.{map-append}
use Rattle.std.proofs.lemmas.Simd.{map-map}
use Rattle.vbm_modes.specs.declared.Mode.{Mode}
use Rattle.vbm_machines.specs.Renumbering.{EachSlot}
use Rattle.vbm_machines.specs.declared.Slot.{Slot}
use Rattle.vbm_machines.specs.declared.Snapshot.{Snapshot}
use Rattle.vbm_machines.specs.declared.Machine.{Machine}
use Rattle.vbm_named.specs.Names.{Name, is_named, has_name, put_by, without, change_by}
use Rattle.vbm_named.specs.Places.{shifted, closed_up, place_for}
use Rattle.vbm_named.proofs.Lists.{name_refl, same_name, All-every, All-map, any_map, none_of_any, find_named, put_map, without_map, change_map}
use Rattle.vbm_named.proofs.Places.{get_put, get_without}
use Rattle.vbm_registry.specs.declared.media.Medium.{Medium}
use Rattle.vbm_registry.specs.declared.library.Inner.{Inner}
use Rattle.vbm_registry.specs.declared.library.ImageRef.{ImageRef}
use Rattle.vbm_registry.specs.declared.library.ImageRef.TheVariants as refs
use Rattle.vbm_registry.specs.declared.library.Merging.{Merging}
use Rattle.vbm_registry.specs.declared.library.Library.{Library}
use Rattle.vbm_registry.specs.Library.{medium_entry_name}
use Rattle.vbm_registry.specs.Grammar.{machine_entry_name}
use Rattle.vbm_registry.specs.Named.{ImageName, OfMedium, NamedInner, NamedSlot, NamedMachine, NamedMerging, named_machine_name, name_in, image_named, inner_named, slot_named, snapshot_named, snapshot_names, machine_named, merging_named, medium_names, named}
use Rattle.vbm_registry.specs.Chains.{is_image, parent_in, parent_of}
use Rattle.vbm_registry.specs.Rules.{IsLibrary}
use Rattle.vbm_registry.specs.Entries.{medium_put, medium_gone, library_with_mode, machine_put, machine_gone, machine_renewed, inner_put, inners_left, IsUnused}
use Rattle.vbm_registry.specs.Renumbered.{ref_moved, inner_moved, slot_moved, snapshot_moved, machine_moved, merging_moved, medium_place, with_medium_entry, without_medium_entry, with_mode_entry, with_inner_entry, without_inner_entry, with_machine_entry, without_machine_entry, with_machine_renewed}
use Rattle.vbm_registry.proofs.ListLaws.{map-same, All-reverse}

-- ---- places that lead to the same names

module _ (to : ℕ → ℕ) (old new : List Name) (Kept : ℕ → Type 0) (same : (place : ℕ) → Kept place → name_in new (to place) ≡ name_in old place) where
  abbrev OfRef : ImageRef → Type 0
  OfRef (refs.Medium place) = Kept place
  OfRef (refs.Inner n) = Unit {0}

  image-moved : (r : ImageRef) → OfRef r → image_named new (ref_moved to r) ≡ image_named old r
  image-moved (refs.Medium place) kept = ap OfMedium (same place kept)
  image-moved (refs.Inner n) kept = refl

  inner-moved : (x : Inner) → OfRef x.parent → inner_named new (inner_moved to x) ≡ inner_named old x
  inner-moved x kept = let parent = image-moved x.parent kept in λ i. record { number = x.number; parent = parent i }

  slot-moved : (s : Slot) → Kept s.medium → slot_named new (slot_moved to s) ≡ slot_named old s
  slot-moved s kept = λ i. record { port = s.port; medium = same s.medium kept i; autoreset = s.autoreset; held = s.held }

  abbrev KeptSlots : List Slot → Type 0
  KeptSlots slots = AllByRecursion (λ (s : Slot). Kept s.medium) slots

  slots-moved : (slots : List Slot) → KeptSlots slots → map (slot_named new) (map (slot_moved to) slots) ≡ map (slot_named old) slots
  slots-moved slots kept = map-map (slot_named new) (slot_moved to) slots ∙ map-same _ _ slots (All-map _ _ slot-moved slots kept)

  snapshot-moved : (names : List Name) (s : Snapshot) → KeptSlots s.slots
      → snapshot_named new names (snapshot_moved to s) ≡ snapshot_named old names s
  snapshot-moved names s kept =
      let slots = slots-moved s.slots kept in λ i. record { name = s.name; parent = option_map (name_in names) s.parent; slots = slots i }

  names-moved : (snapshots : List Snapshot) → snapshot_names (map (snapshot_moved to) snapshots) ≡ snapshot_names snapshots
  names-moved snapshots = map-map (λ (s : Snapshot). s.name) (snapshot_moved to) snapshots

  abbrev IsKept : Machine → Type 0
  IsKept m = EachSlot (λ (s : Slot). Kept s.medium) m

  machine-moved : (m : Machine) → IsKept m → machine_named new (machine_moved to m) ≡ machine_named old m
  machine-moved m kept =
      let names = names-moved m.snapshots in
      let slots = slots-moved m.slots kept.slots in
      let snapshots : map (snapshot_named new (snapshot_names m.snapshots)) (map (snapshot_moved to) m.snapshots)
      ≡ map (snapshot_named old (snapshot_names m.snapshots)) m.snapshots =
      map-map (snapshot_named new (snapshot_names m.snapshots)) (snapshot_moved to) m.snapshots
      ∙ map-same _ _ m.snapshots (All-map _ _ (snapshot-moved (snapshot_names m.snapshots)) m.snapshots kept.places) in
      let all = ap (λ ns. map (snapshot_named new ns) (map (snapshot_moved to) m.snapshots)) names ∙ snapshots in
      λ i. record {
        name = m.name;
        slots = slots i;
        snapshots = all i;
        current = option_map (name_in (names i)) m.current;
      }

  merging-moved : (j : Merging) → OfRef j.parent → merging_named new (merging_moved to j) ≡ merging_named old j
  merging-moved j kept = let parent = image-moved j.parent kept in λ i. record { parent = parent i; child = j.child; number = j.number }

  inners-moved : (xs : List Inner) → AllByRecursion (λ (x : Inner). OfRef x.parent) xs
      → map (inner_named new) (map (inner_moved to) xs) ≡ map (inner_named old) xs
  inners-moved xs kept = map-map (inner_named new) (inner_moved to) xs ∙ map-same _ _ xs (All-map _ _ inner-moved xs kept)

  machines-moved : (ms : List Machine) → AllByRecursion IsKept ms → map (machine_named new) (map (machine_moved to) ms) ≡ map (machine_named old) ms
  machines-moved ms kept = map-map (machine_named new) (machine_moved to) ms ∙ map-same _ _ ms (All-map _ _ machine-moved ms kept)

  mergings-moved : (js : List Merging) → AllByRecursion (λ (j : Merging). OfRef j.parent) js
      → map (merging_named new) (map (merging_moved to) js) ≡ map (merging_named old) js
  mergings-moved js kept = map-map (merging_named new) (merging_moved to) js ∙ map-same _ _ js (All-map _ _ merging-moved js kept)

-- ---- the names of media

abbrev found_name : Option Medium → Name
found_name None = []
found_name (Some m) = m.name

name_in-get : (ms : List Medium) (place : ℕ) → name_in (medium_names ms) place ≡ found_name (slice_get ms place)
name_in-get [] place = refl
name_in-get (m ∷ ms) zero = refl
name_in-get (m ∷ ms) (suc place) = name_in-get ms place

-- ---- a medium enters

-- A place of before names what its new one names.
pub name_in-put : (m : Medium) (ms : List Medium) (place : ℕ)
    → name_in (medium_names (put_by medium_entry_name m ms)) (shifted (place_for medium_entry_name m.name ms) place) ≡ name_in (medium_names ms) place
name_in-put m ms place =
    name_in-get (put_by medium_entry_name m ms) (shifted (place_for medium_entry_name m.name ms) place)
    ∙ ap found_name (get_put medium_entry_name m ms place)
    ∙ sym (name_in-get ms place)

pub named-medium_entry : (l : Library) (m : Medium) → named (with_medium_entry l m) ≡ medium_put (named l) m
named-medium_entry l m =
    let to = shifted (place_for medium_entry_name m.name l.media) in
    let old = medium_names l.media in
    let new = medium_names (put_by medium_entry_name m l.media) in
    let Kept : ℕ → Type 0 = λ place. Unit {0} in
    let same = λ (place : ℕ) (kept : Unit {0}). name_in-put m l.media place in
    let of_ref = every-ref to old new Kept same (λ place. tt) in
    let inners = inners-moved to old new Kept same l.inners (All-every _ (λ x. of_ref x.parent) l.inners) in
    let machines = machines-moved to old new Kept same l.machines (All-every _ (λ x. record {
      slots = All-every _ (λ s. tt) x.slots;
      places = All-every _ (λ s. All-every _ (λ t. tt) s.slots) x.snapshots;
    }) l.machines) in
    let merging = mergings-moved to old new Kept same l.merging (All-every _ (λ j. of_ref j.parent) l.merging) in
    λ i. record {
      seed = l.seed;
      next = l.next;
      inner = l.inner;
      media = put_by medium_entry_name m l.media;
      inners = inners i;
      machines = machines i;
      making = l.making;
      merging = merging i;
    }
  where
    every-ref : (to : ℕ → ℕ) (old new : List Name) (Kept : ℕ → Type 0) (same : (place : ℕ) → Kept place → name_in new (to place) ≡ name_in old place)
        → ((place : ℕ) → Kept place) → (r : ImageRef) → OfRef to old new Kept same r
    every-ref to old new Kept same kept (refs.Medium place) = kept place
    every-ref to old new Kept same kept (refs.Inner n) = tt

-- ---- a medium leaves

-- the medium of a name at its place
place-found : (name : Name) (ms : List Medium) → has_name medium_entry_name name ms ≡ true
    → (m : Medium) × (slice_get ms (position_or_len (is_named medium_entry_name name) ms) ≡ Some m) × (m.name ≡ name)
place-found name [] there = absurd cc
place-found name (m ∷ ms) there = elim (cases_Bool (bytes_eq m.name name)) [
  | inl here ↦ (m, rw here refl, same_name m.name name here)
  | inr other ↦
      let later = place-found name ms (rw other at there) in
      let next : 1 + position_or_len (is_named medium_entry_name name) ms ≡ suc (position_or_len (is_named medium_entry_name name) ms) = omega arith
      in
      (later.0, rw other (ap (slice_get (m ∷ ms)) next ∙ later.1), later.2)
]

-- what all inner images' parents have, that of a number has
pub parent-all : (P : ImageName → Type 0) (xs : List NamedInner) (n : ℕ) (image : ImageName) → AllByRecursion (λ (x : NamedInner). P x.parent) xs
    → parent_in xs n ≡ Some image → P image
parent-all P [] n image all e = absurd cc
parent-all P (x ∷ xs) n image all e = elim (cases_Bool (x.number == n)) [
  | inl here ↦ let found : Some x.parent ≡ Some image = rw here at e in let same : x.parent ≡ image = cc in subst P same all.0
  | inr other ↦ parent-all P xs n image all.1 (rw other at e)
]

module _ (l : Library) (name : Name) (is : IsLibrary (named l)) (there : has_name medium_entry_name name l.media ≡ true)
    (unused : IsUnused (named l) name) where
  abbrev old : List Name
  old = medium_names l.media

  abbrev new : List Name
  new = medium_names (without medium_entry_name name l.media)

  -- a place that names another medium
  abbrev IsOther : ℕ → Type 0
  IsOther place = bytes_eq (name_in old place) name ≡ false

  other-place : (place : ℕ) → IsOther place → place ≢ medium_place l name
  other-place place other e =
      let found = place-found name l.media there in
      let at : name_in old (medium_place l name) ≡ name = name_in-get l.media (medium_place l name) ∙ ap found_name found.1 ∙ found.2 in
      let clash : true ≡ false = sym (name_refl name) ∙ ap (λ n. bytes_eq n name) (sym at) ∙ ap (λ p. bytes_eq (name_in old p) name) (sym e)
      ∙ other in
      absurd cc

  same-left : (place : ℕ) → IsOther place → name_in new (closed_up (medium_place l name) place) ≡ name_in old place
  same-left place other =
      let found = place-found name l.media there in
      let left = get_without medium_entry_name l.media (medium_place l name) found.0 is.media_rise found.1 place (other-place place other) in
      name_in-get (without medium_entry_name name l.media) (closed_up (medium_place l name) place)
      ∙ ap (λ n. found_name (slice_get (without medium_entry_name n l.media) (closed_up (medium_place l name) place))) (sym found.2)
      ∙ ap found_name left
      ∙ sym (name_in-get l.media place)

  abbrev IsOtherRef : ImageRef → Type 0
  IsOtherRef r = OfRef (closed_up (medium_place l name)) old new IsOther same-left r

  other-ref : (r : ImageRef) → is_image (image_named old r) (OfMedium name) ≡ false → IsOtherRef r
  other-ref (refs.Medium place) e = e
  other-ref (refs.Inner n) e = tt

  other-slots : (slots : List Slot) → list_any (λ (s : NamedSlot). bytes_eq s.medium name) (map (slot_named old) slots) ≡ false
      → AllByRecursion (λ (s : Slot). IsOther s.medium) slots
  other-slots slots none = none_of_any _ slots (sym (any_map (slot_named old) _ slots) ∙ none)

  parents-other : AllByRecursion (λ (x : NamedInner). is_image x.parent (OfMedium name) ≡ false) (named l).inners
  parents-other = none_of_any _ (named l).inners unused.parents

  mergings-other : AllByRecursion (λ (j : NamedMerging). is_image j.parent (OfMedium name) ≡ false) (named l).merging
  mergings-other = All-map _ _ (λ j rules. parent-all (λ image. is_image image (OfMedium name) ≡ false) (reverse (named l).inners) j.child j.parent
      (All-reverse _ (named l).inners parents-other) rules.parent) (named l).merging is.merging

  -- A place of another medium names what its new one names.
  pub named-without_medium : named (without_medium_entry l name) ≡ medium_gone (named l) name
  named-without_medium =
      let to = closed_up (medium_place l name) in
      let inners = inners-moved to old new IsOther same-left l.inners (All-map _ _ (λ x e. other-ref x.parent e) l.inners
      (none_of_any _ l.inners (sym (any_map (inner_named old) _ l.inners) ∙ unused.parents))) in
      let machines = machines-moved to old new IsOther same-left l.machines (All-map _ _ (λ m e.
      let both = or_parts (list_any (λ (s : NamedSlot). bytes_eq s.medium name) (map (slot_named old) m.slots)) _ e in record {
        slots = other-slots m.slots both.0;
        places = All-map _ _ (λ s none. other-slots s.slots none) m.snapshots (none_of_any _ m.snapshots
            (sym (any_map (snapshot_named old (snapshot_names m.snapshots)) _ m.snapshots) ∙ both.1));
      }) l.machines (none_of_any _ l.machines (sym (any_map (machine_named old) _ l.machines) ∙ unused.slots))) in
      let merging = mergings-moved to old new IsOther same-left l.merging (All-map _ _ (λ j e. other-ref j.parent e) l.merging
      (All-back (merging_named old) _ l.merging mergings-other)) in
      λ i. record {
        seed = l.seed;
        next = l.next;
        inner = l.inner;
        media = without medium_entry_name name l.media;
        inners = inners i;
        machines = machines i;
        making = l.making;
        merging = merging i;
      }
    where
      All-back : {X Y : Type 0} (f : X → Y) (P : Y → Type 0) (xs : List X) → AllByRecursion P (map f xs) → AllByRecursion (λ x. P (f x)) xs
      All-back f P [] all = tt
      All-back f P (x ∷ xs) all = (all.0, All-back f P xs all.1)

-- ---- a medium of another mode

-- all names stay
pub named-with_mode : (l : Library) (name : Name) (mode : Mode) → named (with_mode_entry l name mode) ≡ library_with_mode (named l) name mode
named-with_mode l name mode =
    let names = map-map medium_entry_name renew l.media ∙ map-same _ _ l.media (All-every _ keeps l.media) in
    λ i. record {
      seed = l.seed;
      next = l.next;
      inner = l.inner;
      media = map renew l.media;
      inners = map (inner_named (names i)) l.inners;
      machines = map (machine_named (names i)) l.machines;
      making = l.making;
      merging = map (merging_named (names i)) l.merging;
    }
  where
    renew : Medium → Medium
    renew x = cond (is_named medium_entry_name name x) (record x { mode = mode }) x

    keeps : (x : Medium) → medium_entry_name (renew x) ≡ medium_entry_name x
    keeps x = cond_both (is_named medium_entry_name name x) (record x { mode = mode }) x (λ y. y.name ≡ x.name) (λ e. refl) (λ e. refl)

-- ---- inner images and machines, which nothing names by a place

filter-map : {X Y : Type 0} (f : X → Y) (p : Y → Bool) (xs : List X) → map f (filter (λ x. p (f x)) xs) ≡ filter p (map f xs)
filter-map f p [] = refl
filter-map f p (x ∷ xs) = elim (cases_Bool (p (f x))) [
  | inl here ↦ rw here (ap (λ ys. f x ∷ ys) (filter-map f p xs))
  | inr other ↦ rw other (filter-map f p xs)
]

pub named-with_inner : (l : Library) (x : Inner) → named (with_inner_entry l x) ≡ inner_put (named l) (inner_named (medium_names l.media) x)
named-with_inner l x = let inners = map-append (inner_named (medium_names l.media)) l.inners (x ∷ []) in λ i. record (named l) { inners = inners i }

pub named-without_inner : (l : Library) (n : ℕ)
    → named (without_inner_entry l n) ≡ record (named l) { inners = inners_left (λ k. k == n) (named l).inners }
named-without_inner l n =
    let inners = filter-map (inner_named (medium_names l.media)) (λ (x : NamedInner). not (x.number == n)) l.inners in λ i. record (named l)
    { inners = inners i }

pub named-with_machine : (l : Library) (m : Machine) → named (with_machine_entry l m) ≡ machine_put (named l) (machine_named (medium_names l.media) m)
named-with_machine l m =
    let machines = put_map (machine_named (medium_names l.media)) machine_entry_name named_machine_name (λ x. refl) m l.machines in
    λ i. record (named l) { machines = machines i }

pub named-without_machine : (l : Library) (name : Name) → named (without_machine_entry l name) ≡ machine_gone (named l) name
named-without_machine l name =
    let machines = without_map (machine_named (medium_names l.media)) machine_entry_name named_machine_name (λ x. refl) name l.machines in
    λ i. record (named l) { machines = machines i }

pub named-with_machine_renewed : (l : Library) (m : Machine)
    → named (with_machine_renewed l m) ≡ machine_renewed (named l) (machine_named (medium_names l.media) m)
named-with_machine_renewed l m =
    let g = machine_named (medium_names l.media) in
    let machines : map g (change_by machine_entry_name m.name (λ _. m) l.machines) ≡ change_by named_machine_name m.name (λ _. g m)
    (map g l.machines) =
    map-map g (λ x. cond (is_named machine_entry_name m.name x) m x) l.machines
    ∙ change_map g machine_entry_name named_machine_name (λ x. refl) (λ x. g (cond (is_named machine_entry_name m.name x) m x)) m.name (λ _. g m)
    l.machines
    (All-every _ (λ x. of_test x (bytes_eq x.name m.name)) l.machines) in
    λ i. record (named l) { machines = machines i }
  where
    of_test : (x : Machine) (t : Bool) → machine_named (medium_names l.media) (cond t m x)
        ≡ cond t (machine_named (medium_names l.media) m) (machine_named (medium_names l.media) x)
    of_test x true = refl
    of_test x false = refl
