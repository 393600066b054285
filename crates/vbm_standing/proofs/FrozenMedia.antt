-- A normal medium that a machine shares is not frozen.
use Rattle.std.proofs.Common.{◌≡◌, ℕ, ◌+◌, Bool, true, false, not, cond, ◌&&◌, List, [], ◌∷◌, reverse, Some, refl, sym, ap, subst, ◌∙◌, arith, inl, inr, IsTrue, leb-false}
use Rattle.std.specs.Prelude.{◌==◌, count_by, sum_by, nat_le}
use Rattle.std.specs.List.{AllByRecursion, list_any}
use Rattle.std.specs.Str.{bytes_eq}
use Rattle.std.proofs.lemmas.Bool.{cases_Bool, or_parts, and_parts, false_from_ne_true}
use Rattle.std.proofs.lemmas.List.Sums.{sum_by-cons}
use Rattle.std.proofs.lemmas.Slice.Eq.{bytes_eq-Decides}
use Rattle.vbm_modes.specs.declared.Mode.{Mode}
use Rattle.vbm_modes.specs.declared.Mode.TheVariants.{Normal, Immutable, Writethrough, MultiAttach, Readonly}
use Rattle.vbm_machines.specs.declared.Held.{Held}
use Rattle.vbm_machines.specs.declared.Held.TheVariants.{Direct, Own, Base}
use Rattle.vbm_named.specs.Names.{Name, find_by}
use Rattle.vbm_world.specs.World.{is_normal}
use Rattle.vbm_named.proofs.Lists.{name_refl, name_sym, All-every, All-map, All-join, All-both, All-find, find_named, any_none, none_of_any}
use Rattle.vbm_registry.specs.declared.media.Medium.{Medium}
use Rattle.vbm_registry.specs.Library.{medium_entry_name}
use Rattle.vbm_registry.specs.Named.{ImageName, OfMedium, OfInner, NamedInner, NamedSlot, NamedSnapshot, NamedMachine, NamedLibrary, images_of, named_machine_name}
use Rattle.vbm_registry.specs.Chains.{is_image, parent_down, inner_down, medium_below}
use Rattle.vbm_standing.specs.Meaning.{has_snapshot_of, is_frozen_in}
use Rattle.vbm_registry.specs.Held.{may_hold}
use Rattle.vbm_registry.specs.Rules.{IsOwnOf, IsNamedSlot, holds, count_in_machine, count_in, has_directly, is_based, IsSnapshotOf, IsMachine, IsLibrary}
use Rattle.vbm_registry.proofs.Counts.{sum-zero, count-zero}
use Rattle.vbm_registry.proofs.ListLaws.{All-reverse}

-- ---- counts

module _ {X : Type 0} where
  pub All-swap : {Y : Type 0} (P : X → Y → Type 0) (xs : List X) (ys : List Y) → AllByRecursion (λ x. AllByRecursion (P x) ys) xs
      → AllByRecursion (λ y. AllByRecursion (λ x. P x y) xs) ys
  All-swap P [] ys all = All-every _ (λ y. tt) ys
  All-swap P (x ∷ xs) ys all = All-both (P x) (λ y. AllByRecursion (λ z. P z y) xs) ys all.0 (All-swap P xs ys all.1)

-- of each slot, and of each place of each snapshot
abbrev pub OfSlots : (NamedSlot → Type 0) → NamedMachine → Type 0
OfSlots P m = AllByRecursion P m.slots × AllByRecursion (λ (s : NamedSnapshot). AllByRecursion P s.slots) m.snapshots

pub none-placed : (test : NamedSlot → Bool) (l : NamedLibrary) → count_in test l.machines ≡ 0 → AllByRecursion (OfSlots (λ s. test s ≡ false)) l.machines
none-placed test l none = All-map _ _ (λ m zero.
    let parts : count_in_machine test m ≡ 0 = zero in (
      count-zero test m.slots (omega (arith, parts)),
      All-map _ _ (λ s e. count-zero test s.slots e) m.snapshots (sum-zero (λ (s : NamedSnapshot). count_by test s.slots) m.snapshots (omega (arith, parts))),
    ))
    l.machines (sum-zero (count_in_machine test) l.machines none)

-- ---- media on which nothing stands

pub normal_is : (mode : Mode) → is_normal mode ≡ true → mode ≡ Normal
normal_is Normal e = refl
normal_is Immutable e = absurd cc
normal_is Writethrough e = absurd cc
normal_is MultiAttach e = absurd cc
normal_is Readonly e = absurd cc

parent_down-below : (f : ℕ → List ImageName) (name : Name) (image : ImageName) → medium_below (parent_down f image) ≡ Some name
    → is_image image (OfMedium name) ≡ false → (n : ℕ) × (medium_below (f n) ≡ Some name)
parent_down-below f name (OfMedium other) is apart =
    let same : other ≡ name = cc in
    let no : true ≡ false = sym (name_refl name) ∙ ap (λ o. bytes_eq o name) (sym same) ∙ apart in
    absurd cc
parent_down-below f name (OfInner n) is apart = (n, is)

-- where no image stands on the medium itself, no chain ends at it
no-chain : (xs : List NamedInner) (name : Name) → AllByRecursion (λ (x : NamedInner). is_image x.parent (OfMedium name) ≡ false) xs
    → (n : ℕ) → medium_below (inner_down xs n) ≡ Some name → ⊥
unfolding inner_down
no-chain [] name apart n is = absurd cc
no-chain (x ∷ xs) name apart n is = elim (cases_Bool (x.number == n)) [
  | inl here ↦
      let down = parent_down-below (inner_down xs) name x.parent (rw here at is) apart.0 in
      no-chain xs name apart.1 down.0 down.1
  | inr other ↦ no-chain xs name apart.1 n (rw other at is)
]

module _ (l : NamedLibrary) (n : Medium) (there : find_by medium_entry_name n.name l.media ≡ Some n) (normal : is_normal n.mode ≡ true)
    (apart : AllByRecursion (λ (x : NamedInner). is_image x.parent (OfMedium n.name) ≡ false) l.inners) where
  held-apart : (h : Held) (mode : Mode) → mode ≡ Normal → IsTrue (may_hold true mode h)
      → IsOwnOf l.inners n.name h → (s : NamedSlot) → s.medium ≡ n.name → s.held ≡ h → holds (OfMedium n.name) s ≡ true
  held-apart Direct mode is may own s name held = let no : false ≡ true = rw is at may in absurd cc
  held-apart (Own i) mode is may own s name held =
      absurd (no-chain (reverse l.inners) n.name (All-reverse _ l.inners apart) i own)
  held-apart Base mode is may own s name held =
      let same : bytes_eq n.name s.medium ≡ true = ap (bytes_eq n.name) name ∙ name_refl n.name in
      rw held same

  -- a place of a snapshot that does not hold the medium's image is of another medium
  pub place-apart : (s : NamedSlot) → IsNamedSlot (images_of l) true s → holds (OfMedium n.name) s ≡ false → bytes_eq s.medium n.name ≡ false
  place-apart s is free = false_from_ne_true _ (λ same.
      let name : s.medium ≡ n.name = (bytes_eq-Decides s.medium n.name).0 same in
      let both : Some is.medium ≡ Some n = sym is.there ∙ ap (λ x. find_by medium_entry_name x l.media) name ∙ there in
      let medium : is.medium ≡ n = cc in
      let mode : is.medium.mode ≡ Normal = ap (λ (m : Medium). m.mode) medium ∙ normal_is n.mode normal in
      let held : true ≡ false = sym (held-apart s.held is.medium.mode mode is.held (subst (λ x. IsOwnOf l.inners x s.held) name is.own) s name refl) ∙ free in
      absurd cc)

  -- it is in no snapshot
  pub unsnapped : AllByRecursion (IsMachine (images_of l)) l.machines → count_in (holds (OfMedium n.name)) l.machines ≡ 0 → list_any (has_snapshot_of n.name) l.machines ≡ false
  unsnapped machines none = any_none (has_snapshot_of n.name) l.machines (All-join (IsMachine (images_of l)) _ _ (λ m is free.
      any_none _ m.snapshots (All-join (IsSnapshotOf (images_of l) m) _ _ (λ s of free.
      any_none _ s.slots (All-join (IsNamedSlot (images_of l) true) _ _ place-apart s.slots of.places.valid.each free)) m.snapshots is.snapshots free.1))
      l.machines machines (none-placed (holds (OfMedium n.name)) l none))

-- ---- media that a machine shares

-- a normal medium on which something stands is Direct nowhere
not-direct : (l : NamedLibrary) (m : NamedMachine) → IsLibrary l → find_by named_machine_name m.name l.machines ≡ Some m
    → AllByRecursion (λ (n : Medium). AllByRecursion (λ (s : NamedSlot). (is_normal n.mode && is_based l.inners l.machines n.name) ≡ true → has_directly n.name s ≡ false) m.slots) l.media
not-direct l m is there = All-map _ _ (λ n based.
    elim (cases_Bool (is_normal n.mode && is_based l.inners l.machines n.name)) [
      | inl holds_so ↦
          let both = and_parts (is_normal n.mode) (is_based l.inners l.machines n.name) holds_so in
          let free = All-find named_machine_name (OfSlots (λ s. has_directly n.name s ≡ false)) m.name m l.machines
          (none-placed (has_directly n.name) l (based both.0 both.1).nowhere) there in
          All-map _ _ (λ s e so. e) m.slots free.0
      | inr fails ↦ All-every _ (λ s so. let clash : true ≡ false = sym so ∙ fails in absurd cc) m.slots
    ]) l.media is.based

-- a normal medium that a machine shares is not frozen
pub unfrozen : (l : NamedLibrary) (m : NamedMachine) → IsLibrary l → find_by named_machine_name m.name l.machines ≡ Some m
    → AllByRecursion (λ (s : NamedSlot). (n : Medium) → find_by medium_entry_name s.medium l.media ≡ Some n → s.held ≡ Direct → is_frozen_in l.machines n ≡ false) m.slots
unfrozen l m is there =
    All-map _ _ each m.slots (All-swap (λ (n : Medium) (s : NamedSlot). (is_normal n.mode && is_based l.inners l.machines n.name) ≡ true → has_directly n.name s ≡ false)
    l.media m.slots (not-direct l m is there))
  where
    free : (n : Medium) → find_by medium_entry_name n.name l.media ≡ Some n → is_based l.inners l.machines n.name ≡ false → (normal : Bool) → is_normal n.mode ≡ normal
        → (normal && list_any (has_snapshot_of n.name) l.machines) ≡ false
    free n found none true normal =
        let both = or_parts (list_any (λ (x : NamedInner). is_image x.parent (OfMedium n.name)) l.inners) (nat_le 1 (count_in (holds (OfMedium n.name)) l.machines)) none in
        unsnapped l n found normal (none_of_any _ l.inners both.0) is.machines (no_place _ both.1)
      where
        no_place : (count : ℕ) → nat_le 1 count ≡ false → count ≡ 0
        no_place count e = omega (arith, leb-false 1 count e)
    free n found none false normal = refl

    each : (s : NamedSlot) → AllByRecursion (λ (n : Medium). (is_normal n.mode && is_based l.inners l.machines n.name) ≡ true → has_directly n.name s ≡ false) l.media
        → (n : Medium) → find_by medium_entry_name s.medium l.media ≡ Some n → s.held ≡ Direct → is_frozen_in l.machines n ≡ false
    each s all n found direct =
        let same = find_named medium_entry_name s.medium n l.media found in
        let name : n.name ≡ s.medium = (bytes_eq-Decides n.name s.medium).0 same in
        let here : find_by medium_entry_name n.name l.media ≡ Some n = ap (λ x. find_by medium_entry_name x l.media) name ∙ found in
        let shares : has_directly n.name s ≡ true =
        let equal : bytes_eq s.medium n.name ≡ true = name_sym s.medium n.name ∙ same in rw (equal, direct) refl in
        let apart = All-find medium_entry_name _ s.medium n l.media all found in
        elim (cases_Bool (is_based l.inners l.machines n.name)) [
          | inl based ↦ elim (cases_Bool (is_normal n.mode)) [
            | inl normal ↦ let clash : true ≡ false = sym shares ∙ apart (rw (normal, based) refl) in absurd cc
            | inr other ↦ rw other refl
          ]
          | inr none ↦ free n here none (is_normal n.mode) refl
        ]
