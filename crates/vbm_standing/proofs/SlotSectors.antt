-- Guests write to the images that slots use, so what they have not settled shows at their own slots alone.
use Rattle.std.proofs.Common.{◌≡◌, ℕ, ◌<◌, ◌≤◌, Bool, true, false, ◌&&◌, ◌||◌, List, [], ◌∷◌, reverse, Option, Some, None, refl, sym, ap, subst, ◌∙◌, arith, inl, inr, IsTrue, is_some, eqb-true}
use Rattle.std.specs.Prelude.{◌==◌, count_by}
use Rattle.std.specs.List.{AllByRecursion, list_any}
use Rattle.std.specs.Str.{bytes_eq}
use Rattle.std.proofs.lemmas.Bool.{cases_Bool, and_right, false_from_ne_true, eq-eqb, le-leb}
use Rattle.std.proofs.lemmas.Slice.Eq.{bytes_eq-Decides}
use Rattle.vbm_ports.specs.Names.{is_medium_name}
use Rattle.vbm_modes.specs.declared.Mode.{Mode}
use Rattle.vbm_modes.specs.declared.Mode.TheVariants.{Normal, Immutable, Writethrough, MultiAttach, Readonly}
use Rattle.vbm_machines.specs.declared.Held.{Held}
use Rattle.vbm_machines.specs.declared.Held.TheVariants.{Direct, Own, Base}
use Rattle.vbm_named.specs.Names.{Name, find_by}
use Rattle.vbm_named.proofs.Lists.{name_refl, name_sym, has_found, each_found, All-every, All-map, All-join, All-both, All-find, find_named, any_none}
use Rattle.vbm_world.specs.World.{is_normal, is_layered}
use Rattle.vbm_world.specs.Loose.{Unsettled}
use Rattle.vbm_registry.specs.declared.media.Medium.{Medium}
use Rattle.vbm_registry.specs.Library.{medium_entry_name}
use Rattle.vbm_registry.specs.Named.{ImageName, OfMedium, OfInner, NamedInner, NamedSlot, NamedSnapshot, NamedMachine, NamedLibrary, images_of, named_machine_name}
use Rattle.vbm_registry.specs.Chains.{is_image}
use Rattle.vbm_registry.specs.Held.{may_hold}
use Rattle.vbm_registry.specs.Rules.{has_mode, is_medium_of, has_number, IsParent, AreInners, IsOwnOf, IsNamedSlot, is_held, holds, is_held_directly, has_directly, count_in, is_based, IsBasedOnce, IsMachine, IsLibrary}
use Rattle.vbm_registry.proofs.ListLaws.{All-of_reverse}
use Rattle.vbm_standing.specs.ChainDisks.{inner_file, image_file}
use Rattle.vbm_standing.specs.Edits.{image_held}
use Rattle.vbm_standing.specs.EditedFiles.{HasImage}
use Rattle.vbm_standing.specs.SlotSectors.{slot_file, unsettled_in}
use Rattle.vbm_standing.proofs.InnerFiles.{inner_file-same, inner_not_medium}
use Rattle.vbm_standing.proofs.FrozenMedia.{OfSlots, none-placed}
use Rattle.vbm_registry.proofs.Counts.{any-count}
use Rattle.vbm_standing.proofs.FirstSnapshots.{any-gives, each-any, sum-plus, any-sum, place_count, slot_count}
use Rattle.vbm_standing.proofs.PlacesHeld.{own-listed}
use Rattle.vbm_standing.proofs.UsedImages.{used-unsnapped, used-leaf}
use Rattle.vbm_standing.proofs.MediaWorlds.{named-listed}

-- no slot uses the file
abbrev pub IsFreeFile : NamedLibrary → Name → Type 0
IsFreeFile l file = AllByRecursion (λ (m : NamedMachine). AllByRecursion (λ (s : NamedSlot). bytes_eq (slot_file l.seed s) file ≡ false) m.slots)
    l.machines

-- such a file is settled
pub free-settled : (l : NamedLibrary) (u : Unsettled) (file : Name) → IsFreeFile l file → (i : ℕ) → unsettled_in l u file i ≡ false
free-settled l u file free i = any_none _ l.machines
    (All-map _ _ (λ m all. any_none _ m.slots (All-map _ _ (λ s apart. rw apart refl) m.slots all)) l.machines free)

-- a layered medium that a machine's slot shares is normal
shared-normal : (mode : Mode) → is_layered mode ≡ true → may_hold false mode Direct ≡ true → is_normal mode ≡ true
shared-normal Normal layered may = refl
shared-normal Immutable layered may = absurd cc
shared-normal MultiAttach layered may = absurd cc
shared-normal Writethrough layered may = absurd cc
shared-normal Readonly layered may = absurd cc

pub no-base : (mode : Mode) → may_hold false mode Base ≡ true → ⊥
no-base mode may = absurd cc

module _ (l : NamedLibrary) (is : IsLibrary l) where
  -- ---- the files of images

  listed-low : (bound : ℕ) (xs : List NamedInner) (n : ℕ) → AreInners l.media bound xs → has_number n xs ≡ true → n < bound
  listed-low bound [] n are there = absurd cc
  listed-low bound (x ∷ xs) n are there = elim (cases_Bool (x.number == n)) [
    | inl here ↦ let same : x.number ≡ n = eqb-true x.number n here in omega (arith, are.0, same)
    | inr other ↦ let low = listed-low x.number xs n are.2 (rw other at there) in omega (arith, low, are.0)
  ]

  -- listed inner images have files of their own
  pub files-apart : (n k : ℕ) → has_number n (reverse l.inners) ≡ true → has_number k (reverse l.inners) ≡ true
      → bytes_eq (inner_file l.seed n) (inner_file l.seed k) ≡ true → n ≡ k
  files-apart n k first second same =
      let a = listed-low l.inner (reverse l.inners) n is.inners first in
      let b = listed-low l.inner (reverse l.inners) k is.inners second in
      inner_file-same l.seed is.seed.long is.seed.bytes n k (omega (arith, a, is.inner)) (omega (arith, b, is.inner)) ((bytes_eq-Decides _ _).0 same)

  pub medium-not-inner : (name : Name) (n : ℕ) → IsTrue (is_medium_name name) → bytes_eq name (inner_file l.seed n) ≡ false
  medium-not-inner name n named = false_from_ne_true (bytes_eq name (inner_file l.seed n)) (λ same.
      let clash : true ≡ false = sym named ∙ ap is_medium_name ((bytes_eq-Decides name (inner_file l.seed n)).0 same)
      ∙ inner_not_medium l.seed n in absurd cc)

  -- ---- what slots do not use

  -- an image that no slot holds, or, a medium's own, that no slot shares
  unfoldable pub IsFreeImage : NamedSlot → ImageName → Type 0
  IsFreeImage s (OfMedium name) = has_directly name s ≡ false
  IsFreeImage s (OfInner n) = holds (OfInner n) s ≡ false

  module _ (s : NamedSlot) (of : IsNamedSlot (images_of l) false s) (own : (k : ℕ) → s.held ≡ Own k → has_number k (reverse l.inners) ≡ true) where
    slot-named : IsTrue (is_medium_name s.medium)
    slot-named = named-listed l is s.medium (has_found medium_entry_name s.medium l.media ∙ ap is_some of.there)

    pub file-free : (image : ImageName) → HasImage l image → IsFreeImage s image → bytes_eq (slot_file l.seed s) (image_file l.seed image) ≡ false
    unfolding IsFreeImage
    file-free image listed free = by s.held refl image listed free
      where
        by : (h : Held) → s.held ≡ h → (image : ImageName) → HasImage l image → IsFreeImage s image
            → bytes_eq (image_file l.seed (image_held s.medium h)) (image_file l.seed image) ≡ false
        by Direct e (OfMedium name) listed free = elim (cases_Bool (bytes_eq s.medium name)) [
          | inl same ↦ let clash : true ≡ false = sym (rw (same, e) refl) ∙ free in absurd cc
          | inr apart ↦ apart
        ]
        by Direct e (OfInner n) listed free = medium-not-inner s.medium n slot-named
        by (Own k) e (OfMedium name) listed free = name_sym (inner_file l.seed k) name ∙ medium-not-inner name k (named-listed l is name listed)
        by (Own k) e (OfInner n) listed free = false_from_ne_true (bytes_eq (inner_file l.seed k) (inner_file l.seed n)) (λ same.
            let number : k ≡ n = files-apart k n (own k e) listed same in
            let test : (n == k) ≡ true = eq-eqb n k (sym number) in
            let clash : true ≡ false = sym (rw e test) ∙ free in absurd cc)
        by Base e image listed free = absurd (no-base of.medium.mode (sym (ap (may_hold false of.medium.mode) e) ∙ of.held))

-- ---- images that are kept: something stands on them, or a snapshot holds them

abbrev pub is_parent : NamedLibrary → ImageName → Bool
is_parent l image = list_any (λ (x : NamedInner). is_image x.parent image) l.inners

abbrev pub is_snapped : NamedLibrary → ImageName → Bool
is_snapped l image = list_any (λ (m : NamedMachine). list_any (λ (s : NamedSnapshot). list_any (holds image) s.slots) m.snapshots) l.machines

abbrev pub is_kept : NamedLibrary → ImageName → Bool
is_kept l image = is_parent l image || is_snapped l image

is_image-refl : (image : ImageName) → is_image image image ≡ true
is_image-refl (OfMedium name) = name_refl name
is_image-refl (OfInner n) = eq-eqb n n refl

pub each-parent-any : (xs : List NamedInner)
    → AllByRecursion (λ (x : NamedInner). list_any (λ (y : NamedInner). is_image y.parent x.parent) xs ≡ true) xs
each-parent-any xs = All-map _ _ (λ x all. all (λ image. is_image image x.parent) (is_image-refl x.parent)) xs (go xs)
  where
    or_one : (b c : Bool) → c ≡ true → (b || c) ≡ true
    or_one true c e = refl
    or_one false c e = e

    go : (xs : List NamedInner)
        → AllByRecursion (λ (x : NamedInner). (p : ImageName → Bool) → p x.parent ≡ true → list_any (λ (y : NamedInner). p y.parent) xs ≡ true) xs
    go [] = tt
    go (x ∷ xs) = ((λ p e. rw e refl), All-map _ _ (λ y all p e. or_one (p x.parent) _ (all p e)) xs (go xs))

parents-layered : (media : List Medium) (bound : ℕ) (xs : List NamedInner) (name : Name) → AreInners media bound xs
    → AllByRecursion (λ (x : NamedInner). is_image x.parent (OfMedium name) ≡ true → is_medium_of is_layered media name ≡ true) xs
parents-layered media bound [] name are = tt
parents-layered media bound (x ∷ xs) name are = (of xs x.parent are.1, parents-layered media x.number xs name are.2)
  where
    of : (earlier : List NamedInner) (image : ImageName) → IsParent media earlier image → is_image image (OfMedium name) ≡ true
        → is_medium_of is_layered media name ≡ true
    of earlier (OfMedium other) parent same = ap (is_medium_of is_layered media) (sym ((bytes_eq-Decides other name).0 same)) ∙ parent
    of earlier (OfInner n) parent same = absurd cc

module _ (l : NamedLibrary) (is : IsLibrary l) (m : NamedMachine) (there : find_by named_machine_name m.name l.machines ≡ Some m)
    (of : IsMachine (images_of l) m) where
  -- a medium on which something stands is shared by no slot
  medium-free : (name : Name) → is_medium_of is_layered l.media name ≡ true → is_based l.inners l.machines name ≡ true
      → AllByRecursion (λ (s : NamedSlot). has_directly name s ≡ false) m.slots
  medium-free name layered based = by (find_by medium_entry_name name l.media) refl
    where
      no-direct : (n : Medium) → find_by medium_entry_name name l.media ≡ Some n → is_normal n.mode ≡ false → (s : NamedSlot)
          → IsNamedSlot (images_of l) false s
          → has_directly name s ≡ false
      no-direct n found other s rules = on s.held refl
        where
          on : (h : Held) → s.held ≡ h → (bytes_eq s.medium name && is_held_directly h) ≡ false
          on Direct e = elim (cases_Bool (bytes_eq s.medium name)) [
            | inl same ↦
                let both : Some rules.medium ≡ Some n = sym rules.there
                ∙ ap (λ x. find_by medium_entry_name x l.media) ((bytes_eq-Decides s.medium name).0 same) ∙ found in
                let medium : rules.medium ≡ n = cc in
                let may : may_hold false n.mode Direct ≡ true = (λ i. may_hold false (sym medium i).mode (sym e i)) ∙ rules.held in
                let normal = shared-normal n.mode (sym (ap (has_mode is_layered) found) ∙ layered) may in
                let clash : true ≡ false = sym normal ∙ other in absurd cc
            | inr apart ↦ rw apart refl
          ]
          on (Own k) e = and_right (bytes_eq s.medium name) false refl
          on Base e = and_right (bytes_eq s.medium name) false refl

      by : (o : Option Medium) → find_by medium_entry_name name l.media ≡ o → AllByRecursion (λ (s : NamedSlot). has_directly name s ≡ false) m.slots
      by None e = let clash : true ≡ false = sym layered ∙ ap (has_mode is_layered) e in absurd cc
      by (Some n) e =
          let same : n.name ≡ name = (bytes_eq-Decides n.name name).0 (find_named medium_entry_name name n l.media e) in
          elim (cases_Bool (is_normal n.mode)) [
            | inl normal ↦
                let once = All-find medium_entry_name
                (λ (x : Medium). IsTrue (is_normal x.mode) → IsTrue (is_based l.inners l.machines x.name) → IsBasedOnce l.machines l.merging x)
                name n l.media is.based e normal (ap (is_based l.inners l.machines) same ∙ based) in
                let all = All-find named_machine_name (OfSlots (λ s. has_directly n.name s ≡ false)) m.name m l.machines
                (none-placed (has_directly n.name) l once.nowhere) there in
                All-map _ _ (λ s no. ap (λ x. has_directly x s) (sym same) ∙ no) m.slots all.0
            | inr other ↦ All-map _ _ (no-direct n e other) m.slots of.slots.valid.each
          ]

  -- a kept image is used by no slot
  parent-free : (image : ImageName) → is_parent l image ≡ true → AllByRecursion (λ (s : NamedSlot). IsFreeImage l is s image) m.slots
  unfolding IsFreeImage
  parent-free (OfMedium name) parent =
      medium-free name (any-gives (λ (x : NamedInner). is_image x.parent (OfMedium name)) (is_medium_of is_layered l.media name ≡ true) l.inners
      (All-of_reverse _ l.inners (parents-layered l.media l.inner (reverse l.inners) name is.inners)) parent) (rw parent refl)
  parent-free (OfInner n) parent = All-map _ _ (λ s own. false_from_ne_true (holds (OfInner n) s) (λ held.
      let clash : true ≡ false = sym parent ∙ any_none _ l.inners (used-leaf l is m there n (own held)) in absurd cc)) m.slots
      (each-any (holds (OfInner n)) m.slots)

  snapped-free : (image : ImageName) → is_snapped l image ≡ true → AllByRecursion (λ (s : NamedSlot). IsFreeImage l is s image) m.slots
  unfolding IsFreeImage
  snapped-free (OfMedium name) snapped = medium-free name layered based
    where
      layered : is_medium_of is_layered l.media name ≡ true
      layered = any-gives _ (is_medium_of is_layered l.media name ≡ true) l.machines (All-map (IsMachine (images_of l)) _ (λ x rules so.
          any-gives _ (is_medium_of is_layered l.media name ≡ true) x.snapshots (All-map _ _ (λ s places so.
          any-gives (holds (OfMedium name)) (is_medium_of is_layered l.media name ≡ true) s.slots
          (All-map _ _ (λ t slot. on t slot t.held refl) s.slots places.places.valid.each) so)
          x.snapshots rules.snapshots) so) l.machines is.machines) snapped
        where
          base-layered : (mode : Mode) → may_hold true mode Base ≡ true → is_layered mode ≡ true
          base-layered Normal may = refl
          base-layered Immutable may = absurd cc
          base-layered MultiAttach may = absurd cc
          base-layered Writethrough may = absurd cc
          base-layered Readonly may = absurd cc

          on : (t : NamedSlot) → IsNamedSlot (images_of l) true t → (h : Held) → t.held ≡ h → is_held (OfMedium name) t.medium t.held ≡ true
              → is_medium_of is_layered l.media name ≡ true
          on t slot Direct e held = let no : false ≡ true = rw e at held in absurd cc
          on t slot (Own k) e held = let no : false ≡ true = rw e at held in absurd cc
          on t slot Base e held =
              let same : name ≡ t.medium = (bytes_eq-Decides name t.medium).0 (rw e at held) in
              ap (is_medium_of is_layered l.media) same ∙ ap (has_mode is_layered) slot.there
              ∙ base-layered slot.medium.mode (sym (ap (may_hold true slot.medium.mode) e) ∙ slot.held)

      based : is_based l.inners l.machines name ≡ true
      based = elim (cases_Bool (is_parent l (OfMedium name))) [
        | inl parent ↦ rw parent refl
        | inr none ↦ rw none (le-leb 1 (count_in (holds (OfMedium name)) l.machines) least)
      ]
        where
          least : 1 ≤ count_in (holds (OfMedium name)) l.machines
          least =
              let places = any-sum _ (place_count (holds (OfMedium name))) l.machines (All-every _ (λ x so.
              any-sum _ (λ (s : NamedSnapshot). count_by (holds (OfMedium name)) s.slots) x.snapshots
              (All-every _ (λ s so. any-count (holds (OfMedium name)) s.slots so) x.snapshots) so) l.machines) snapped in
              let parts = sum-plus (slot_count (holds (OfMedium name))) (place_count (holds (OfMedium name))) l.machines in
              omega (arith, places, parts)
  snapped-free (OfInner n) snapped = All-map _ _ (λ s own. false_from_ne_true (holds (OfInner n) s) (λ held.
      let clash : true ≡ false = sym snapped
      ∙ any_none _ l.machines
      (All-map _ _ (λ x all. any_none _ x.snapshots (All-map _ _ (λ s none. any_none _ s.slots none) x.snapshots all)) l.machines
      (used-unsnapped l is m there n (own held))) in absurd cc)) m.slots (each-any (holds (OfInner n)) m.slots)

  kept-free : (image : ImageName) → is_kept l image ≡ true → AllByRecursion (λ (s : NamedSlot). IsFreeImage l is s image) m.slots
  kept-free image kept = elim (cases_Bool (is_parent l image)) [
    | inl parent ↦ parent-free image parent
    | inr none ↦ snapped-free image (rw none at kept)
  ]

  -- the inner images that slots hold are listed
  pub own-listed-all : AllByRecursion (λ (s : NamedSlot). (k : ℕ) → s.held ≡ Own k → has_number k (reverse l.inners) ≡ true) m.slots
  own-listed-all = All-map _ _ (λ s rules k e. own-listed (reverse l.inners) k s.medium (subst (IsOwnOf l.inners s.medium) e rules.own)) m.slots
      of.slots.valid.each

  kept-files : (image : ImageName) → HasImage l image → is_kept l image ≡ true
      → AllByRecursion (λ (s : NamedSlot). bytes_eq (slot_file l.seed s) (image_file l.seed image) ≡ false) m.slots
  kept-files image listed kept = All-join _ _ _ (λ s both free. file-free l is s both.0 both.1 image listed free) m.slots
      (All-both (IsNamedSlot (images_of l) false) _ m.slots of.slots.valid.each own-listed-all) (kept-free image kept)

-- a kept image's file is settled
pub kept-settled : (l : NamedLibrary) → IsLibrary l → (u : Unsettled) (image : ImageName) → HasImage l image → is_kept l image ≡ true
    → (i : ℕ) → unsettled_in l u (image_file l.seed image) i ≡ false
kept-settled l is u image listed kept = free-settled l u (image_file l.seed image) (All-join _ _ _
    (λ m found rules. kept-files l is m found rules image listed kept) l.machines (each_found named_machine_name l.machines is.machines_rise)
    is.machines)
