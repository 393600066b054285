-- A medium is taken off: the library keeps its rules, and the files those of a store.
use Rattle.std.proofs.Common.{[], ◌&&◌, ◌+◌, ◌<◌, ◌∙◌, ◌∷◌, ◌≡◌, ◌≤◌, Bool, IsTrue, List, Some, ap, arith, false, inl, inr, not, refl, sym, true, ℕ}
use Rattle.std.specs.List.{AllByRecursion, list_any}
use Rattle.std.specs.Prelude.{◌==◌, count_by, filter}
use Rattle.std.specs.Str.{bytes_eq}
use Rattle.std.proofs.lemmas.Bool.{and_parts, cases_Bool, cond_both, or_right}
use Rattle.vbm_ports.specs.Files.{Files}
use Rattle.vbm_machines.specs.declared.Held.TheVariants.{Direct}
use Rattle.vbm_named.proofs.Lists.{All-both, All-every, All-find, All-join, All-map, find_named, name_sym, none_of_any, same_name}
use Rattle.vbm_named.specs.Names.{Name, find_by}
use Rattle.vbm_world.specs.World.{is_normal}
use Rattle.vbm_registry.proofs.Counts.{split_count, zero-count}
use Rattle.vbm_registry.specs.Library.{medium_entry_name}
use Rattle.vbm_registry.specs.Named.{ListedImages, NamedLibrary, NamedMachine, NamedSlot, NamedSnapshot, OfInner, OfMedium, images_of, named_machine_name}
use Rattle.vbm_registry.specs.Rules.{AreNamedSlots, IsInherited, IsLibrary, IsMachine, IsNamedSlot, MediaDiffer, PortsRise, count_in_machine, has_directly, has_mode, has_slot_at, holds, is_medium_of, is_stacked, upper_places}
use Rattle.vbm_registry.specs.declared.media.Medium.{Medium}
use Rattle.vbm_standing.proofs.ChainFrames.{IsRenewal, Remains}
use Rattle.vbm_standing.proofs.EditedStores.{All-filter}
use Rattle.vbm_standing.proofs.FrozenMedia.{All-swap, unfrozen}
use Rattle.vbm_standing.proofs.KeptRules.{IsRuledEdit, KeepsBase, all-based, edited_rules, edited_store, same-snapshots, slots-base, slots-rule, snapshots-rule, stacked-rule}
use Rattle.vbm_standing.proofs.LeafImages.{going-own, leaves-closed, left-stay, named-all, others-stay, snaps-stay}
use Rattle.vbm_standing.proofs.PlacesHeld.{machine-both, machine-listed, places-both}
use Rattle.vbm_standing.proofs.WorldParts.{OfMachine, OfPlace}
use Rattle.vbm_standing.specs.EditedFiles.{AreEdited, HasImage, IsStaying}
use Rattle.vbm_standing.specs.Edits.{CanDetach, library_detached, own_in, renewed_library, slots_at_port, slots_off_port}
use Rattle.vbm_standing.specs.Faults.{IsStore}
use Rattle.vbm_standing.specs.Meaning.{has_slot_of, has_snapshot_of, is_frozen_in}

-- ---- fewer slots

lower-ports : (ss : List NamedSlot) (low high : ℕ) → low ≤ high → PortsRise high ss → PortsRise low ss
lower-ports [] low high le rising = omega (arith, le, rising)
lower-ports (s ∷ ss) low high le rising = (omega (arith, le, rising.0), rising.1)

filter-ports : (p : NamedSlot → Bool) (ss : List NamedSlot) (low : ℕ) → PortsRise low ss → PortsRise low (filter p ss)
filter-ports p [] low rising = rising
filter-ports p (s ∷ ss) low rising = cond_both (p s) (s ∷ filter p ss) (filter p ss) (PortsRise low)
    (λ e. (rising.0, filter-ports p ss (s.port + 1) rising.1))
    (λ e. lower-ports (filter p ss) low (s.port + 1) (omega (arith, rising.0)) (filter-ports p ss (s.port + 1) rising.1))

all-filter : {X : Type 0} (P : X → Type 0) (p : X → Bool) (xs : List X) → AllByRecursion P xs → AllByRecursion P (filter p xs)
all-filter P p xs all = All-filter P p xs (All-map _ _ (λ x is so. is) xs all)

filter-different : (p : NamedSlot → Bool) (ss : List NamedSlot) → MediaDiffer ss → MediaDiffer (filter p ss)
filter-different p [] different = tt
filter-different p (s ∷ ss) different = cond_both (p s) (s ∷ filter p ss) (filter p ss) MediaDiffer
    (λ e. (all-filter _ p ss different.0, filter-different p ss different.1)) (λ e. filter-different p ss different.1)

slots-filter : (images : ListedImages) (of_snapshot : Bool) (p : NamedSlot → Bool) (ss : List NamedSlot) → AreNamedSlots images of_snapshot ss
    → AreNamedSlots images of_snapshot (filter p ss)
slots-filter images of_snapshot p ss of = record {
  ports = filter-ports p ss 0 of.ports;
  different = filter-different p ss of.different;
  each = all-filter (IsNamedSlot images of_snapshot) p ss of.each;
}

-- what is there and is not dropped is there
filter-at : (p : NamedSlot → Bool) (port : ℕ) (name : Name) (ss : List NamedSlot)
    → AllByRecursion (λ (t : NamedSlot). (t.port == port && bytes_eq t.medium name) ≡ true → p t ≡ true) ss
    → has_slot_at port name ss ≡ true → has_slot_at port name (filter p ss) ≡ true
filter-at p port name [] kept has = has
filter-at p port name (t ∷ ss) kept has = elim (cases_Bool (t.port == port && bytes_eq t.medium name)) [
  | inl here ↦ let stays = kept.0 here in rw stays (rw here refl)
  | inr other ↦
      let later = filter-at p port name ss kept.1 (rw other at has) in
      cond_both (p t) (t ∷ filter p ss) (filter p ss) (λ l. has_slot_at port name l ≡ true)
      (λ e. or_right (t.port == port && bytes_eq t.medium name) _ later) (λ e. later)
]

-- ---- a machine without some slots, and without their images

module _ (l : NamedLibrary) (m : NamedMachine) (q : NamedSlot → Bool) (is : IsLibrary l) (plain : l.merging ≡ [])
    (there : find_by named_machine_name m.name l.machines ≡ Some m) where
  abbrev left : List NamedSlot
  left = filter (λ (s : NamedSlot). not (q s)) m.slots

  abbrev gone : ℕ → Bool
  gone = own_in (filter q m.slots)

  abbrev edited : NamedMachine
  edited = record m { slots = left }

  abbrev after : NamedLibrary
  after = renewed_library l gone [] edited

  abbrev upper : List NamedSlot
  upper = upper_places m.current m.snapshots

  of : (n : ℕ) → gone n ≡ true → own_in m.slots n ≡ true
  of = going-own l is plain m there q

  ruled : IsMachine (images_of l) m
  ruled = All-find named_machine_name (IsMachine (images_of l)) m.name m l.machines is.machines there

  listed : OfMachine (HasImage l) m
  listed = machine-listed l m ruled

  snapshots-staying : AllByRecursion (λ (t : NamedSnapshot). AllByRecursion (OfPlace (Remains l gone)) t.slots) m.snapshots
  snapshots-staying = All-join _ _ _ (λ t on stays. places-both (HasImage l) (IsStaying gone) t.slots on stays) m.snapshots listed.1
      (All-find named_machine_name _ m.name m l.machines (snaps-stay l is plain m there gone of) there)

  slots-staying : AllByRecursion (OfPlace (Remains l gone)) left
  slots-staying = places-both (HasImage l) (IsStaying gone) left (all-filter _ (λ (s : NamedSlot). not (q s)) m.slots listed.0)
      (left-stay l is plain m there q)

  renewal : IsRenewal l gone []
  renewal = record { inners = is.inners; closed = leaves-closed l is plain m there gone of; over = tt }

  less : (test : NamedSlot → Bool) → count_in_machine test edited + count_by test (filter q m.slots) ≡ count_in_machine test m
  less test = omega (arith, split_count test q m.slots)

  held-old : (n : ℕ) → n < l.inner → gone n ≡ false → count_in_machine (holds (OfInner n)) edited ≡ count_in_machine (holds (OfInner n)) m
  held-old n lt stays =
      let none = zero-count (holds (OfInner n)) (filter q m.slots) (none_of_any (holds (OfInner n)) (filter q m.slots) stays) in
      omega (arith, none, less (holds (OfInner n)))

  keeps-base : (n : Medium) → KeepsBase l [] m edited n
  keeps-base n =
      let none = zero-count (holds (OfMedium n.name)) (filter q m.slots)
      (all-filter _ q m.slots (slots-base l n.name m.slots ruled.slots.valid.each)) in
      record {
        bases = omega (arith, none, less (holds (OfMedium n.name)));
        direct = λ based. omega (arith, less (has_directly n.name));
        free = λ free. tt;
      }

  -- where the others are inherited still
  module _ (inherits : IsInherited l.media upper left) where
    machine-after : IsMachine (images_of after) edited
    machine-after = record {
      name = ruled.name;
      tree = ruled.tree;
      slots = record {
        valid = slots-rule l gone [] edited renewal plain false left slots-staying
            (slots-filter (images_of l) false (λ (s : NamedSlot). not (q s)) m.slots ruled.slots.valid);
        stacked = stacked-rule l gone [] edited renewal plain upper left slots-staying
            (all-filter (λ (s : NamedSlot). IsTrue (is_stacked (images_of l) upper s)) (λ (s : NamedSlot). not (q s)) m.slots ruled.slots.stacked);
        inherits = inherits;
      };
      snapshots = All-map _ _ (λ s rules. record { name = rules.name; places = rules.places }) m.snapshots
          (snapshots-rule l gone [] edited renewal plain m snapshots-staying ruled);
    }

    pub cut_edit : IsRuledEdit l gone [] m edited
    cut_edit =
        let same = same-snapshots l gone [] m edited is plain there refl in
        record {
          there = there;
          renewal = renewal;
          parents = tt;
          drawn = omega (arith, is.inner);
          machine = machine-after;
          others = All-join (IsMachine (images_of l)) _ _ (λ y x stays other. machine-both (HasImage l) (IsStaying gone) y (machine-listed l y x)
              (stays other))
              l.machines is.machines (others-stay l is plain m there gone of);
          snapshots = same.0;
          places = same.1;
          held = held-old;
          once = tt;
          based = all-based l gone [] m edited is plain there (All-every _ (λ n normal. keeps-base n) l.media);
        }

-- ---- the library after it

module _ (l : NamedLibrary) (m : NamedMachine) (port : ℕ) (is : IsLibrary l) (plain : l.merging ≡ [])
    (there : find_by named_machine_name m.name l.machines ≡ Some m) (can : CanDetach l m port) where
  abbrev at_it : NamedSlot → Bool
  at_it s = s.port == port

  abbrev above : List NamedSlot
  above = upper l m at_it is plain there

  rules : IsMachine (images_of l) m
  rules = ruled l m at_it is plain there

  -- a shared normal medium is not in the current snapshot
  not-upper : (n : Medium) → is_normal n.mode ≡ true → is_frozen_in l.machines n ≡ false
      → AllByRecursion (λ (t : NamedSlot). bytes_eq t.medium n.name ≡ false) above
  not-upper n normal free =
      let none : list_any (has_snapshot_of n.name) l.machines ≡ false = sym (ap (λ b. b && list_any (has_snapshot_of n.name) l.machines) normal)
      ∙ free in
      let mine : has_snapshot_of n.name m ≡ false =
      All-find named_machine_name (λ y. has_snapshot_of n.name y ≡ false) m.name m l.machines
      (none_of_any (has_snapshot_of n.name) l.machines none) there in
      named-all (λ (t : NamedSlot). bytes_eq t.medium n.name ≡ false) m.current m.snapshots
      (All-map _ _ (λ s e. none_of_any (λ (t : NamedSlot). bytes_eq t.medium n.name) s.slots e) m.snapshots
      (none_of_any (λ (s : NamedSnapshot). has_slot_of n.name s.slots) m.snapshots mine))

  -- a medium of the current snapshot is not taken off
  abbrev IsKept : NamedSlot → NamedSlot → Type 0
  IsKept s t = is_medium_of is_normal l.media s.medium ≡ true → (t.port == s.port && bytes_eq t.medium s.medium) ≡ true → not (at_it t) ≡ true

  kept-of : (t : NamedSlot) → (at_it t ≡ true → is_medium_of is_normal l.media t.medium ≡ true → t.held ≡ Direct) → IsNamedSlot (images_of l) false t
      → ((n : Medium) → find_by medium_entry_name t.medium l.media ≡ Some n → t.held ≡ Direct → is_frozen_in l.machines n ≡ false)
      → AllByRecursion (λ (s : NamedSlot). IsKept s t) above
  kept-of t direct place free = elim (cases_Bool (at_it t)) [
    | inr other ↦ All-every _ (λ s normal both. rw other refl) above
    | inl here ↦ elim (cases_Bool (is_medium_of is_normal l.media t.medium)) [
      | inr strange ↦ All-every _ (λ s normal both.
          let name_is : t.medium ≡ s.medium = same_name t.medium s.medium (and_parts (t.port == s.port) (bytes_eq t.medium s.medium) both).1 in
          let clash : true ≡ false = sym normal ∙ ap (is_medium_of is_normal l.media) (sym name_is) ∙ strange in absurd cc) above
      | inl normal ↦
          let n = place.medium in
          let mode : is_normal n.mode ≡ true = sym (ap (has_mode is_normal) place.there) ∙ normal in
          let name : n.name ≡ t.medium = same_name n.name t.medium (find_named medium_entry_name t.medium n l.media place.there) in
          All-map _ _ (λ s apart normal_s both.
          let same = (and_parts (t.port == s.port) (bytes_eq t.medium s.medium) both).1 in
          let clash : true ≡ false = sym (ap (λ x. bytes_eq s.medium x) name ∙ name_sym s.medium t.medium ∙ same) ∙ apart in absurd cc) above
          (not-upper n mode (free n place.there (direct here normal)))
    ]
  ]

  inherits-after : IsInherited l.media above (slots_off_port port m.slots)
  inherits-after = All-join _ _ _ (λ s at_all kept normal. filter-at (λ (t : NamedSlot). not (t.port == port)) s.port s.medium m.slots
      (All-map _ _ (λ t is_kept both. is_kept normal both) m.slots kept) (at_all normal))
      above rules.slots.inherits (All-swap (λ (t s : NamedSlot). IsKept s t) m.slots above
      (All-join _ _ _ (λ t both free. kept-of t both.0 both.1 free) m.slots
      (All-both _ (IsNamedSlot (images_of l) false) m.slots can rules.slots.valid.each) (unfrozen l m is there)))

  detached_edit : IsRuledEdit l (own_in (slots_at_port port m.slots)) [] m (record m { slots = slots_off_port port m.slots })
  detached_edit = cut_edit l m at_it is plain there inherits-after

  -- A library after a medium is taken off keeps the rules.
  pub detached_rules : IsLibrary (library_detached l m port)
  detached_rules =
      edited_rules l (own_in (slots_at_port port m.slots)) [] m (record m { slots = slots_off_port port m.slots }) is plain detached_edit

  pub detached_store : (a b : Files) → AreEdited l (own_in (slots_at_port port m.slots)) [] a b → IsStore l a → IsStore (library_detached l m port) b
  detached_store a b files store =
      edited_store l (own_in (slots_at_port port m.slots)) [] m
      (record m { slots = slots_off_port port m.slots }) is plain detached_edit a b files store
