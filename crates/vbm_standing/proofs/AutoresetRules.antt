-- Autoreset of a slot is turned on or off: the library keeps its rules, and the files those of a store.
use Rattle.std.proofs.Common.{[], ◌&&◌, ◌+◌, ◌∙◌, ◌∷◌, ◌≡◌, ◌≤◌, Bool, IsFalse, IsTrue, List, Some, ap, arith, false, map, refl, subst, sym, true, ℕ}
use Rattle.std.specs.List.{AllByRecursion, list_any}
use Rattle.std.specs.Prelude.{◌==◌, count_by}
use Rattle.std.specs.Str.{bytes_eq}
use Rattle.std.proofs.lemmas.Bool.{cond_both}
use Rattle.vbm_ports.specs.Files.{Files}
use Rattle.vbm_named.proofs.Lists.{All-every, All-find, All-join, All-map, All-of_map, any_map}
use Rattle.vbm_named.specs.Names.{Name, find_by}
use Rattle.vbm_world.specs.World.{is_immutable}
use Rattle.vbm_registry.proofs.Counts.{count-map, count-same}
use Rattle.vbm_registry.specs.Held.{may_hold}
use Rattle.vbm_registry.specs.Library.{medium_entry_name}
use Rattle.vbm_registry.specs.Named.{ImageName, ListedImages, NamedInner, NamedLibrary, NamedMachine, NamedSlot, OfInner, OfMedium, images_of, named_machine_name}
use Rattle.vbm_registry.specs.Rules.{AreSlotsUnder, IsLibrary, IsMachine, IsNamedSlot, IsOwnOf, MediaDiffer, PortsRise, has_directly, has_mode, has_slot_at, holds, is_held, is_held_directly, is_held_over, is_medium_of, is_stacked, upper_places}
use Rattle.vbm_registry.specs.declared.media.Medium.{Medium}
use Rattle.vbm_standing.proofs.ChainFrames.{IsRenewal, Remains}
use Rattle.vbm_standing.proofs.KeptRules.{IsRuledEdit, KeepsBase, all-based, edited_rules, edited_store, same-snapshots, snapshots-rule, under-rule}
use Rattle.vbm_standing.proofs.PlacesHeld.{machine-listed, machine-map}
use Rattle.vbm_standing.proofs.TakenWorlds.{closed-all, stays-all}
use Rattle.vbm_standing.proofs.WorldParts.{OfHeld, OfMachine, OfPlace}
use Rattle.vbm_standing.specs.EditedFiles.{AreEdited, HasImage}
use Rattle.vbm_standing.specs.Edits.{CanAutoreset, library_autoreset, none_gone, slot_autoreset}
use Rattle.vbm_standing.specs.Faults.{IsStore}

-- ---- slots that differ in no port, medium and image

module _ (f : NamedSlot → NamedSlot) (port : (s : NamedSlot) → (f s).port ≡ s.port) (medium : (s : NamedSlot) → (f s).medium ≡ s.medium)
    (held : (s : NamedSlot) → (f s).held ≡ s.held) where
  same-ports : (ss : List NamedSlot) (low : ℕ) → PortsRise low ss → PortsRise low (map f ss)
  same-ports [] low rising = rising
  same-ports (s ∷ ss) low rising = (
    subst (λ p. low ≤ p) (sym (port s)) rising.0,
    subst (λ p. PortsRise (p + 1) (map f ss)) (sym (port s)) (same-ports ss (s.port + 1) rising.1),
  )

  same-different : (ss : List NamedSlot) → MediaDiffer ss → MediaDiffer (map f ss)
  same-different [] different = tt
  same-different (s ∷ ss) different = (
    All-of_map f (λ (t : NamedSlot). IsFalse (bytes_eq t.medium (f s).medium)) ss
        (All-map _ _ (λ t e. (λ i. bytes_eq (medium t i) (medium s i)) ∙ e) ss different.0),
    same-different ss different.1,
  )

  same-at : (at_port : ℕ) (name : Name) (ss : List NamedSlot) → has_slot_at at_port name (map f ss) ≡ has_slot_at at_port name ss
  same-at at_port name ss = any_map f (λ (t : NamedSlot). t.port == at_port && bytes_eq t.medium name) ss
      ∙ ap (λ p. list_any p ss) (λ i s. port s i == at_port && bytes_eq (medium s i) name)

  same-holds : (image : ImageName) (ss : List NamedSlot) → count_by (holds image) (map f ss) ≡ count_by (holds image) ss
  same-holds image ss = count-map (holds image) f ss
      ∙ count-same (λ s. holds image (f s)) (holds image) ss (All-every _ (λ s i. is_held image (medium s i) (held s i)) ss)

  same-directly : (name : Name) (ss : List NamedSlot) → count_by (has_directly name) (map f ss) ≡ count_by (has_directly name) ss
  same-directly name ss = count-map (has_directly name) f ss
      ∙ count-same (λ s. has_directly name (f s)) (has_directly name) ss
      (All-every _ (λ s i. bytes_eq (medium s i) name && is_held_directly (held s i)) ss)

  same-place : (P : ImageName → Type 0) (s : NamedSlot) → OfPlace P s → OfPlace P (f s)
  same-place P s of = subst (λ h. OfHeld P (f s).medium h) (sym (held s)) (subst (λ x. OfHeld P x s.held) (sym (medium s)) of)

  same-own : (inners : List NamedInner) (s : NamedSlot) → IsOwnOf inners s.medium s.held → IsOwnOf inners (f s).medium (f s).held
  same-own inners s own = subst (λ h. IsOwnOf inners (f s).medium h) (sym (held s)) (subst (λ x. IsOwnOf inners x s.held) (sym (medium s)) own)

  -- a slot of the same medium, where autoreset is on for an immutable one alone
  same-slot : (images : ListedImages) (of_snapshot : Bool) (s : NamedSlot) (is : IsNamedSlot images of_snapshot s)
      → (IsTrue (f s).autoreset → IsTrue (is_immutable is.medium.mode)) → IsNamedSlot images of_snapshot (f s)
  same-slot images of_snapshot s is auto = record {
    medium = is.medium;
    there = ap (λ x. find_by medium_entry_name x images.media) (medium s) ∙ is.there;
    held = ap (may_hold of_snapshot is.medium.mode) (held s) ∙ is.held;
    own = same-own images.inners s is.own;
    autoreset = auto;
  }

  same-stacked : (images : ListedImages) (upper : List NamedSlot) (s : NamedSlot) → is_stacked images upper (f s) ≡ is_stacked images upper s
  same-stacked images upper s = λ i. is_held_over images upper (port s i) (held s i)

-- ---- the library after it

module _ (l : NamedLibrary) (m : NamedMachine) (port : ℕ) (on : Bool) (is : IsLibrary l) (plain : l.merging ≡ [])
    (there : find_by named_machine_name m.name l.machines ≡ Some m) (can : CanAutoreset l m port) where
  abbrev turned : NamedSlot → NamedSlot
  turned = slot_autoreset port on

  slot-port : (s : NamedSlot) → (turned s).port ≡ s.port
  slot-port s = cond_both (s.port == port) (record s { autoreset = on }) s (λ t. t.port ≡ s.port) (λ e. refl) (λ e. refl)

  slot-medium : (s : NamedSlot) → (turned s).medium ≡ s.medium
  slot-medium s = cond_both (s.port == port) (record s { autoreset = on }) s (λ t. t.medium ≡ s.medium) (λ e. refl) (λ e. refl)

  slot-held : (s : NamedSlot) → (turned s).held ≡ s.held
  slot-held s = cond_both (s.port == port) (record s { autoreset = on }) s (λ t. t.held ≡ s.held) (λ e. refl) (λ e. refl)

  slot-auto : (s : NamedSlot) (of : IsNamedSlot (images_of l) false s) → ((s.port == port) ≡ true → is_medium_of is_immutable l.media s.medium ≡ true)
      → IsTrue (turned s).autoreset → IsTrue (is_immutable of.medium.mode)
  slot-auto s of immutable = cond_both (s.port == port) (record s { autoreset = on }) s
      (λ (t : NamedSlot). IsTrue t.autoreset → IsTrue (is_immutable of.medium.mode))
      (λ here so. sym (ap (has_mode is_immutable) of.there) ∙ immutable here) (λ other. of.autoreset)

  abbrev edited : NamedMachine
  edited = record m { slots = map turned m.slots }

  abbrev after : NamedLibrary
  after = library_autoreset l m port on

  abbrev upper : List NamedSlot
  upper = upper_places m.current m.snapshots

  ruled : IsMachine (images_of l) m
  ruled = All-find named_machine_name (IsMachine (images_of l)) m.name m l.machines is.machines there

  staying : (n : NamedMachine) → IsMachine (images_of l) n → OfMachine (Remains l none_gone) n
  staying n of = machine-map (HasImage l) (Remains l none_gone) (stays-all l) n (machine-listed l n of)

  renewal : IsRenewal l none_gone []
  renewal = record { inners = is.inners; closed = All-every _ (λ x stays. closed-all x.parent) l.inners; over = tt }

  slots-staying : AllByRecursion (OfPlace (Remains l none_gone)) (map turned m.slots)
  slots-staying = All-of_map turned (OfPlace (Remains l none_gone)) m.slots
      (All-map _ _ (same-place turned slot-port slot-medium slot-held (Remains l none_gone)) m.slots (staying m ruled).0)

  slots-turned : AreSlotsUnder (images_of l) false upper (map turned m.slots)
  slots-turned = record {
    valid = record {
      ports = same-ports turned slot-port slot-medium slot-held m.slots 0 ruled.slots.valid.ports;
      different = same-different turned slot-port slot-medium slot-held m.slots ruled.slots.valid.different;
      each = All-of_map turned (IsNamedSlot (images_of l) false) m.slots
          (All-join (IsNamedSlot (images_of l) false) _ _ (λ s of immutable.
          same-slot turned slot-port slot-medium slot-held (images_of l) false s of (slot-auto s of immutable)) m.slots ruled.slots.valid.each can);
    };
    stacked = All-of_map turned (λ (s : NamedSlot). IsTrue (is_stacked (images_of l) upper s)) m.slots
        (All-map _ _ (λ s stands. same-stacked turned slot-port slot-medium slot-held (images_of l) upper s ∙ stands) m.slots ruled.slots.stacked);
    inherits = All-map _ _ (λ s x normal. same-at turned slot-port slot-medium slot-held s.port s.medium m.slots
        ∙ x normal) upper ruled.slots.inherits;
  }

  machine-after : IsMachine (images_of after) edited
  machine-after = record {
    name = ruled.name;
    tree = ruled.tree;
    slots = under-rule l none_gone [] edited renewal plain false upper (map turned m.slots) slots-staying slots-turned;
    snapshots = All-map _ _ (λ t x. record { name = x.name; places = x.places }) m.snapshots
        (snapshots-rule l none_gone [] edited renewal plain m (staying m ruled).1 ruled);
  }

  keeps-base : (n : Medium) → KeepsBase l [] m edited n
  keeps-base n = record {
    bases = omega (arith, same-holds turned slot-port slot-medium slot-held (OfMedium n.name) m.slots);
    direct = λ based. omega (arith, same-directly turned slot-port slot-medium slot-held n.name m.slots);
    free = λ free. tt;
  }

  autoreset_edit : IsRuledEdit l none_gone [] m edited
  autoreset_edit =
      let same = same-snapshots l none_gone [] m edited is plain there refl in
      record {
        there = there;
        renewal = renewal;
        parents = tt;
        drawn = omega (arith, is.inner);
        machine = machine-after;
        others = All-map (IsMachine (images_of l)) _ (λ y of other. staying y of) l.machines is.machines;
        snapshots = same.0;
        places = same.1;
        held = λ n lt stays. omega (arith, same-holds turned slot-port slot-medium slot-held (OfInner n) m.slots);
        once = tt;
        based = all-based l none_gone [] m edited is plain there (All-every _ (λ n normal. keeps-base n) l.media);
      }

  -- A library keeps the rules after autoreset of a slot is set.
  pub autoreset_rules : IsLibrary after
  autoreset_rules = edited_rules l none_gone [] m edited is plain autoreset_edit

  pub autoreset_store : (a b : Files) → AreEdited l none_gone [] a b → IsStore l a → IsStore after b
  autoreset_store a b files store = edited_store l none_gone [] m edited is plain autoreset_edit a b files store
