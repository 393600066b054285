-- A medium is attached: the library keeps its rules, and the files those of a store.
use Rattle.std.proofs.Common.{[], ◌&&◌, ◌+◌, ◌<◌, ◌∙◌, ◌∷◌, ◌≡◌, ◌≤◌, Bool, IsFalse, IsTrue, List, Some, ap, arith, cond, false, inl, inr, is_some, refl, reverse, subst, sym, true, ℕ}
use Rattle.std.specs.List.{AllByRecursion, list_any}
use Rattle.std.specs.Prelude.{◌==◌, count_by, nat_lt}
use Rattle.std.specs.Str.{bytes_eq}
use Rattle.std.proofs.lemmas.Bool.{and_right, cases_Bool, cases_lt, cond_both, eq-eqb, false_from_ne_true, ltb-false, ltb-true, ne_eqb, or_right}
use Rattle.vbm_ports.specs.Files.{Files}
use Rattle.vbm_ids.specs.declared.TheConstants.{NUMBER_LIMIT}
use Rattle.vbm_modes.specs.Modes.{is_own}
use Rattle.vbm_modes.specs.declared.Mode.{Mode}
use Rattle.vbm_modes.specs.declared.Mode.TheVariants.{Immutable, MultiAttach, Normal, Readonly, Writethrough}
use Rattle.vbm_machines.specs.declared.Held.TheVariants.{Own}
use Rattle.vbm_named.proofs.Lists.{All-every, All-find, All-join, All-map, each_found, has_found, name_sym, none_of_any, same_name}
use Rattle.vbm_named.specs.Names.{Name, find_by, has_name}
use Rattle.vbm_world.specs.World.{is_immutable, is_layered, is_normal}
use Rattle.vbm_world.specs.declared.limits.TheConstants.{PORT_LIMIT}
use Rattle.vbm_registry.proofs.Counts.{count-cons}
use Rattle.vbm_registry.specs.Chains.{chain_of, is_image, medium_below, merging_into, parent_of}
use Rattle.vbm_registry.specs.Library.{medium_entry_name}
use Rattle.vbm_registry.specs.Named.{NamedInner, NamedLibrary, NamedMachine, NamedSlot, NamedSnapshot, OfInner, OfMedium, images_of, named_machine_name}
use Rattle.vbm_registry.specs.Rules.{AreNamedSlots, IsBasedOnce, IsLibrary, IsMachine, IsNamedSlot, IsParent, IsSnapshotOf, MediaDiffer, PortsRise, count_in, count_in_machine, has_directly, has_mode, has_slot_at, holds, is_medium_of, is_parent_above, is_stacked, is_stacked_on, mergings_into, upper_places}
use Rattle.vbm_registry.specs.declared.media.Medium.{Medium}
use Rattle.vbm_standing.proofs.ChainFrames.{IsRenewal, Remains, chain-new}
use Rattle.vbm_standing.proofs.KeptRules.{IsRuledEdit, KeepsBase, all-based, edited_rules, edited_store, machine-rule, new-parents, none-of-old, other-free, same-snapshots, slots-base, unheld-machines}
use Rattle.vbm_standing.proofs.LeafImages.{nowhere}
use Rattle.vbm_standing.proofs.PlacesHeld.{machine-listed, machine-map}
use Rattle.vbm_standing.proofs.TakenWorlds.{closed-all, stays-all}
use Rattle.vbm_standing.proofs.WorldParts.{OfMachine}
use Rattle.vbm_standing.specs.EditedFiles.{AreEdited, HasImage}
use Rattle.vbm_standing.specs.Edits.{CanAttach, Renewal, attachment, attachment_by, library_attached, new_inners, new_slot, none_gone, put_first, put_named_slot, renewal_count, renewed_library, renewed_slots}
use Rattle.vbm_standing.specs.Faults.{IsStore}
use Rattle.vbm_standing.specs.Meaning.{has_slot_of, has_snapshot_of, is_frozen_in}

-- ---- what stands on a normal medium freezes it

module _ (l : NamedLibrary) (is : IsLibrary l) (plain : l.merging ≡ []) (n : Medium) where
  -- a normal medium on which something stands is frozen
  based-frozen : IsBasedOnce l.machines l.merging n → is_normal n.mode ≡ true → is_frozen_in l.machines n ≡ true
  based-frozen based normal = elim (cases_Bool (list_any (has_snapshot_of n.name) l.machines)) [
    | inl snapped ↦ rw (normal, snapped) refl
    | inr free ↦
        let zero : count_in (holds (OfMedium n.name)) l.machines
        ≡ 0 = nowhere (holds (OfMedium n.name)) l (All-join (IsMachine (images_of l)) _ _ (λ m of none. (
          slots-base l n.name m.slots of.slots.valid.each,
          All-map _ _ (λ s e. All-map _ _ (λ t apart. other-free n.name t.medium t.held apart) s.slots
              (none_of_any (λ (t : NamedSlot). bytes_eq t.medium n.name) s.slots e)) m.snapshots
              (none_of_any (λ (s : NamedSnapshot). has_slot_of n.name s.slots) m.snapshots none),
        )) l.machines is.machines (none_of_any (has_snapshot_of n.name) l.machines free)) in
        let none : mergings_into (OfMedium n.name) l.merging ≡ 0 = ap (mergings_into (OfMedium n.name)) plain in
        absurd (omega (arith, based.once, zero, none))
  ]

-- ---- a slot in its place

put-slot_cases : (s t : NamedSlot) (ss : List NamedSlot) (P : List NamedSlot → Type 0) → (s.port < t.port → P (s ∷ t ∷ ss))
    → (t.port ≤ s.port → P (t ∷ put_named_slot s ss)) → P (put_named_slot s (t ∷ ss))
put-slot_cases s t ss P before after = cond_both (nat_lt s.port t.port) (s ∷ t ∷ ss) (t ∷ put_named_slot s ss) P
    (λ e. before (ltb-true s.port t.port e)) (λ e. after (ltb-false s.port t.port e))

put-slot_all : (P : NamedSlot → Type 0) (s : NamedSlot) (ss : List NamedSlot) → P s → AllByRecursion P ss → AllByRecursion P (put_named_slot s ss)
put-slot_all P s [] p all = (p, tt)
put-slot_all P s (t ∷ ss) p all = put-slot_cases s t ss (AllByRecursion P) (λ e. (p, all)) (λ e. (all.0, put-slot_all P s ss p all.1))

put-ports : (s : NamedSlot) (ss : List NamedSlot) (low : ℕ) → low ≤ s.port → s.port < PORT_LIMIT
    → AllByRecursion (λ (t : NamedSlot). (t.port == s.port) ≡ false) ss → PortsRise low ss → PortsRise low (put_named_slot s ss)
put-ports s [] low le high free rising = (le, omega (arith, high))
put-ports s (t ∷ ss) low le high free rising = put-slot_cases s t ss (PortsRise low)
    (λ lt. (le, (omega (arith, lt), rising.1)))
    (λ ge.
    let other : t.port ≡ s.port → ⊥ = λ same. (let clash : true ≡ false = sym (eq-eqb t.port s.port same) ∙ free.0 in absurd cc) in
    (rising.0, put-ports s ss (t.port + 1) (below t.port s.port ge other) high free.1 rising.1))
  where
    below : (a b : ℕ) → a ≤ b → (a ≡ b → ⊥) → a + 1 ≤ b
    below a b le other = elim (cases_lt a b) [ inl lt ↦ omega (arith, lt) | inr ge ↦ absurd (other (omega (arith, le, ge))) ]

put-different : (s : NamedSlot) (ss : List NamedSlot) → AllByRecursion (λ (t : NamedSlot). bytes_eq t.medium s.medium ≡ false) ss
    → MediaDiffer ss → MediaDiffer (put_named_slot s ss)
put-different s [] apart different = (tt, tt)
put-different s (t ∷ ss) apart different = put-slot_cases s t ss MediaDiffer
    (λ e. (apart, different))
    (λ e. (
      put-slot_all (λ (x : NamedSlot). IsFalse (bytes_eq x.medium t.medium)) s ss (name_sym s.medium t.medium ∙ apart.0) different.0,
      put-different s ss apart.1 different.1,
    ))

put-slot_count : (test : NamedSlot → Bool) (s : NamedSlot) (ss : List NamedSlot)
    → count_by test (put_named_slot s ss) ≡ cond (test s) 1 0 + count_by test ss
put-slot_count test s [] = count-cons test s []
put-slot_count test s (t ∷ ss) = put-slot_cases s t ss (λ l. count_by test l ≡ cond (test s) 1 0 + count_by test (t ∷ ss))
    (λ e. count-cons test s (t ∷ ss))
    (λ e. let more = put-slot_count test s ss in count-cons test t (put_named_slot s ss) ∙ rw (count-cons test t ss) (omega (arith, more)))

put-slot_at : (port : ℕ) (name : Name) (s : NamedSlot) (ss : List NamedSlot) → has_slot_at port name ss ≡ true
    → has_slot_at port name (put_named_slot s ss) ≡ true
put-slot_at port name s [] has = absurd cc
put-slot_at port name s (t ∷ ss) has = put-slot_cases s t ss (λ l. has_slot_at port name l ≡ true)
    (λ e. or_right (s.port == port && bytes_eq s.medium name) _ has)
    (λ e. elim (cases_Bool (t.port == port && bytes_eq t.medium name)) [
      | inl here ↦ rw here refl
      | inr other ↦ or_right (t.port == port && bytes_eq t.medium name) _ (put-slot_at port name s ss (rw other at has))
    ])

-- ---- the machine after it

own_layered : (mode : Mode) → is_own mode ≡ true → (is_layered mode ≡ true) × (is_normal mode ≡ false)
own_layered Normal e = absurd cc
own_layered Immutable e = (refl, refl)
own_layered MultiAttach e = (refl, refl)
own_layered Writethrough e = absurd cc
own_layered Readonly e = absurd cc

module _ (l : NamedLibrary) (m : NamedMachine) (port : ℕ) (name : Name) (medium : Medium) (is : IsLibrary l) (plain : l.merging ≡ [])
    (there : find_by named_machine_name m.name l.machines ≡ Some m) (can : CanAttach l m port name medium) where
  abbrev slot : NamedSlot
  slot = new_slot l.media port name

  abbrev rs_of : Bool → List Renewal
  rs_of c = attachment_by c slot ∷ []

  abbrev slot_of : Bool → NamedSlot
  slot_of true = record slot { held = Own l.inner }
  slot_of false = slot

  abbrev edited_of : Bool → NamedMachine
  edited_of c = record m { slots = put_named_slot (slot_of c) m.slots }

  abbrev made_of : Bool → NamedMachine
  made_of c = record m { slots = put_first (renewed_slots l.inner (rs_of c)) m.slots }

  made-same : (c : Bool) → edited_of c ≡ made_of c
  made-same true = refl
  made-same false = refl

  module _ (c : Bool) (own : is_medium_of is_own l.media name ≡ c) where
    abbrev rs : List Renewal
    rs = rs_of c

    abbrev edited : NamedMachine
    edited = edited_of c

    abbrev after : NamedLibrary
    after = renewed_library l none_gone rs edited

    mode_is : is_own medium.mode ≡ c
    mode_is = sym (ap (has_mode is_own) can.found) ∙ own

    ruled : IsMachine (images_of l) m
    ruled = All-find named_machine_name (IsMachine (images_of l)) m.name m l.machines is.machines there

    listed : OfMachine (Remains l none_gone) m
    listed = machine-map (HasImage l) (Remains l none_gone) (stays-all l) m (machine-listed l m ruled)

    has : has_name medium_entry_name name l.media ≡ true
    has = has_found medium_entry_name name l.media ∙ ap is_some can.found

    over : (d : Bool) → AllByRecursion (λ (x : NamedInner). Remains l none_gone x.parent) (new_inners l.inner (rs_of d))
    over true = ((has, tt), tt)
    over false = tt

    renewal : IsRenewal l none_gone rs
    renewal = record { inners = is.inners; closed = All-every _ (λ x stays. closed-all x.parent) l.inners; over = over c }

    parents_of : (d : Bool) → is_own medium.mode ≡ d → AllByRecursion (λ (x : NamedInner). IsParent l.media (reverse l.inners) x.parent) (new_inners l.inner (rs_of d))
    parents_of true e = (ap (has_mode is_layered) can.found ∙ (own_layered medium.mode e).0, tt)
    parents_of false e = tt

    parents : AllByRecursion (λ (x : NamedInner). IsParent l.media (reverse l.inners) x.parent) (new_inners l.inner rs)
    parents = parents_of c mode_is

    place_of : (d : Bool) → is_own medium.mode ≡ d
        → AllByRecursion (λ (x : NamedInner). chain_of after.inners (OfInner x.number)
        ≡ OfInner x.number ∷ chain_of l.inners x.parent) (new_inners l.inner (rs_of d))
        → IsNamedSlot (images_of after) false (slot_of d)
    place_of true e chains = record {
      medium = medium;
      there = can.found;
      held = (own_layered medium.mode e).0;
      own = ap medium_below chains.0;
      autoreset = λ so. sym (ap (has_mode is_immutable) can.found) ∙ so;
    }
    place_of false e chains = record {
      medium = medium;
      there = can.found;
      held = rw e refl;
      own = tt;
      autoreset = λ so. sym (ap (has_mode is_immutable) can.found) ∙ so;
    }

    stacked_of : (d : Bool) → is_medium_of is_own l.media name ≡ d → (upper : List NamedSlot)
        → AllByRecursion (λ (x : NamedInner). parent_of after.inners x.number ≡ Some x.parent) (new_inners l.inner (rs_of d))
        → IsTrue (is_stacked (images_of after) upper (slot_of d))
    stacked_of true e upper ps =
        ap (is_stacked_on (images_of after) upper port l.inner) ps.0
        ∙ ap (λ js. is_parent_above (images_of after) upper port l.inner (OfMedium name) (merging_into (OfMedium name) js)) plain
        ∙ or_right (list_any (λ (s : NamedSlot). s.port == port && holds (OfMedium name) s) upper) _ e
    stacked_of false e upper ps = refl

    port_of : (d : Bool) → (slot_of d).port ≡ port
    port_of true = refl
    port_of false = refl

    name_of : (d : Bool) → (slot_of d).medium ≡ name
    name_of true = refl
    name_of false = refl

    -- a machine's slots with one more
    put-slots : (old : AreNamedSlots (images_of after) false m.slots) → AreNamedSlots (images_of after) false (put_named_slot (slot_of c) m.slots)
    put-slots old = record {
      ports = put-ports (slot_of c) m.slots 0 (omega arith) (subst (λ p. p < PORT_LIMIT) (sym (port_of c)) can.port_is)
          (subst (λ p. AllByRecursion (λ (t : NamedSlot). (t.port == p) ≡ false) m.slots) (sym (port_of c)) can.free) old.ports;
      different = put-different (slot_of c) m.slots
          (subst (λ x. AllByRecursion (λ (t : NamedSlot). bytes_eq t.medium x ≡ false) m.slots) (sym (name_of c)) can.apart) old.different;
      each = put-slot_all (IsNamedSlot (images_of after) false) (slot_of c) m.slots
          (place_of c mode_is (chain-new l none_gone rs edited renewal)) old.each;
    }

    machine-after : IsMachine (images_of after) edited
    machine-after =
        let upper = upper_places m.current m.snapshots in
        let old = machine-rule l none_gone rs edited renewal plain m listed ruled in
        record {
          name = ruled.name;
          tree = ruled.tree;
          slots = record {
            valid = put-slots old.slots.valid;
            stacked = put-slot_all (λ (s : NamedSlot). IsTrue (is_stacked (images_of after) upper s)) (slot_of c) m.slots
                (stacked_of c own upper (new-parents l none_gone rs edited renewal parents)) old.slots.stacked;
            inherits = All-map _ _ (λ s x normal. put-slot_at s.port s.medium (slot_of c) m.slots (x normal)) upper ruled.slots.inherits;
          };
          snapshots = All-map (IsSnapshotOf (images_of after) m) _
              (λ s rules. record { name = rules.name; places = rules.places }) m.snapshots old.snapshots;
        }

    -- ---- counts

    more : (test : NamedSlot → Bool) → count_in_machine test edited ≡ count_in_machine test m + cond (test (slot_of c)) 1 0
    more test = omega (arith, put-slot_count test (slot_of c) m.slots)

    number-other : (d : Bool) (n : ℕ) → n < l.inner → holds (OfInner n) (slot_of d) ≡ false
    number-other true n lt = ne_eqb n l.inner (λ same. omega (arith, same, lt))
    number-other false n lt = refl

    held-old : (n : ℕ) → n < l.inner → none_gone n ≡ false → count_in_machine (holds (OfInner n)) edited ≡ count_in_machine (holds (OfInner n)) m
    held-old n lt stays = more (holds (OfInner n)) ∙ (let other = number-other c n lt in rw other (omega arith))

    new-held : (d : Bool) → c ≡ d → AllByRecursion (λ (x : NamedInner). count_in_machine (holds (OfInner x.number)) edited
        ≡ 1) (new_inners l.inner (rs_of d))
    new-held true e =
        let test = holds (OfInner l.inner) in
        let here : test (slot_of c) ≡ true = ap (λ d. test (slot_of d)) e ∙ eq-eqb l.inner l.inner refl in
        let mine = none-of-old l none_gone rs m edited is plain there test (nowhere test l (unheld-machines l is l.inner (omega arith))) in
        (more test ∙ rw here (omega (arith, mine)), tt)
    new-held false e = tt

    -- ---- media

    module _ (n : Medium) (on : find_by medium_entry_name n.name l.media ≡ Some n) (normal : is_normal n.mode ≡ true) where
      base-other : (d : Bool) → holds (OfMedium n.name) (slot_of d) ≡ false
      base-other true = refl
      base-other false = refl

      same-medium : bytes_eq name n.name ≡ true → medium ≡ n
      same-medium same =
          let both : Some medium ≡ Some n = sym can.found ∙ ap (λ x. find_by medium_entry_name x l.media) (same_name name n.name same) ∙ on in cc

      new-apart : (d : Bool) → is_own medium.mode ≡ d → AllByRecursion (λ (x : NamedInner). is_image x.parent (OfMedium n.name)
          ≡ false) (new_inners l.inner (rs_of d))
      new-apart true e = (
        false_from_ne_true (bytes_eq name n.name) (λ same.
            let clash : true ≡ false = sym normal ∙ ap (λ (x : Medium). is_normal x.mode) (sym (same-medium same)) ∙ (own_layered medium.mode e).1 in
            absurd cc),
        tt,
      )
      new-apart false e = tt

      direct-other : (d : Bool) → is_frozen_in l.machines n ≡ true → has_directly n.name (slot_of d) ≡ false
      direct-other true frozen = and_right (bytes_eq name n.name) false refl
      direct-other false frozen = elim (cases_Bool (bytes_eq name n.name)) [
        | inl same ↦
            let clash : true ≡ false = sym frozen ∙ ap (is_frozen_in l.machines) (sym (same-medium same)) ∙ can.unfrozen in absurd cc
        | inr other ↦ rw other refl
      ]

      keeps-base : KeepsBase l rs m edited n
      keeps-base = record {
        bases = more (holds (OfMedium n.name)) ∙ (let other = base-other c in rw other (omega arith));
        direct = λ based.
            let other = direct-other c (based-frozen l is plain n based normal) in
            let same : count_in_machine (has_directly n.name) edited ≡ count_in_machine (has_directly n.name) m =
            more (has_directly n.name) ∙ rw other (omega arith) in
            omega (arith, same);
        free = λ free. new-apart c mode_is;
      }

    few : (d : Bool) → is_medium_of is_own l.media name ≡ d → l.inner + renewal_count (rs_of d) ≤ NUMBER_LIMIT
    few d e = subst (λ c. l.inner + renewal_count (rs_of c) ≤ NUMBER_LIMIT) e can.drawn

    edit_of : IsRuledEdit l none_gone rs m edited
    edit_of =
        let same = same-snapshots l none_gone rs m edited is plain there refl in
        record {
          there = there;
          renewal = renewal;
          parents = parents;
          drawn = few c own;
          machine = machine-after;
          others = All-map (IsMachine (images_of l)) _ (λ y of other. machine-map (HasImage l) (Remains l none_gone) (stays-all l) y
              (machine-listed l y of))
              l.machines is.machines;
          snapshots = same.0;
          places = same.1;
          held = held-old;
          once = new-held c refl;
          based = all-based l none_gone rs m edited is plain there (All-map _ _ (λ n on normal. keeps-base n on normal) l.media
              (each_found medium_entry_name l.media is.media_rise));
        }

  abbrev attached_rs : List Renewal
  attached_rs = attachment l.media port name ∷ []

  attached_edit : IsRuledEdit l none_gone attached_rs m (made_of (is_medium_of is_own l.media name))
  attached_edit =
      let c = is_medium_of is_own l.media name in
      subst (IsRuledEdit l none_gone attached_rs m) (made-same c) (edit_of c refl)

  -- A library after a medium is attached keeps the rules.
  pub attached_rules : IsLibrary (library_attached l m port name)
  attached_rules = edited_rules l none_gone attached_rs m (made_of (is_medium_of is_own l.media name)) is plain attached_edit

  pub attached_store : (a b : Files) → AreEdited l none_gone attached_rs a b → IsStore l a → IsStore (library_attached l m port name) b
  attached_store a b files store = edited_store l none_gone attached_rs m
      (made_of (is_medium_of is_own l.media name)) is plain attached_edit a b files store
