-- Slots in the order of their ports, and with one more, one less, or each in another form.
use Rattle.std.proofs.Common.{◌≡◌, ℕ, ◌+◌, ◌<◌, ◌≤◌, Bool, true, false, ◌||◌, ◌==◌, List, [], ◌∷◌, map, filter, find, Some, refl, sym, subst, ◌∙◌, arith, is_some, nat_lt, IsTrue, IsFalse}
use Rattle.std.specs.List.{AllByRecursion, list_any}
use Rattle.std.specs.Str.{bytes_eq}
use Rattle.std.proofs.lemmas.Bool.{cond_both, or_right, or_parts, eqb-true, eqb-false, ltb-true, ltb-false}
use Rattle.vbm_world.specs.declared.limits.TheConstants.{PORT_LIMIT}
use Rattle.vbm_world.specs.declared.world.WorldMedium.{WorldMedium}
use Rattle.vbm_world.specs.declared.world.WorldSlot.{WorldSlot}
use Rattle.vbm_world.specs.declared.world.WorldMachine.{WorldMachine}
use Rattle.vbm_named.specs.Names.{Name}
use Rattle.vbm_world.specs.World.{has_medium}
use Rattle.vbm_world.specs.Places.{slot_at, slots_named}
use Rattle.vbm_world.specs.Slots.{put_slot}
use Rattle.vbm_world.specs.Sound.{RisingPorts, HaveOwnMedia, IsPlaced, AreSoundSlots, has_at, is_of_normal, IsSoundMachine}
use Rattle.vbm_named.proofs.Lists.{name_sym, All-map, All-join, All-of_map, any_none, none_of_any}

-- ---- what is found

-- what is found passes the test, and what holds of each holds of it
pub find_both : {X : Type 0} (p : X → Bool) (P : X → Type 0) (xs : List X) (x : X) → AllByRecursion P xs → find p xs ≡ Some x → (p x ≡ true) × P x
find_both p P [] x all e = absurd cc
find_both p P (y ∷ ys) x all e = cond_both (p y) (Some y) (find p ys) (λ o. o ≡ Some x → (p x ≡ true) × P x)
    (λ t is. let same : y ≡ x = cc in subst (λ z. (p z ≡ true) × P z) same (t, all.0)) (λ f is. find_both p P ys x all.1 is) e

-- where nothing is found, each fails the test
pub find_none : {X : Type 0} (p : X → Bool) (xs : List X) → is_some (find p xs) ≡ false → AllByRecursion (λ x. p x ≡ false) xs
find_none p [] e = tt
find_none p (y ∷ ys) e = cond_both (p y) (Some y) (find p ys) (λ o. is_some o ≡ false → AllByRecursion (λ x. p x ≡ false) (y ∷ ys))
    (λ t is. absurd cc) (λ f is. (f, find_none p ys is)) e

-- ---- ports

pub ports_from : (low from : ℕ) (slots : List WorldSlot) → low ≤ from → RisingPorts from slots → RisingPorts low slots
ports_from low from [] below rise = omega (arith, below, rise)
ports_from low from (s ∷ slots) below rise = (omega (arith, below, rise.0), rise.1)

-- ports are from the lowest one on
ports_above : (low : ℕ) (slots : List WorldSlot) → RisingPorts low slots → AllByRecursion (λ (s : WorldSlot). low ≤ s.port) slots
ports_above low [] rise = tt
ports_above low (s ∷ slots) rise =
    (rise.0, All-map _ _ (λ t above. omega (arith, above, rise.0)) slots (ports_above (s.port + 1) slots rise.1))

-- a slot is the only one at its port
pub only_at : (low port : ℕ) (slots : List WorldSlot) (s : WorldSlot) → RisingPorts low slots → slot_at port slots ≡ Some s
    → AllByRecursion (λ (t : WorldSlot). (t.port == port) ≡ true → t ≡ s) slots
only_at low port [] s rise e = tt
only_at low port (u ∷ slots) s rise e = cond_both (u.port == port) (Some u) (slot_at port slots)
    (λ o. o ≡ Some s → AllByRecursion (λ (t : WorldSlot). (t.port == port) ≡ true → t ≡ s) (u ∷ slots))
    (λ yes is. let same : u ≡ s = cc in (
      λ _. same,
      All-map _ _ (λ t above at.
          let here : u.port ≡ port = eqb-true u.port port yes in
          let there : t.port ≡ port = eqb-true t.port port at in
          absurd (omega (arith, above, here, there))) slots (ports_above (u.port + 1) slots rise.1),
    ))
    (λ no is. (λ yes. let clash : true ≡ false = sym yes ∙ no in absurd cc, only_at (u.port + 1) port slots s rise.1 is)) e

-- ---- some of the slots

module _ {X : Type 0} (p : X → Bool) where
  filter_cases : (x : X) (xs : List X) (P : List X → Type 0) → (p x ≡ true → P (x ∷ filter p xs)) → (p x ≡ false → P (filter p xs))
      → P (filter p (x ∷ xs))
  filter_cases x xs P = cond_both (p x) (x ∷ filter p xs) (filter p xs) P

  pub All-filter : (P : X → Type 0) (xs : List X) → AllByRecursion P xs → AllByRecursion P (filter p xs)
  All-filter P [] all = tt
  All-filter P (x ∷ xs) all = filter_cases x xs (AllByRecursion P) (λ e. (all.0, All-filter P xs all.1)) (λ e. All-filter P xs all.1)

  -- one that passes is left
  pub any_filter : (q : X → Bool) (xs : List X) → AllByRecursion (λ x. q x ≡ true → p x ≡ true) xs → list_any q xs ≡ true
      → list_any q (filter p xs) ≡ true
  any_filter q [] all has = has
  any_filter q (x ∷ xs) all has = elim (q x) as (λ b. q x ≡ b → (b || list_any q xs) ≡ true → list_any q (filter p (x ∷ xs)) ≡ true) [
    | true ↦ λ e h. rw (all.0 e, e) refl
    | false ↦ λ e h. filter_cases x xs (λ l. list_any q l ≡ true) (λ k. or_right (q x) _ (any_filter q xs all.1 h)) (λ k. any_filter q xs all.1 h)
  ] refl has

module _ (p : WorldSlot → Bool) where
  pub ports_filter : (low : ℕ) (slots : List WorldSlot) → RisingPorts low slots → RisingPorts low (filter p slots)
  ports_filter low [] rise = rise
  ports_filter low (s ∷ slots) rise = filter_cases p s slots (RisingPorts low) (λ e. (rise.0, ports_filter (s.port + 1) slots rise.1))
      (λ e. ports_from low (s.port + 1) (filter p slots) (omega (arith, rise.0)) (ports_filter (s.port + 1) slots rise.1))

  has_filter : (name : Name) (slots : List WorldSlot) → IsFalse (has_medium name slots) → IsFalse (has_medium name (filter p slots))
  has_filter name slots none = any_none _ (filter p slots) (All-filter p _ slots (none_of_any _ slots none))

  pub distinct_filter : (slots : List WorldSlot) → HaveOwnMedia slots → HaveOwnMedia (filter p slots)
  distinct_filter [] distinct = tt
  distinct_filter (s ∷ slots) distinct = filter_cases p s slots HaveOwnMedia
      (λ e. (has_filter s.medium slots distinct.0, distinct_filter slots distinct.1)) (λ e. distinct_filter slots distinct.1)

  pub slots_filter : (media : List WorldMedium) (of_snapshot : Bool) (slots : List WorldSlot) → AreSoundSlots media of_snapshot slots
      → AreSoundSlots media of_snapshot (filter p slots)
  slots_filter media of_snapshot slots sound = record {
    ports = ports_filter 0 slots sound.ports;
    distinct = distinct_filter slots sound.distinct;
    placed = All-filter p _ slots sound.placed;
  }

-- ---- one slot more

module _ (s : WorldSlot) where
  put_slot_cases : (t : WorldSlot) (slots : List WorldSlot) (P : List WorldSlot → Type 0) → (nat_lt s.port t.port ≡ true → P (s ∷ t ∷ slots))
      → (nat_lt s.port t.port ≡ false → P (t ∷ put_slot s slots)) → P (put_slot s (t ∷ slots))
  unfolding put_slot
  put_slot_cases t slots = cond_both (nat_lt s.port t.port) (s ∷ t ∷ slots) (t ∷ put_slot s slots)

  pub All-put_slot : (P : WorldSlot → Type 0) (slots : List WorldSlot) → P s → AllByRecursion P slots → AllByRecursion P (put_slot s slots)
  unfolding put_slot
  All-put_slot P [] holds all = (holds, tt)
  All-put_slot P (t ∷ slots) holds all =
      put_slot_cases t slots (AllByRecursion P) (λ e. (holds, all)) (λ e. (all.0, All-put_slot P slots holds all.1))

  pub any_put_slot : (q : WorldSlot → Bool) (slots : List WorldSlot) → list_any q slots ≡ true → list_any q (put_slot s slots) ≡ true
  unfolding put_slot
  any_put_slot q [] has = absurd cc
  any_put_slot q (t ∷ slots) has = put_slot_cases t slots (λ l. list_any q l ≡ true) (λ e. or_right (q s) _ has) (λ e.
      elim (q t) as (λ b. (b || list_any q slots) ≡ true → (b || list_any q (put_slot s slots)) ≡ true) [
        | true ↦ λ h. refl
        | false ↦ λ h. any_put_slot q slots h
      ] has)

  pub ports_put : (low : ℕ) (slots : List WorldSlot) → low ≤ s.port → s.port < PORT_LIMIT
      → AllByRecursion (λ (t : WorldSlot). (t.port == s.port) ≡ false) slots → RisingPorts low slots → RisingPorts low (put_slot s slots)
  unfolding put_slot
  ports_put low [] above below free rise = (above, omega (arith, below))
  ports_put low (t ∷ slots) above below free rise = put_slot_cases t slots (RisingPorts low)
      (λ e. (above, (omega (arith, ltb-true s.port t.port e), rise.1))) (λ e.
      let apart : t.port ≡ s.port → ⊥ = eqb-false t.port s.port free.0 in
      let before : t.port + 1 ≤ s.port = omega (arith, ltb-false s.port t.port e, apart) in
      (rise.0, ports_put (t.port + 1) slots before below free.1 rise.1))

  pub distinct_put : (slots : List WorldSlot) → IsFalse (has_medium s.medium slots) → HaveOwnMedia slots → HaveOwnMedia (put_slot s slots)
  unfolding put_slot
  distinct_put [] none distinct = (refl, tt)
  distinct_put (t ∷ slots) none distinct =
      let both = or_parts (bytes_eq t.medium s.medium) (has_medium s.medium slots) none in
      put_slot_cases t slots HaveOwnMedia (λ e. (none, distinct)) (λ e. (
        any_none _ (put_slot s slots)
            (All-put_slot (λ (u : WorldSlot). bytes_eq u.medium t.medium ≡ false) slots (name_sym s.medium t.medium ∙ both.0)
            (none_of_any _ slots distinct.0)),
        distinct_put slots both.1 distinct.1,
      ))

  -- a slot at a free port, of a medium that no other slot has
  pub slots_put : (media : List WorldMedium) (of_snapshot : Bool) (slots : List WorldSlot) → s.port < PORT_LIMIT
      → is_some (slot_at s.port slots) ≡ false → IsFalse (has_medium s.medium slots) → IsPlaced media of_snapshot s
      → AreSoundSlots media of_snapshot slots → AreSoundSlots media of_snapshot (put_slot s slots)
  slots_put media of_snapshot slots below free none placed sound = record {
    ports = ports_put 0 slots (omega arith) below (find_none _ slots free) sound.ports;
    distinct = distinct_put slots none sound.distinct;
    placed = All-put_slot _ slots placed sound.placed;
  }

-- ---- slots in another form, at their ports and of their media

module _ (f : WorldSlot → WorldSlot) (port : (s : WorldSlot) → (f s).port ≡ s.port) (medium : (s : WorldSlot) → (f s).medium ≡ s.medium) where
  ports_map : (low : ℕ) (slots : List WorldSlot) → RisingPorts low slots → RisingPorts low (map f slots)
  ports_map low [] rise = rise
  ports_map low (s ∷ slots) rise = (rw (port s) rise.0, rw (port s) (ports_map (s.port + 1) slots rise.1))

  has_medium_map : (name : Name) (slots : List WorldSlot) → has_medium name (map f slots) ≡ has_medium name slots
  has_medium_map name [] = refl
  has_medium_map name (s ∷ slots) = rw (medium s, has_medium_map name slots) refl

  has_at_map : (at : ℕ) (name : Name) (slots : List WorldSlot) → has_at at name (map f slots) ≡ has_at at name slots
  has_at_map at name [] = refl
  has_at_map at name (s ∷ slots) = rw (port s, medium s, has_at_map at name slots) refl

  distinct_map : (slots : List WorldSlot) → HaveOwnMedia slots → HaveOwnMedia (map f slots)
  distinct_map [] distinct = tt
  distinct_map (s ∷ slots) distinct = (rw (medium s, has_medium_map s.medium slots) distinct.0, distinct_map slots distinct.1)

  pub slots_map : (media : List WorldMedium) (of_snapshot : Bool) (slots : List WorldSlot)
      → AllByRecursion (λ s. IsPlaced media of_snapshot (f s)) slots → AreSoundSlots media of_snapshot slots
      → AreSoundSlots media of_snapshot (map f slots)
  slots_map media of_snapshot slots placed sound = record {
    ports = ports_map 0 slots sound.ports;
    distinct = distinct_map slots sound.distinct;
    placed = All-of_map f (IsPlaced media of_snapshot) slots placed;
  }

  -- A machine whose slots of normal media have their own disks as before.
  pub machine_map : (media : List WorldMedium) (m : WorldMachine) (running : Bool) → IsSoundMachine media m
      → AllByRecursion (λ s. IsPlaced media false (f s)) m.slots
      → AllByRecursion (λ (s : WorldSlot). IsTrue (is_of_normal media s) → is_some (f s).own ≡ is_some s.own) m.slots
      → IsSoundMachine media (record m { running = running; slots = map f m.slots })
  machine_map media m running sound placed same = record {
    tree = sound.tree;
    slots = slots_map media false m.slots placed sound.slots;
    places = sound.places;
    children = sound.children;
    current = All-map _ _ (λ s has normal. has_at_map s.port s.medium m.slots ∙ has normal) (slots_named m.current m.snapshots) sound.current;
    own = All-of_map f _ m.slots (All-join _ _
        (λ s. IsTrue (is_of_normal media (f s)) → is_some (f s).own ≡ has_at (f s).port (f s).medium (slots_named m.current m.snapshots))
        (λ s kept own. rw (port s, medium s) (λ normal. kept normal ∙ own normal)) m.slots same sound.own);
  }
