-- Slots with new images over what a snapshot's places hold.
use Rattle.std.proofs.Common.{[], ◌&&◌, ◌+◌, ◌<◌, ◌||◌, ◌∙◌, ◌∷◌, ◌≡◌, ◌≤◌, Bool, IsFalse, IsTrue, List, Some, ap, arith, false, map, refl, reverse, subst, sym, true, ℕ}
use Rattle.std.specs.List.{AllByRecursion, list_any}
use Rattle.std.specs.Prelude.{◌==◌, count_by}
use Rattle.std.specs.Str.{bytes_eq}
use Rattle.std.proofs.lemmas.Bool.{eq-eqb, ne_eqb, or_right}
use Rattle.vbm_modes.specs.declared.Mode.{Mode}
use Rattle.vbm_modes.specs.declared.Mode.TheVariants.{Immutable, MultiAttach, Normal, Readonly, Writethrough}
use Rattle.vbm_machines.specs.declared.Held.{Held}
use Rattle.vbm_machines.specs.declared.Held.TheVariants.{Base, Direct, Own}
use Rattle.vbm_named.proofs.Lists.{All-every, All-join, All-map, name_refl}
use Rattle.vbm_named.specs.Names.{Name, find_by}
use Rattle.vbm_world.specs.World.{is_layered}
use Rattle.vbm_registry.proofs.Counts.{count-cons, zero-count}
use Rattle.vbm_registry.specs.Chains.{chain_of, medium_below, merging_into, parent_of}
use Rattle.vbm_registry.specs.Held.{may_hold}
use Rattle.vbm_registry.specs.Library.{medium_entry_name}
use Rattle.vbm_registry.specs.Named.{ImageName, NamedInner, NamedLibrary, NamedMachine, NamedSlot, OfInner, OfMedium, images_of}
use Rattle.vbm_registry.specs.Rules.{AreNamedSlots, AreSlotsUnder, IsInherited, IsNamedSlot, IsOwnOf, IsParent, MediaDiffer, PortsRise, has_mode, has_slot_at, holds, is_common, is_held, is_held_over, is_parent_above, is_stacked, is_stacked_on}
use Rattle.vbm_registry.specs.declared.media.Medium.{Medium}
use Rattle.vbm_standing.proofs.ChainFrames.{IsRenewal, chain-new, new-from}
use Rattle.vbm_standing.proofs.KeptRules.{new-parents}
use Rattle.vbm_standing.proofs.PlacesHeld.{place-listed}
use Rattle.vbm_standing.proofs.WorldParts.{OfHeld, OfPlace}
use Rattle.vbm_standing.specs.EditedFiles.{HasImage}
use Rattle.vbm_standing.specs.Edits.{Renewal, new_inners, renewal_of, renewal_over, renewed_library, renewed_slots}

-- ---- slots over places

-- what speaks of port and medium alone
module _ (Q : ℕ → Name → Type 0) where
  at-held : (s : NamedSlot) (h : Held) (rs : List Renewal) (n : ℕ) → Q s.port s.medium
      → ((m : ℕ) → AllByRecursion (λ (t : NamedSlot). Q t.port t.medium) (renewed_slots m rs))
      → AllByRecursion (λ (t : NamedSlot). Q t.port t.medium) (renewed_slots n (renewal_over s h ∷ rs))
  at-held s Direct rs n q rest = (q, rest n)
  at-held s (Own i) rs n q rest = (q, rest (n + 1))
  at-held s Base rs n q rest = (q, rest (n + 1))

  over-all : (slots : List NamedSlot) (n : ℕ) → AllByRecursion (λ (t : NamedSlot). Q t.port t.medium) slots
      → AllByRecursion (λ (t : NamedSlot). Q t.port t.medium) (renewed_slots n (map renewal_of slots))
  over-all [] n all = tt
  over-all (s ∷ slots) n all = at-held s s.held (map renewal_of slots) n all.0 (λ m. over-all slots m all.1)

ports-held : (s : NamedSlot) (h : Held) (rs : List Renewal) (n low : ℕ) → low ≤ s.port → ((m : ℕ) → PortsRise (s.port + 1) (renewed_slots m rs))
    → PortsRise low (renewed_slots n (renewal_over s h ∷ rs))
ports-held s Direct rs n low le rest = (le, rest n)
ports-held s (Own i) rs n low le rest = (le, rest (n + 1))
ports-held s Base rs n low le rest = (le, rest (n + 1))

over-ports : (slots : List NamedSlot) (n low : ℕ) → PortsRise low slots → PortsRise low (renewed_slots n (map renewal_of slots))
over-ports [] n low rising = rising
over-ports (s ∷ slots) n low rising = ports-held s s.held (map renewal_of slots) n low rising.0 (λ m. over-ports slots m (s.port + 1) rising.1)

different-held : (s : NamedSlot) (h : Held) (rs : List Renewal) (n : ℕ)
    → ((m : ℕ) → AllByRecursion (λ (t : NamedSlot). IsFalse (bytes_eq t.medium s.medium)) (renewed_slots m rs) × MediaDiffer (renewed_slots m rs))
    → MediaDiffer (renewed_slots n (renewal_over s h ∷ rs))
different-held s Direct rs n rest = rest n
different-held s (Own i) rs n rest = rest (n + 1)
different-held s Base rs n rest = rest (n + 1)

over-different : (slots : List NamedSlot) (n : ℕ) → MediaDiffer slots → MediaDiffer (renewed_slots n (map renewal_of slots))
over-different [] n different = tt
over-different (s ∷ slots) n different = different-held s s.held (map renewal_of slots) n
    (λ m. (over-all (λ port medium. IsFalse (bytes_eq medium s.medium)) slots m different.0, over-different slots m different.1))

at-same-held : (port : ℕ) (name : Name) (s : NamedSlot) (h : Held) (rs : List Renewal) (slots : List NamedSlot) (n : ℕ)
    → ((m : ℕ) → has_slot_at port name (renewed_slots m rs) ≡ has_slot_at port name slots)
    → has_slot_at port name (renewed_slots n (renewal_over s h ∷ rs)) ≡ has_slot_at port name (s ∷ slots)
at-same-held port name s Direct rs slots n rest = ap (λ b. (s.port == port && bytes_eq s.medium name) || b) (rest n)
at-same-held port name s (Own i) rs slots n rest = ap (λ b. (s.port == port && bytes_eq s.medium name) || b) (rest (n + 1))
at-same-held port name s Base rs slots n rest = ap (λ b. (s.port == port && bytes_eq s.medium name) || b) (rest (n + 1))

over-at : (port : ℕ) (name : Name) (slots : List NamedSlot) (n : ℕ)
    → has_slot_at port name (renewed_slots n (map renewal_of slots)) ≡ has_slot_at port name slots
over-at port name [] n = refl
over-at port name (s ∷ slots) n = at-same-held port name s s.held (map renewal_of slots) slots n (λ m. over-at port name slots m)

-- each slot is there
each-at : (slots : List NamedSlot) → AllByRecursion (λ (s : NamedSlot). has_slot_at s.port s.medium slots ≡ true) slots
each-at [] = tt
each-at (s ∷ slots) = (
  (let port = eq-eqb s.port s.port refl in let name = name_refl s.medium in rw (port, name) refl),
  All-map _ _ (λ t is. or_right (s.port == t.port && bytes_eq s.medium t.medium) _ is) slots (each-at slots),
)

over-inherits : (media : List Medium) (slots : List NamedSlot) (n : ℕ) → IsInherited media slots (renewed_slots n (map renewal_of slots))
over-inherits media slots n = All-map _ _ (λ s is normal. over-at s.port s.medium slots n ∙ is) slots (each-at slots)

-- each place holds what it holds
each-held : (slots : List NamedSlot) → AllByRecursion (λ (s : NamedSlot). (image : ImageName) → holds image s ≡ true
    → list_any (λ (t : NamedSlot). t.port == s.port && holds image t) slots ≡ true) slots
each-held [] = tt
each-held (s ∷ slots) = (
  (λ image held. let port = eq-eqb s.port s.port refl in rw (port, held) refl),
  All-map _ _ (λ t is image held. or_right (s.port == t.port && holds image s) _ (is image held)) slots (each-held slots),
)

-- ---- modes

-- a machine's slot of a medium that may have images of its own
own_of_base : (mode : Mode) (n : ℕ) → IsTrue (may_hold true mode Base) → IsTrue (may_hold false mode (Own n))
own_of_base Normal n may = refl
own_of_base Immutable n may = absurd cc
own_of_base MultiAttach n may = absurd cc
own_of_base Writethrough n may = absurd cc
own_of_base Readonly n may = absurd cc

direct_of_direct : (mode : Mode) → IsTrue (may_hold true mode Direct) → IsTrue (may_hold false mode Direct)
direct_of_direct Normal may = absurd cc
direct_of_direct Immutable may = absurd cc
direct_of_direct MultiAttach may = absurd cc
direct_of_direct Writethrough may = refl
direct_of_direct Readonly may = refl

layered_base : (mode : Mode) → IsTrue (may_hold true mode Base) → is_layered mode ≡ true
layered_base mode may = own_of_base mode 0 may

-- ---- parents of the new images

module _ (l : NamedLibrary) where
  held-parent : (m : Medium) (medium : Name) (h : Held) → find_by medium_entry_name medium l.media ≡ Some m → IsTrue (may_hold true m.mode h)
      → OfHeld (HasImage l) medium h → OfHeld (IsParent l.media (reverse l.inners)) medium h
  held-parent m medium Direct there may listed = tt
  held-parent m medium (Own n) there may listed = listed
  held-parent m medium Base there may listed = ap (has_mode is_layered) there ∙ layered_base m.mode may

  pub place-parent : (s : NamedSlot) → IsNamedSlot (images_of l) true s → OfPlace (IsParent l.media (reverse l.inners)) s
  place-parent s is = held-parent is.medium s.medium s.held is.there is.held (place-listed l true s is)

-- ---- the slots by the rules

module _ (l : NamedLibrary) (gone : ℕ → Bool) (m : NamedMachine) (slots : List NamedSlot) (is : IsRenewal l gone (map renewal_of slots)) where
  abbrev k : NamedLibrary
  k = renewed_library l gone (map renewal_of slots) m

  abbrev IsChained : NamedInner → Type 0
  IsChained x = chain_of k.inners (OfInner x.number) ≡ OfInner x.number ∷ chain_of l.inners x.parent

  over-held-place : (s : NamedSlot) (h : Held) (rs : List Renewal) (n : ℕ) → s.held ≡ h → IsNamedSlot (images_of l) true s
      → AllByRecursion IsChained (new_inners n (renewal_over s h ∷ rs))
      → ((i : ℕ) → AllByRecursion IsChained (new_inners i rs) → AllByRecursion (IsNamedSlot (images_of k) false) (renewed_slots i rs))
      → AllByRecursion (IsNamedSlot (images_of k) false) (renewed_slots n (renewal_over s h ∷ rs))
  over-held-place s Direct rs n e of chained rest = (
    record {
      medium = of.medium;
      there = of.there;
      held = ap (may_hold false of.medium.mode) e ∙ direct_of_direct of.medium.mode (sym (ap (may_hold true of.medium.mode) e) ∙ of.held);
      own = subst (IsOwnOf k.inners s.medium) (sym e) tt;
      autoreset = of.autoreset;
    },
    rest n chained,
  )
  over-held-place s (Own i) rs n e of chained rest = (
    record {
      medium = of.medium;
      there = of.there;
      held = sym (ap (may_hold true of.medium.mode) e) ∙ of.held;
      own = ap medium_below chained.0 ∙ subst (IsOwnOf l.inners s.medium) e of.own;
      autoreset = of.autoreset;
    },
    rest (n + 1) chained.1,
  )
  over-held-place s Base rs n e of chained rest = (
    record {
      medium = of.medium;
      there = of.there;
      held = own_of_base of.medium.mode n (sym (ap (may_hold true of.medium.mode) e) ∙ of.held);
      own = ap medium_below chained.0;
      autoreset = of.autoreset;
    },
    rest (n + 1) chained.1,
  )

  over-place-rules : (ss : List NamedSlot) (n : ℕ) → AllByRecursion (IsNamedSlot (images_of l) true) ss
      → AllByRecursion IsChained (new_inners n (map renewal_of ss))
      → AllByRecursion (IsNamedSlot (images_of k) false) (renewed_slots n (map renewal_of ss))
  over-place-rules [] n all chained = tt
  over-place-rules (s ∷ ss) n all chained = over-held-place s s.held (map renewal_of ss) n refl all.0 chained (λ i c. over-place-rules ss i all.1 c)

  -- a machine's slots over places of a snapshot
  over-rule : AreNamedSlots (images_of l) true slots → AreNamedSlots (images_of k) false (renewed_slots l.inner (map renewal_of slots))
  over-rule of = record {
    ports = over-ports slots l.inner 0 of.ports;
    different = over-different slots l.inner of.different;
    each = over-place-rules slots l.inner of.each (chain-new l gone (map renewal_of slots) m is);
  }

  -- they stand on what the snapshot holds
  module _ (plain : l.merging ≡ []) (upper : List NamedSlot) where
    abbrev HasParent : NamedInner → Type 0
    HasParent x = parent_of k.inners x.number ≡ Some x.parent

    abbrev IsUpper : NamedSlot → Type 0
    IsUpper s = (image : ImageName) → holds image s ≡ true → list_any (λ (t : NamedSlot). t.port == s.port && holds image t) upper ≡ true

    abbrev IsStacked : NamedSlot → Type 0
    IsStacked s = IsTrue (is_stacked (images_of k) upper s)

    stacked-over : (port n : ℕ) (image : ImageName) → parent_of k.inners n ≡ Some image
        → list_any (λ (t : NamedSlot). t.port == port && holds image t) upper ≡ true
        → is_stacked_on (images_of k) upper port n (parent_of k.inners n) ≡ true
    stacked-over port n image parent under =
        ap (is_stacked_on (images_of k) upper port n) parent
        ∙ ap (λ js. is_parent_above (images_of k) upper port n image (merging_into image js)) plain
        ∙ ap (λ b. b || is_common l.media image) under

    held-stacked : (s : NamedSlot) (h : Held) (rs : List Renewal) (n : ℕ) → s.held ≡ h → IsUpper s
        → AllByRecursion HasParent (new_inners n (renewal_over s h ∷ rs))
        → ((i : ℕ) → AllByRecursion HasParent (new_inners i rs) → AllByRecursion IsStacked (renewed_slots i rs))
        → AllByRecursion IsStacked (renewed_slots n (renewal_over s h ∷ rs))
    held-stacked s Direct rs n e up parents rest = (ap (is_held_over (images_of k) upper s.port) e, rest n parents)
    held-stacked s (Own i) rs n e up parents rest = (
      stacked-over s.port n (OfInner i) parents.0 (up (OfInner i) (ap (is_held (OfInner i) s.medium) e ∙ eq-eqb i i refl)),
      rest (n + 1) parents.1,
    )
    held-stacked s Base rs n e up parents rest = (
      stacked-over s.port n (OfMedium s.medium) parents.0 (up (OfMedium s.medium) (ap (is_held (OfMedium s.medium) s.medium) e ∙ name_refl s.medium)),
      rest (n + 1) parents.1,
    )

    all-stacked : (ss : List NamedSlot) (n : ℕ) → AllByRecursion IsUpper ss → AllByRecursion HasParent (new_inners n (map renewal_of ss))
        → AllByRecursion IsStacked (renewed_slots n (map renewal_of ss))
    all-stacked [] n up parents = tt
    all-stacked (s ∷ ss) n up parents = held-stacked s s.held (map renewal_of ss) n refl up.0 parents (λ i p. all-stacked ss i up.1 p)

  -- The slots over a snapshot's places are slots below it.
  pub over-under : l.merging ≡ [] → AreNamedSlots (images_of l) true slots
      → AllByRecursion (λ (x : NamedInner). IsParent l.media (reverse l.inners) x.parent) (new_inners l.inner (map renewal_of slots))
      → AreSlotsUnder (images_of k) false slots (renewed_slots l.inner (map renewal_of slots))
  over-under plain of parents = record {
    valid = over-rule of;
    stacked = all-stacked plain slots slots l.inner (each-held slots) (new-parents l gone (map renewal_of slots) m is parents);
    inherits = over-inherits l.media slots l.inner;
  }

-- ---- what slots over places hold

module _ (test : NamedSlot → Bool) where
  -- none passes where those that are kept do not, and no new image does
  none-held : (s : NamedSlot) (h : Held) (rs : List Renewal) (n : ℕ) → s.held ≡ h → (h ≡ Direct → test s ≡ false)
      → test (record s { held = Own n }) ≡ false → ((m : ℕ) → n ≤ m → AllByRecursion (λ (t : NamedSlot). test t ≡ false) (renewed_slots m rs))
      → AllByRecursion (λ (t : NamedSlot). test t ≡ false) (renewed_slots n (renewal_over s h ∷ rs))
  none-held s Direct rs n e direct new rest = (direct refl, rest n (omega arith))
  none-held s (Own i) rs n e direct new rest = (new, rest (n + 1) (omega arith))
  none-held s Base rs n e direct new rest = (new, rest (n + 1) (omega arith))

  over-none : (slots : List NamedSlot) (n : ℕ) → AllByRecursion (λ (s : NamedSlot). s.held ≡ Direct → test s ≡ false) slots
      → ((i : ℕ) (s : NamedSlot) → n ≤ i → test (record s { held = Own i }) ≡ false)
      → AllByRecursion (λ (t : NamedSlot). test t ≡ false) (renewed_slots n (map renewal_of slots))
  over-none [] n direct new = tt
  over-none (s ∷ slots) n direct new = none-held s s.held (map renewal_of slots) n refl direct.0 (new n s (omega arith))
      (λ m le. over-none slots m direct.1 (λ i t lt. new i t (omega (arith, le, lt))))

  pub none-over : (slots : List NamedSlot) (n : ℕ) → AllByRecursion (λ (s : NamedSlot). s.held ≡ Direct → test s ≡ false) slots
      → ((i : ℕ) (s : NamedSlot) → n ≤ i → test (record s { held = Own i }) ≡ false) → count_by test (renewed_slots n (map renewal_of slots)) ≡ 0
  none-over slots n direct new = zero-count test (renewed_slots n (map renewal_of slots)) (over-none slots n direct new)

direct-holds : (image : ImageName) (s : NamedSlot) → s.held ≡ Direct → holds image s ≡ false
direct-holds image s e = ap (is_held image s.medium) e

-- an inner image with a lower number is not held
pub none-number : (slots : List NamedSlot) (n low : ℕ) → n < low → count_by (holds (OfInner n)) (renewed_slots low (map renewal_of slots)) ≡ 0
none-number slots n low lt = none-over (holds (OfInner n)) slots low (All-every _ (λ t d. direct-holds (OfInner n) t d) slots)
    (λ i t le. ne_eqb n i (λ same. omega (arith, lt, le, same)))

-- nor is a medium's own image
pub none-base : (slots : List NamedSlot) (name : Name) (n : ℕ) → count_by (holds (OfMedium name)) (renewed_slots n (map renewal_of slots)) ≡ 0
none-base slots name n = none-over (holds (OfMedium name)) slots n (All-every _ (λ t d. direct-holds (OfMedium name) t d) slots) (λ i t le. refl)

-- each new image is held once
module _ (s : NamedSlot) (slots : List NamedSlot) (n : ℕ) where
  abbrev rest : List Renewal
  rest = map renewal_of slots

  abbrev IsOnce : List NamedSlot → NamedInner → Type 0
  IsOnce ss x = count_by (holds (OfInner x.number)) ss ≡ 1

  new-once : (next : AllByRecursion (IsOnce (renewed_slots (n + 1) rest)) (new_inners (n + 1) rest))
      → AllByRecursion (IsOnce (record s { held = Own n } ∷ renewed_slots (n + 1) rest)) (record { number = n; parent = OfMedium s.medium } ∷ new_inners (n + 1) rest)
  new-once next = (
    (let none = none-number slots n (n + 1) (omega arith) in
        let here : (n == n) ≡ true = eq-eqb n n refl in
        count-cons (holds (OfInner n)) (record s { held = Own n }) (renewed_slots (n + 1) rest) ∙ rw here (omega (arith, none))),
    All-join _ _ _ (λ x le one.
        let other : (x.number == n) ≡ false = ne_eqb x.number n (λ same. omega (arith, le, same)) in
        count-cons (holds (OfInner x.number)) (record s { held = Own n }) (renewed_slots (n + 1) rest) ∙ rw other (omega (arith, one)))
        (new_inners (n + 1) rest) (new-from rest (n + 1) (n + 1) (omega arith)) next,
  )

  once-held : (h : Held) → s.held ≡ h → ((m : ℕ) → AllByRecursion (IsOnce (renewed_slots m rest)) (new_inners m rest))
      → AllByRecursion (IsOnce (renewed_slots n (renewal_over s h ∷ rest))) (new_inners n (renewal_over s h ∷ rest))
  once-held Direct e next = All-map _ _ (λ x one.
      let none = direct-holds (OfInner x.number) s e in
      count-cons (holds (OfInner x.number)) s (renewed_slots n rest) ∙ rw none (omega (arith, one))) (new_inners n rest) (next n)
  once-held (Own j) e next = new-once (next (n + 1))
  once-held Base e next = new-once (next (n + 1))

pub over-once : (slots : List NamedSlot) (n : ℕ)
    → AllByRecursion (λ (x : NamedInner). count_by (holds (OfInner x.number)) (renewed_slots n (map renewal_of slots))
    ≡ 1) (new_inners n (map renewal_of slots))
over-once [] n = tt
over-once (s ∷ slots) n = once-held s slots n s.held refl (λ m. over-once slots m)
