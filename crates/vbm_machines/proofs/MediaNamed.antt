-- Media that come and go: the places of the others, machines by their names, and machines that have none of them.
use Rattle.std.proofs.Common.{◌≡◌, ◌==◌, ◌≤◌, ◌||◌, ℕ, ◌+◌, Bool, true, false, not, cond, List, [], ◌∷◌, map, sum_by, Option, Some, None, refl, ap, ◌∙◌, arith, IsFalse}
use Rattle.std.specs.List.{AllByRecursion, slice_get, list_any}
use Rattle.std.specs.Str.{bytes_eq}
use Rattle.std.proofs.lemmas.Bool.Decides.{nat_tests}
use Rattle.std.proofs.lemmas.List.Sums.{sum_by-cons}
use Rattle.vbm_named.specs.Names.{Name}
use Rattle.vbm_named.specs.Places.{shifted, closed_up, name_there}
use Rattle.vbm_named.proofs.Lists.{All-map}
use Rattle.vbm_named.proofs.Places.{get_put, get_without, name_map}
use Rattle.vbm_world.specs.declared.world.WorldSlot.{WorldSlot}
use Rattle.vbm_world.specs.declared.world.WorldSnapshot.{WorldSnapshot}
use Rattle.vbm_world.specs.World.{has_medium, is_in_snapshot}
use Rattle.vbm_machines.specs.declared.Slot.{Slot}
use Rattle.vbm_machines.specs.declared.Snapshot.{Snapshot}
use Rattle.vbm_machines.specs.declared.Machine.{Machine}
use Rattle.vbm_machines.specs.declared.renumbering.Renumbering.{Renumbering}
use Rattle.vbm_machines.specs.declared.renumbering.Renumbering.TheVariants.{Entered, Left}
use Rattle.vbm_machines.specs.Renumbering.{place_after, has_left, itself, Becomes, SlotSight, slot_by, HasStayed, slot_renumbered, snapshot_renumbered, machine_renumbered, EachSlot}
use Rattle.vbm_machines.specs.Snapshots.{name_of_snapshot, snapshot_in, machine_in}
use Rattle.vbm_machines.specs.Holders.{holding, holders}
use Rattle.vbm_machines.proofs.RemovedNamed.{apart_from}

-- ---- the name at a place stands at the new place

pub place_kept : (r : Renumbering) (old new : List Name) → Becomes r old new → (place : ℕ) → IsFalse (has_left r place)
    → slice_get new (place_after r place) ≡ slice_get old place
place_kept (Entered at) old new became place stays =
    (λ i. slice_get (became.2 i) (shifted (became.1 i) place)) ∙ get_put itself became.0 old place
place_kept (Left at) old new became place stays =
    ap (λ (l : List Name). slice_get l (closed_up at place)) became.3
    ∙ get_without itself old at became.0 became.2 became.1 place (apart_from place at stays)

-- ---- machines by another list of media

module _ (r : Renumbering) (seen now : Slot → WorldSlot) where
  abbrev Same : Slot → Type 0
  Same s = now (slot_renumbered r s) ≡ seen s

  same_slots : (slots : List Slot) → AllByRecursion Same slots → map now (map (slot_renumbered r) slots) ≡ map seen slots
  same_slots [] all = refl
  same_slots (s ∷ slots) all = rw (all.0, same_slots slots all.1) refl

  module _ (m : Machine) (each : EachSlot Same m) where
    abbrev after : List Snapshot
    after = map (snapshot_renumbered r) m.snapshots

    named : (p : Option ℕ) → name_there name_of_snapshot after p ≡ name_there name_of_snapshot m.snapshots p
    named None = refl
    named (Some i) = name_map (snapshot_renumbered r) name_of_snapshot name_of_snapshot (λ s. refl) m.snapshots i

    same_snapshots : (xs : List Snapshot) → AllByRecursion (λ (s : Snapshot). AllByRecursion Same s.slots) xs
        → map (snapshot_in now after) (map (snapshot_renumbered r) xs) ≡ map (snapshot_in seen m.snapshots) xs
    same_snapshots [] all = refl
    same_snapshots (s ∷ xs) all =
        λ i. record { name = s.name; parent = named s.parent i; slots = same_slots s.slots all.0 i } ∷ same_snapshots xs all.1 i

    -- where each slot is seen as before, so is the machine
    machine_same : machine_in now (machine_renumbered r m) ≡ machine_in seen m
    machine_same i = record {
      name = m.name;
      running = m.running;
      slots = same_slots m.slots each.slots i;
      snapshots = same_snapshots m.snapshots each.places i;
      current = named m.current i;
    }

each_map : (P Q : Slot → Type 0) → ((s : Slot) → P s → Q s) → (m : Machine) → EachSlot P m → EachSlot Q m
each_map P Q f m each = record {
  slots = All-map P Q f m.slots each.slots;
  places = All-map _ (λ (s : Snapshot). AllByRecursion Q s.slots) (λ s all. All-map P Q f s.slots all) m.snapshots each.places;
}

module _ (r : Renumbering) (old new : List Name) (became : Becomes r old new) (sight : SlotSight) where
  slot_same : (s : Slot) → HasStayed r s → slot_by sight new (slot_renumbered r s) ≡ slot_by sight old s
  slot_same s stays i = sight (place_kept r old new became s.medium stays i) s.port s.autoreset s.held

  -- machines that have no medium that left are seen as before
  pub machines_same : (machines : List Machine) → AllByRecursion (EachSlot (HasStayed r)) machines
      → map (machine_in (slot_by sight new)) (map (machine_renumbered r) machines) ≡ map (machine_in (slot_by sight old)) machines
  machines_same [] all = refl
  machines_same (m ∷ machines) all =
      λ i. machine_same r (slot_by sight old) (slot_by sight new) m (each_map _ _ slot_same m all.0) i ∷ machines_same machines all.1 i

-- ---- what holds a medium

sum_zero : {X : Type 0} (f : X → ℕ) (xs : List X) → sum_by f xs ≤ 0 → AllByRecursion (λ x. f x ≤ 0) xs
sum_zero f [] low = tt
sum_zero f (x ∷ xs) low = let e = sum_by-cons f x xs in (omega arith, sum_zero f xs (omega arith))

one_is : (b : Bool) → cond {A = ℕ} b 1 0 ≤ 0 → b ≡ false
one_is true low = absurd (omega arith)
one_is false low = refl

none_holding : (at : ℕ) (slots : List Slot) → holding at slots ≤ 0 → AllByRecursion (λ (s : Slot). (s.medium == at) ≡ false) slots
none_holding at slots low = All-map _ (λ (s : Slot). (s.medium == at) ≡ false) (λ s h. one_is (s.medium == at) h) slots
    (sum_zero (λ (s : Slot). cond {A = ℕ} (s.medium == at) 1 0) slots low)

-- a medium that nothing holds can leave
pub none_hold : (at : ℕ) (m : Machine) → holders at m ≡ 0 → EachSlot (HasStayed (Left at)) m
none_hold at m none = record {
  slots = none_holding at m.slots (omega arith);
  places = All-map _ (λ (s : Snapshot). AllByRecursion (HasStayed (Left at)) s.slots) (λ s low. none_holding at s.slots low) m.snapshots
      (sum_zero (λ (s : Snapshot). holding at s.slots) m.snapshots (omega arith));
}

-- whether a medium is in use, by place and by name
module _ (seen : Slot → WorldSlot) (name : Name) (at : ℕ) where
  abbrev Means : Slot → Type 0
  Means s = bytes_eq (seen s).medium name ≡ (s.medium == at)

  some_hold : (slots : List Slot) → AllByRecursion Means slots → has_medium name (map seen slots) ≡ not (holding at slots == 0)
  some_hold [] all = refl
  some_hold (s ∷ slots) all =
      let count = sum_by-cons (λ (k : Slot). cond {A = ℕ} (k.medium == at) 1 0) s slots in
      rw (all.0, some_hold slots all.1, count) (either (s.medium == at) (holding at slots))
    where
      either : (b : Bool) (n : ℕ) → b || not (n == 0) ≡ not ((cond b 1 0 + n) == 0)
      either true n = grind (arith, nat_tests)
      either false n = grind (arith, nat_tests)

  some_place : (xs : List Snapshot) (all_snapshots : List Snapshot) → AllByRecursion (λ (s : Snapshot). AllByRecursion Means s.slots) xs
      → list_any (λ (s : WorldSnapshot). has_medium name s.slots) (map (snapshot_in seen all_snapshots) xs)
      ≡ not (sum_by (λ (s : Snapshot). holding at s.slots) xs == 0)
  some_place [] all_snapshots all = refl
  some_place (s ∷ xs) all_snapshots all =
      let count = sum_by-cons (λ (k : Snapshot). holding at k.slots) s xs in
      rw (some_hold s.slots all.0, some_place xs all_snapshots all.1, count)
      (either (holding at s.slots) (sum_by (λ (k : Snapshot). holding at k.slots) xs))
    where
      either : (k n : ℕ) → not (k == 0) || not (n == 0) ≡ not ((k + n) == 0)
      either k n = grind (arith, nat_tests)

  pub in_use : (m : Machine) → EachSlot Means m
      → has_medium name (machine_in seen m).slots || is_in_snapshot name (machine_in seen m) ≡ not (holders at m == 0)
  in_use m each =
      rw (some_hold m.slots each.slots, some_place m.snapshots m.snapshots each.places)
      (either (holding at m.slots) (sum_by (λ (s : Snapshot). holding at s.slots) m.snapshots))
    where
      either : (k n : ℕ) → not (k == 0) || not (n == 0) ≡ not ((k + n) == 0)
      either k n = grind (arith, nat_tests)
