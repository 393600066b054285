-- Deleting a snapshot: what its program needs.
use Rattle.std.proofs.Common.{◌≡◌, ℕ, ◌+◌, ◌<◌, ◌≤◌, Bool, true, false, not, cond, ◌||◌, List, [], ◌∷◌, length, map, if◌then◌else◌, Some, None, arith, refl, nat_lt, ◌^◌}
use Rattle.std.specs.List.{list_any, position, position_or_len}
use Rattle.std.specs.Str.{bytes_eq}
use Rattle.std.proofs.lemmas.List.Sums.{count_by-le-length}
use Rattle.vbm_world.proofs.Parted.{sum-parted}
use Rattle.std.proofs.lemmas.Bool.{cond_both, ltb-true, ltb-false}
use Rattle.vbm_world.specs.declared.world.WorldMedium.{WorldMedium}
use Rattle.vbm_world.specs.declared.world.WorldSlot.{WorldSlot}
use Rattle.vbm_world.specs.declared.world.WorldSnapshot.{WorldSnapshot}
use Rattle.vbm_world.specs.declared.world.WorldMachine.{WorldMachine}
use Rattle.vbm_named.specs.Names.{Name, change_by}
use Rattle.vbm_world.specs.World.{World, machine_name}
use Rattle.vbm_world.specs.Places.{machine_of}
use Rattle.vbm_world.specs.Sound.{IsSound}
use Rattle.vbm_world.specs.Snapshots.{is_this, dependents, parent_after, snapshots_after, base_slots, inner_slots, modify_after, medium_after, slot_after, deleted}
use Rattle.vbm_ids.specs.declared.Kind.TheVariants.{Modify}
use Rattle.vbm_ids.specs.Identifier.{identifier_of}

-- the first item that passes a test is one of the items where some item passes it, and is past the end where none does
some_below : {X : Type 0} (p : X → Bool) (xs : List X) → position_or_len p xs < length xs → list_any p xs ≡ true
some_below p [] = λ less. absurd (omega (arith, less))
some_below p (x ∷ xs) = elim (p x) as (λ b. cond (not b) (1 + position_or_len p xs) 0 < length (x ∷ xs) → b || list_any p xs ≡ true) [
  | true ↦ λ less. refl
  | false ↦ λ less. some_below p xs (omega (arith, less))
]

none_past : {X : Type 0} (p : X → Bool) (xs : List X) → length xs ≤ position_or_len p xs → list_any p xs ≡ false
none_past p [] = λ past. refl
none_past p (x ∷ xs) = elim (p x) as (λ b. length (x ∷ xs) ≤ cond (not b) (1 + position_or_len p xs) 0 → b || list_any p xs ≡ false) [
  | true ↦ λ past. absurd (omega (arith, past))
  | false ↦ λ past. none_past p xs (omega (arith, past))
]

pub placed : {X : Type 0} (p : X → Bool) (xs : List X) (i : ℕ) → position p xs ≡ Some i
    → (list_any p xs ≡ true) × (position_or_len p xs ≡ i) × (i < length xs)
placed {X} p xs i is = cond_both (nat_lt (position_or_len p xs) (length xs)) (Some (position_or_len p xs)) None
    (λ o. o ≡ Some i → (list_any p xs ≡ true) × (position_or_len p xs ≡ i) × (i < length xs))
    (λ e is. let same : position_or_len p xs ≡ i = cc in let less = ltb-true (position_or_len p xs) (length xs) e in
    (some_below p xs less, same, omega (arith, less, same))) (λ e is. absurd cc) is

pub unplaced : {X : Type 0} (p : X → Bool) (xs : List X) → position p xs ≡ None → list_any p xs ≡ false
unplaced {X} p xs is = cond_both (nat_lt (position_or_len p xs) (length xs)) (Some (position_or_len p xs)) None
    (λ o. o ≡ None → list_any p xs ≡ false) (λ e is. absurd cc) (λ e is. none_past p xs (ltb-false (position_or_len p xs) (length xs) e)) is

-- the modification identifier of a medium that a base slot has at a place, and of one that none has
pub modify_drawn : (w : World) (bases : List WorldSlot) (m : WorldMedium) (i : ℕ) → position (λ (s : WorldSlot). bytes_eq s.medium m.name) bases ≡ Some i
    → identifier_of w.seed Modify (w.next + i) ≡ modify_after w bases m
modify_drawn w bases m i is = let at = placed (λ (s : WorldSlot). bytes_eq s.medium m.name) bases i is in rw (at.0, at.1) refl

pub modify_kept : (w : World) (bases : List WorldSlot) (m : WorldMedium) → position (λ (s : WorldSlot). bytes_eq s.medium m.name) bases ≡ None
    → m.modify ≡ modify_after w bases m
modify_kept w bases m is = rw (unplaced (λ (s : WorldSlot). bytes_eq s.medium m.name) bases is) refl

-- the parts of the world after a snapshot is gone
pub deleted_is : (w : World) (m : WorldMachine) (gone : WorldSnapshot) (less : WorldMachine) (after machines : List WorldMachine)
    (media : List WorldMedium) (bases : List WorldSlot) (inner : ℕ)
    → less ≡ record m { snapshots = snapshots_after m gone; current = parent_after gone m.current }
    → after ≡ change_by machine_name less.name (λ _. less) w.machines
    → bases ≡ base_slots w m gone → inner ≡ length (inner_slots w m gone)
    → media ≡ map (medium_after w m gone after) w.media
    → machines ≡ change_by machine_name m.name (λ _. record less { slots = map (slot_after w gone after) m.slots }) w.machines
    → record w { next = w.next + length bases; inner = w.inner + inner; media = media; machines = machines } ≡ deleted w m gone
deleted_is w m gone less after machines media bases inner less_is after_is bases_is inner_is media_is machines_is =
    rw (bases_is, inner_is, media_is, machines_is, after_is, less_is) refl

-- the dependents of a snapshot of a sound world fit 32 bits
pub dependents_fit : (w : World) → IsSound w → (vm : Name) (m : WorldMachine) → machine_of w vm ≡ Some m → (name : Name)
    → dependents m name < 2 ^ 32
dependents_fit w ok vm m found name =
    let children = count_by-le-length (λ (s : WorldSnapshot). is_this name s.parent) m.snapshots in
    let all = sum-parted machine_name vm w.machines m ok.machine_order found (λ (k : WorldMachine). length k.snapshots) in
    let one = at_most (is_this name m.current) in
    omega (arith, ok.few_snapshots, children, all, one) where
      at_most : (b : Bool) → (if b then 1 else 0) ≤ 1
      at_most true = omega arith
      at_most false = omega arith
