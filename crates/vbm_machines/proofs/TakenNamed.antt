-- A snapshot more: the places of the others, and the machine by names.
use Rattle.std.proofs.Common.{◌≡◌, ◌<◌, ℕ, zero, suc, ◌+◌, ltb, false, List, [], ◌∷◌, map, length, Option, Some, None, is_some, refl, sym, ap, subst, ◌∙◌, arith, IfSome, IsFalse}
use Rattle.std.specs.List.{slice_get}
use Rattle.std.proofs.lemmas.Bool.{cond_both}
use Rattle.vbm_named.specs.Names.{Name, find_by, has_name, put_by}
use Rattle.vbm_named.specs.Places.{shifted, place_for, name_at, name_there}
use Rattle.vbm_named.proofs.Lists.{has_found, has_map, put_map, rises_map, rises_put, length-put, All-map, All-of_map, All-put}
use Rattle.vbm_named.proofs.Places.{name_put, name_put_at, name_map, place_within}
use Rattle.vbm_world.specs.declared.limits.TheConstants.{SNAPSHOT_LIMIT}
use Rattle.vbm_world.specs.declared.world.WorldSlot.{WorldSlot}
use Rattle.vbm_world.specs.World.{snapshot_name}
use Rattle.vbm_machines.specs.declared.Slot.{Slot}
use Rattle.vbm_machines.specs.declared.Snapshot.{Snapshot}
use Rattle.vbm_machines.specs.declared.Machine.{Machine}
use Rattle.vbm_machines.specs.declared.renumbering.Renumbering.TheVariants.{Entered}
use Rattle.vbm_machines.specs.Renumbering.{place_or_heir}
use Rattle.vbm_machines.specs.Snapshots.{name_of_snapshot, snapshot_in, machine_in, HasPlaces, parents_renumbered, machine_taken, taken_as}

-- ---- lists

pub map_map : {X Y Z : Type 0} (f : Y → Z) (g : X → Y) (h : X → Z) → ((x : X) → f (g x) ≡ h x) → (xs : List X) → map f (map g xs) ≡ map h xs
map_map f g h same [] = refl
map_map f g h same (x ∷ xs) = rw (same x, map_map f g h same xs) refl

pub length-map : {X Y : Type 0} (f : X → Y) (xs : List X) → length (map f xs) ≡ length xs
length-map f [] = refl
length-map f (x ∷ xs) = ap suc (length-map f xs)

pub get_map : {X Y : Type 0} (f : X → Y) (xs : List X) (i : ℕ) (x : X) → slice_get xs i ≡ Some x → slice_get (map f xs) i ≡ Some (f x)
get_map f [] i x at = absurd cc
get_map f (y ∷ ys) zero x at = let same : y ≡ x = cc in ap (λ z. Some (f z)) same
get_map f (y ∷ ys) (suc i) x at = get_map f ys i x at

place_map : (f : Snapshot → Snapshot) → ((s : Snapshot) → name_of_snapshot (f s) ≡ name_of_snapshot s) → (name : Name) (xs : List Snapshot)
    → place_for name_of_snapshot name (map f xs) ≡ place_for name_of_snapshot name xs
place_map f keeps name [] = refl
place_map f keeps name (x ∷ xs) = rw (keeps x, place_map f keeps name xs) refl

pub if_map : {X : Type 0} (P Q : X → Type 0) (o : Option X) → ((x : X) → P x → Q x) → IfSome o P → IfSome o Q
if_map P Q None f p = tt
if_map P Q (Some x) f p = f x p

-- ---- a snapshot is taken

shifted_within : (at i n : ℕ) → i < n → shifted at i < n + 1
shifted_within at i n less = cond_both (ltb i at) i (i + 1) (λ k. k < n + 1) (λ e. omega arith) (λ e. omega arith)

module _ (name : Name) (places slots : List Slot) (m : Machine) where
  abbrev at : ℕ
  at = place_for name_of_snapshot name m.snapshots

  abbrev moved : Snapshot → Snapshot
  moved s = record s { parent = place_or_heir (Entered at) None s.parent }

  abbrev old : List Snapshot
  old = parents_renumbered (Entered at) None m.snapshots

  abbrev taken_now : Snapshot
  taken_now = record { name = name; parent = place_or_heir (Entered at) None m.current; slots = places }

  abbrev new : List Snapshot
  new = put_by name_of_snapshot taken_now old

  same_place : place_for name_of_snapshot name old ≡ at
  same_place = place_map moved (λ s. refl) name m.snapshots

  -- a new place has the name that the old one had
  named_then : (p : Option ℕ) → name_there name_of_snapshot new (place_or_heir (Entered at) None p) ≡ name_there name_of_snapshot m.snapshots p
  named_then None = refl
  named_then (Some i) =
      ap (λ k. name_at name_of_snapshot new (shifted k i)) (sym same_place) ∙ name_put name_of_snapshot taken_now old i
      ∙ name_map moved name_of_snapshot name_of_snapshot (λ s. refl) m.snapshots i

  module _ (seen : Slot → WorldSlot) where
    seen_old : map (snapshot_in seen new) old ≡ map (snapshot_in seen m.snapshots) m.snapshots
    seen_old = map_map (snapshot_in seen new) moved (snapshot_in seen m.snapshots)
        (λ s i. record { name = s.name; parent = named_then s.parent i; slots = map seen s.slots }) m.snapshots

    seen_new : snapshot_in seen new taken_now
        ≡ record { name = name; parent = name_there name_of_snapshot m.snapshots m.current; slots = map seen places }
    seen_new i = record { name = name; parent = named_then m.current i; slots = map seen places }

    seen_snapshots : map (snapshot_in seen new) new
        ≡ put_by snapshot_name (record { name = name; parent = name_there name_of_snapshot m.snapshots m.current; slots = map seen places })
        (map (snapshot_in seen m.snapshots) m.snapshots)
    seen_snapshots =
        put_map (snapshot_in seen new) name_of_snapshot snapshot_name (λ s. refl) taken_now old
        ∙ ap (λ x. put_by snapshot_name x (map (snapshot_in seen new) old)) seen_new
        ∙ ap (put_by snapshot_name _) seen_old

    named_at : name_there name_of_snapshot new (Some at) ≡ Some name
    named_at = ap (name_at name_of_snapshot new) (sym same_place) ∙ name_put_at name_of_snapshot taken_now old

    pub taken_named : machine_in seen (machine_taken name places slots m) ≡ taken_as name (map seen places) (map seen slots) (machine_in seen m)
    taken_named i = record { name = m.name; running = m.running; slots = map seen slots; snapshots = seen_snapshots i; current = named_at i }

  module _ (has : HasPlaces m) (room : length m.snapshots < SNAPSHOT_LIMIT) (another : IsFalse (has_name name_of_snapshot name m.snapshots)) where
    length_new : length new ≡ length m.snapshots + 1
    length_new = length-put name_of_snapshot taken_now old ∙ ap (λ n. n + 1) (length-map moved m.snapshots)

    within : (p : Option ℕ) → IfSome p (λ i. i < length m.snapshots) → IfSome (place_or_heir (Entered at) None p) (λ i. i < length new)
    within None less = tt
    within (Some i) less = let one = length_new in let two = shifted_within at i (length m.snapshots) less in
        subst (λ n. shifted at i < n) (sym one) two

    lacks_old : find_by name_of_snapshot name old ≡ None
    lacks_old = elim (find_by name_of_snapshot name old) as (λ o. is_some o ≡ false → o ≡ None) [ None ↦ λ e. refl | Some s ↦ λ e. absurd cc ]
        (sym (has_found name_of_snapshot name old) ∙ has_map moved name_of_snapshot name_of_snapshot (λ s. refl) name m.snapshots ∙ another)

    pub taken_places : HasPlaces (machine_taken name places slots m)
    taken_places = record {
      names = rises_put name_of_snapshot taken_now old lacks_old
          (rises_map moved name_of_snapshot name_of_snapshot (λ s. refl) m.snapshots has.names);
      parents = All-put name_of_snapshot _ taken_now old (within m.current has.current)
          (All-of_map moved _ m.snapshots
          (All-map _ (λ (s : Snapshot). IfSome (place_or_heir (Entered at) None s.parent) (λ i. i < length new))
          (λ s less. within s.parent less) m.snapshots has.parents));
      current = let low = place_within name_of_snapshot name m.snapshots in let one = length_new in omega arith;
      few = let one = length_new in omega arith;
    }
