-- A snapshot less: the places of the others, and the machine by names.
use Rattle.std.proofs.Common.{◌≡◌, ◌==◌, ◌≢◌, ◌<◌, ℕ, ◌+◌, Bool, true, false, cond, List, [], ◌∷◌, map, length, count_by, Option, Some, None, refl, sym, ap, ◌∙◌, arith, IfSome, IsFalse}
use Rattle.std.specs.List.{slice_get}
use Rattle.std.specs.Option.{option_map}
use Rattle.std.specs.Str.{bytes_eq}
use Rattle.std.proofs.lemmas.Bool.Decides.{nat_tests}
use Rattle.std.proofs.lemmas.List.Sums.{sum_by-cons}
use Rattle.std.proofs.lemmas.Option.{slice_get_within}
use Rattle.vbm_named.specs.Names.{Name, without, Rises}
use Rattle.vbm_named.specs.Places.{closed_up, name_at, name_there}
use Rattle.vbm_named.proofs.Lists.{name_refl, without_map, rises_map, rises_without, All-map, All-of_map, All-without, All-get}
use Rattle.vbm_named.proofs.Places.{name_without, name_map, length-left, one_place}
use Rattle.vbm_world.specs.declared.world.WorldSlot.{WorldSlot}
use Rattle.vbm_world.specs.declared.world.WorldSnapshot.{WorldSnapshot}
use Rattle.vbm_world.specs.World.{snapshot_name}
use Rattle.vbm_world.specs.Snapshots.{is_this, dependents, adopted}
use Rattle.vbm_machines.specs.declared.Slot.{Slot}
use Rattle.vbm_machines.specs.declared.Snapshot.{Snapshot}
use Rattle.vbm_machines.specs.declared.Machine.{Machine}
use Rattle.vbm_machines.specs.declared.renumbering.Renumbering.TheVariants.{Left}
use Rattle.vbm_machines.specs.Renumbering.{place_or_heir}
use Rattle.vbm_machines.specs.Snapshots.{name_of_snapshot, snapshot_in, machine_in, HasPlaces, is_at, dependents_at, parents_renumbered, machine_without, removed_as}
use Rattle.vbm_machines.proofs.TakenNamed.{map_map, length-map, get_map}

closed_within : (at i n : ℕ) → i < n + 1 → at < n + 1 → (i == at) ≡ false → closed_up at i < n
closed_within at i n less there other = grind (arith, nat_tests)

pub apart_from : (i j : ℕ) → (i == j) ≡ false → i ≢ j
apart_from i j e same = grind (arith, nat_tests)

same_place_from : (i j : ℕ) → (i == j) ≡ true → i ≡ j
same_place_from i j e = grind (arith, nat_tests)

pub count_same : {X Y : Type 0} (p : X → Bool) (q : Y → Bool) (f : X → Y) → ((x : X) → p x ≡ q (f x)) → (xs : List X)
    → count_by p xs ≡ count_by q (map f xs)
count_same p q f same [] = refl
count_same p q f same (x ∷ xs) =
    let one = sum_by-cons (λ y. cond {A = ℕ} (p y) 1 0) x xs in
    let two = sum_by-cons (λ y. cond {A = ℕ} (q y) 1 0) (f x) (map f xs) in
    let here : cond {A = ℕ} (p x) 1 0 ≡ cond (q (f x)) 1 0 = ap (λ (b : Bool). cond {A = ℕ} b 1 0) (same x) in
    let more = count_same p q f same xs in omega arith

module _ (m : Machine) (at : ℕ) (gone : Snapshot) (has : HasPlaces m) (there : slice_get m.snapshots at ≡ Some gone) where
  abbrev heir : Option ℕ
  heir = place_or_heir (Left at) None gone.parent

  abbrev moved : Snapshot → Snapshot
  moved s = record s { parent = place_or_heir (Left at) heir s.parent }

  abbrev all_moved : List Snapshot
  all_moved = parents_renumbered (Left at) heir m.snapshots

  abbrev left : List Snapshot
  left = without name_of_snapshot gone.name all_moved

  abbrev parent : Option Name
  parent = name_there name_of_snapshot m.snapshots gone.parent

  rises_moved : Rises name_of_snapshot all_moved
  rises_moved = rises_map moved name_of_snapshot name_of_snapshot (λ s. refl) m.snapshots has.names

  there_moved : slice_get all_moved at ≡ Some (moved gone)
  there_moved = get_map moved m.snapshots at gone there

  -- the new places of the others have the names that the old ones had
  named_left : (i : ℕ) → (i == at) ≡ false → name_at name_of_snapshot left (closed_up at i) ≡ name_at name_of_snapshot m.snapshots i
  named_left i other =
      name_without name_of_snapshot all_moved at (moved gone) rises_moved there_moved i (apart_from i at other)
      ∙ name_map moved name_of_snapshot name_of_snapshot (λ s. refl) m.snapshots i

  named_heir : IsFalse (is_at gone.parent at) → name_there name_of_snapshot left heir ≡ parent
  named_heir apart = elim gone.parent as (λ p. is_at p at ≡ false
      → name_there name_of_snapshot left (place_or_heir (Left at) None p) ≡ name_there name_of_snapshot m.snapshots p) [
        | None ↦ λ e. refl
        | Some i ↦ λ e. rw e (named_left i e)
      ] apart

  -- a place names the snapshot that goes exactly where it is its place
  pub is_it : (p : Option ℕ) → is_at p at ≡ is_this gone.name (name_there name_of_snapshot m.snapshots p)
  is_it None = refl
  is_it (Some i) = elim (i == at) as (λ b. (i == at) ≡ b → b ≡ is_this gone.name (name_at name_of_snapshot m.snapshots i)) [
    | true ↦ λ e.
        let here : slice_get m.snapshots i ≡ Some gone = ap (slice_get m.snapshots) (same_place_from i at e) ∙ there in
        rw here (sym (name_refl gone.name))
    | false ↦ λ e. elim (slice_get m.snapshots i) as (λ o. slice_get m.snapshots i ≡ o → false ≡ is_this gone.name (option_map name_of_snapshot o)) [
      | None ↦ λ is. refl
      | Some s ↦ λ is. elim (bytes_eq s.name gone.name) as (λ b. bytes_eq s.name gone.name ≡ b → false ≡ b) [
        | true ↦ λ named. absurd (apart_from i at e (one_place name_of_snapshot m.snapshots i at s gone has.names is there named))
        | false ↦ λ named. refl
      ] refl
    ] refl
  ] refl

  abbrev heir_named : Option Name → Option Name
  heir_named o = cond (is_this gone.name o) parent o

  named_moved : IsFalse (is_at gone.parent at) → (p : Option ℕ) → name_there name_of_snapshot left (place_or_heir (Left at) heir p)
      ≡ heir_named (name_there name_of_snapshot m.snapshots p)
  named_moved apart None = refl
  named_moved apart (Some i) = elim (i == at) as (λ b. (i == at) ≡ b
      → name_there name_of_snapshot left (cond b heir (Some (closed_up at i))) ≡ heir_named (name_at name_of_snapshot m.snapshots i)) [
        | true ↦ λ e.
            let here : slice_get m.snapshots i ≡ Some gone = ap (slice_get m.snapshots) (same_place_from i at e) ∙ there in
            rw (here, name_refl gone.name) (named_heir apart)
        | false ↦ λ e. named_left i e ∙ others (name_at name_of_snapshot m.snapshots i) (sym (is_it (Some i)) ∙ e)
      ] refl
    where
      others : (o : Option Name) → is_this gone.name o ≡ false → o ≡ heir_named o
      others None e = refl
      others (Some other) e = rw e refl

  module _ (seen : Slot → WorldSlot) where
    abbrev gone_in : WorldSnapshot
    gone_in = snapshot_in seen m.snapshots gone

    pub dependents_named : dependents_at at m ≡ dependents (machine_in seen m) gone.name
    dependents_named =
        let one = count_same (λ (s : Snapshot). is_at s.parent at) (λ (s : WorldSnapshot). is_this gone.name s.parent) (snapshot_in seen m.snapshots)
        (λ s. is_it s.parent) m.snapshots in
        let two : cond {A = ℕ} (is_at m.current at) 1 0 ≡ cond (is_this gone.name (name_there name_of_snapshot m.snapshots m.current)) 1 0
        = ap (λ (b : Bool). cond {A = ℕ} b 1 0) (is_it m.current) in
        omega arith

    module _ (apart : IsFalse (is_at gone.parent at)) where
      seen_moved : map (snapshot_in seen left) all_moved ≡ map (adopted gone_in) (map (snapshot_in seen m.snapshots) m.snapshots)
      seen_moved =
          map_map (snapshot_in seen left) moved (λ (s : Snapshot). adopted gone_in (snapshot_in seen m.snapshots s))
          (λ s i. record { name = s.name; parent = named_moved apart s.parent i; slots = map seen s.slots }) m.snapshots
          ∙ sym (map_map (adopted gone_in) (snapshot_in seen m.snapshots)
          (λ (s : Snapshot). adopted gone_in (snapshot_in seen m.snapshots s)) (λ s. refl) m.snapshots)

      seen_left : map (snapshot_in seen left) left
          ≡ map (adopted gone_in) (without snapshot_name gone.name (map (snapshot_in seen m.snapshots) m.snapshots))
      seen_left =
          without_map (snapshot_in seen left) name_of_snapshot snapshot_name (λ s. refl) gone.name all_moved
          ∙ ap (without snapshot_name gone.name) seen_moved
          ∙ sym (without_map (adopted gone_in) snapshot_name snapshot_name (λ s. refl) gone.name (map (snapshot_in seen m.snapshots) m.snapshots))

      pub removed_named : machine_in seen (machine_without at gone m) ≡ removed_as gone_in (machine_in seen m)
      removed_named i = record {
        name = m.name;
        running = m.running;
        slots = map seen m.slots;
        snapshots = seen_left i;
        current = named_moved apart m.current i;
      }

  length_left : length left + 1 ≡ length m.snapshots
  length_left = length-left name_of_snapshot all_moved at (moved gone) rises_moved there_moved ∙ length-map moved m.snapshots

  at_within : at < length left + 1
  at_within = rw length_left (slice_get_within m.snapshots at gone there)

  heir_within : (p : Option ℕ) → IfSome p (λ i. i < length m.snapshots) → IfSome (place_or_heir (Left at) None p) (λ i. i < length left)
  heir_within None less = tt
  heir_within (Some i) less = elim (i == at) as (λ b. (i == at) ≡ b → IfSome (cond b None (Some (closed_up at i))) (λ k. k < length left)) [
    | true ↦ λ e. tt
    | false ↦ λ e. closed_within at i (length left) (rw length_left less) at_within e
  ] refl

  left_within : (p : Option ℕ) → IfSome p (λ i. i < length m.snapshots) → IfSome (place_or_heir (Left at) heir p) (λ i. i < length left)
  left_within None less = tt
  left_within (Some i) less = elim (i == at) as (λ b. (i == at) ≡ b → IfSome (cond b heir (Some (closed_up at i))) (λ k. k < length left)) [
    | true ↦ λ e. heir_within gone.parent (All-get _ m.snapshots at gone has.parents there)
    | false ↦ λ e. closed_within at i (length left) (rw length_left less) at_within e
  ] refl

  pub removed_places : HasPlaces (machine_without at gone m)
  removed_places = record {
    names = rises_without name_of_snapshot gone.name all_moved rises_moved;
    parents = All-without name_of_snapshot _ gone.name all_moved
        (All-of_map moved _ m.snapshots
        (All-map _ (λ (s : Snapshot). IfSome (place_or_heir (Left at) heir s.parent) (λ i. i < length left))
        (λ s less. left_within s.parent less) m.snapshots has.parents));
    current = left_within m.current has.current;
    few = let one = length_left in let two = has.few in omega arith;
  }
