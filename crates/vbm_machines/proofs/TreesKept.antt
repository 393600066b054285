-- The edits keep the tree of snapshots.
use Rattle.std.proofs.Common.{◌≡◌, ◌==◌, ◌<◌, ◌≤◌, ℕ, zero, suc, true, false, List, [], ◌∷◌, map, length, Option, Some, None, is_some, refl, sym, ap, subst, ◌∙◌, arith, IfSome, IsFalse}
use Rattle.std.specs.List.{slice_get}
use Rattle.std.specs.Option.{option_map}
use Rattle.std.proofs.lemmas.Bool.Decides.{nat_tests}
use Rattle.vbm_named.specs.Names.{Name, find_by, has_name}
use Rattle.vbm_named.specs.Places.{name_there}
use Rattle.vbm_named.proofs.Lists.{same_name, each_found, has_found, has_map, find_map, All-get}
use Rattle.vbm_world.specs.declared.world.WorldSlot.{WorldSlot}
use Rattle.vbm_world.specs.declared.world.WorldMachine.{WorldMachine}
use Rattle.vbm_world.specs.World.{snapshot_name}
use Rattle.vbm_world.specs.Snapshots.{is_this, dependents, new_snapshot}
use Rattle.vbm_world.specs.Tree.{Branch, branch_of, branch_name, Has, IsTree}
use Rattle.vbm_world.proofs.TakenTree.{tree_taken}
use Rattle.vbm_world.proofs.DeletingTree.{deleted_tree}
use Rattle.vbm_machines.specs.declared.Slot.{Slot}
use Rattle.vbm_machines.specs.declared.Snapshot.{Snapshot}
use Rattle.vbm_machines.specs.declared.Machine.{Machine}
use Rattle.vbm_machines.specs.Snapshots.{name_of_snapshot, snapshot_in, machine_in, branches_in, HasTree, HasPlaces, is_at, dependents_at, machine_taken, machine_restored, machine_without, removed_as}
use Rattle.vbm_machines.proofs.TakenNamed.{map_map, get_map, taken_named}
use Rattle.vbm_machines.proofs.RemovedNamed.{is_it, dependents_named, removed_named, removed_places}

-- ---- by names

-- a slot without a medium and a disk
bare : Slot → WorldSlot
bare s = record { port = s.port; medium = []; autoreset = s.autoreset; own = None }

abbrev TreeOf : WorldMachine → Type 0
TreeOf w = IsTree (map branch_of w.snapshots) w.current

branches_seen : (m : Machine) → map branch_of (machine_in bare m).snapshots ≡ branches_in m.snapshots
branches_seen m =
    map_map branch_of (snapshot_in bare m.snapshots) (λ (s : Snapshot). (s.name, name_there name_of_snapshot m.snapshots s.parent)) (λ s. refl)
    m.snapshots

to_names : (m : Machine) → HasTree m → TreeOf (machine_in bare m)
to_names m tree = subst (λ bs. IsTree bs (name_there name_of_snapshot m.snapshots m.current)) (sym (branches_seen m)) tree

from_names : (m : Machine) → TreeOf (machine_in bare m) → HasTree m
from_names m tree = subst (λ bs. IsTree bs (name_there name_of_snapshot m.snapshots m.current)) (branches_seen m) tree

found_in : (seen : Slot → WorldSlot) (name : Name) (m : Machine)
    → find_by snapshot_name name (machine_in seen m).snapshots ≡ option_map (snapshot_in seen m.snapshots) (find_by name_of_snapshot name m.snapshots)
found_in seen name m = find_map (snapshot_in seen m.snapshots) name_of_snapshot snapshot_name (λ s. refl) name m.snapshots

-- ---- take

lacks : (name : Name) (xs : List Snapshot) → IsFalse (has_name name_of_snapshot name xs) → find_by name_of_snapshot name xs ≡ None
lacks name xs another = elim (find_by name_of_snapshot name xs) as (λ o. is_some o ≡ false → o ≡ None) [ None ↦ λ e. refl | Some s ↦ λ e. absurd cc ]
    (sym (has_found name_of_snapshot name xs) ∙ another)

pub taken_tree : (name : Name) (places slots : List Slot) (m : Machine) → IsFalse (has_name name_of_snapshot name m.snapshots)
    → HasTree m → HasTree (machine_taken name places slots m)
taken_tree name places slots m another tree =
    from_names (machine_taken name places slots m)
    (subst TreeOf (sym (taken_named name places slots m bare))
    (tree_taken (machine_in bare m).snapshots (machine_in bare m).current (new_snapshot (machine_in bare m) name (map bare places))
    (to_names m tree) refl
    (found_in bare name m ∙ ap (option_map (snapshot_in bare m.snapshots)) (lacks name m.snapshots another))))

-- ---- remove, restore

some_branch : (name : Name) (bs : List Branch) → Has bs name → (length bs == 0) ≡ false
some_branch name [] has = absurd cc
some_branch name (b ∷ bs) has = grind (arith, nat_tests)

module _ (m : Machine) (at : ℕ) (gone : Snapshot) (has : HasPlaces m) (there : slice_get m.snapshots at ≡ Some gone) (tree : HasTree m) where
  abbrev parent_named : Option Name
  parent_named = name_there name_of_snapshot m.snapshots gone.parent

  abbrev branch_in : Snapshot → Branch
  branch_in s = (s.name, name_there name_of_snapshot m.snapshots s.parent)

  -- a snapshot is not its own parent
  pub parent_apart : is_at gone.parent at ≡ false
  parent_apart = elim (is_at gone.parent at) as (λ b. is_at gone.parent at ≡ b → b ≡ false) [
    | true ↦ λ e. absurd (own_parent parent_named (sym (is_it m at gone has there gone.parent) ∙ e)
        (All-get _ (branches_in m.snapshots) at (gone.name, parent_named) tree.below (get_map branch_in m.snapshots at gone there)))
    | false ↦ λ e. refl
  ] refl
    where
      own_parent : (o : Option Name) → is_this gone.name o ≡ true → IfSome o (λ q. tree.depth q < tree.depth gone.name) → ⊥
      own_parent None e below = cc
      own_parent (Some q) e below = let same : tree.depth q ≡ tree.depth gone.name = ap tree.depth (same_name q gone.name e) in omega (arith, below)

  gone_found : find_by name_of_snapshot gone.name m.snapshots ≡ Some gone
  gone_found = All-get _ m.snapshots at gone (each_found name_of_snapshot m.snapshots has.names) there

  pub removed_tree : dependents_at at m ≤ 1 → HasTree (machine_without at gone m)
  removed_tree few =
      from_names (machine_without at gone m)
      (subst TreeOf (sym (removed_named m at gone has there bare parent_apart))
      (deleted_tree (machine_in bare m) (snapshot_in bare m.snapshots gone) (to_names m tree)
      (found_in bare gone.name m ∙ ap (option_map (snapshot_in bare m.snapshots)) gone_found)
      (rw (← dependents_named m at gone has there bare) few)))

  gone_there : Has (branches_in m.snapshots) gone.name
  gone_there = has_map branch_in name_of_snapshot branch_name (λ s. refl) gone.name m.snapshots
      ∙ has_found name_of_snapshot gone.name m.snapshots ∙ ap is_some gone_found

  pub restored_tree : (slots : List Slot) → HasTree (machine_restored at slots m)
  restored_tree slots =
      subst (IsTree (branches_in m.snapshots)) (sym (ap (option_map name_of_snapshot) there))
      (record {
        names = tree.names;
        parents = tree.parents;
        depth = tree.depth;
        below = tree.below;
        root = tree.root;
        there = gone_there;
        none = sym (some_branch gone.name (branches_in m.snapshots) gone_there);
      })

-- ---- the same by what the code knows

pub there_is : (xs : List Snapshot) (i : ℕ) → i < length xs → (s : Snapshot) × (slice_get xs i ≡ Some s)
there_is [] i less = absurd (omega (arith, less))
there_is (x ∷ xs) zero less = (x, refl)
there_is (x ∷ xs) (suc i) less = there_is xs i (omega arith)

known : {X : Type 0} (o : Option X) (x : X) (P : X → Type 0) → o ≡ Some x → IfSome o P → P x
known None x P e p = absurd cc
known (Some y) x P e p = let same : y ≡ x = cc in subst P same p

module _ (m : Machine) (at : ℕ) (has : HasPlaces m) (new : Machine)
    (is : IfSome (slice_get m.snapshots at) (λ (s : Snapshot). new ≡ machine_without at s m)) where
  pub left_named : HasTree m → (seen : Slot → WorldSlot)
      → IfSome (slice_get m.snapshots at) (λ (s : Snapshot). machine_in seen new ≡ removed_as (snapshot_in seen m.snapshots s) (machine_in seen m))
  left_named tree seen = elim (slice_get m.snapshots at) as (λ o. slice_get m.snapshots at ≡ o
      → IfSome o (λ (s : Snapshot). new ≡ machine_without at s m)
      → IfSome o (λ (s : Snapshot). machine_in seen new ≡ removed_as (snapshot_in seen m.snapshots s) (machine_in seen m))) [
        | None ↦ λ e n. tt
        | Some s ↦ λ e n. ap (machine_in seen) n ∙ removed_named m at s has e seen (parent_apart m at s has e tree)
      ] refl is

  pub left_places : at < length m.snapshots → HasPlaces new
  left_places within = let s = there_is m.snapshots at within in
      subst HasPlaces (sym (known (slice_get m.snapshots at) s.0 _ s.1 is)) (removed_places m at s.0 has s.1)

  pub left_tree : at < length m.snapshots → dependents_at at m ≤ 1 → HasTree m → HasTree new
  left_tree within few tree = let s = there_is m.snapshots at within in
      subst HasTree (sym (known (slice_get m.snapshots at) s.0 _ s.1 is)) (removed_tree m at s.0 has s.1 tree few)

pub restored_has_tree : (m : Machine) (at : ℕ) → HasPlaces m → at < length m.snapshots → (slots : List Slot) → HasTree m
    → HasTree (machine_restored at slots m)
restored_has_tree m at has within slots tree =
    let s = there_is m.snapshots at within in restored_tree m at s.0 has s.1 tree slots

pub dependents_seen : (m : Machine) (at : ℕ) → HasPlaces m → (seen : Slot → WorldSlot)
    → IfSome (slice_get m.snapshots at) (λ (s : Snapshot). dependents_at at m ≡ dependents (machine_in seen m) s.name)
dependents_seen m at has seen = elim (slice_get m.snapshots at) as (λ o. slice_get m.snapshots at ≡ o
    → IfSome o (λ (s : Snapshot). dependents_at at m ≡ dependents (machine_in seen m) s.name)) [
      | None ↦ λ e. tt
      | Some s ↦ λ e. dependents_named m at s has e seen
    ] refl
