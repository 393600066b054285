-- Machines keep their rules by places exactly where they keep them by names, but for what stands on what.
use Rattle.std.proofs.Common.{◌≡◌, ℕ, ◌+◌, ◌≤◌, true, false, List, [], ◌∷◌, length, map, reverse, IsTrue, refl, sym, subst, ◌∙◌}
use Rattle.std.specs.Prelude.{sum_by}
use Rattle.std.specs.List.{AllByRecursion}
use Rattle.std.specs.Option.{option_map}
use Rattle.std.proofs.lemmas.List.{length-map}
use Rattle.std.proofs.lemmas.List.Sums.{sum_by-cons}
use Rattle.std.proofs.lemmas.Simd.{map-map}
use Rattle.vbm_ports.specs.Names.{is_short_name}
use Rattle.vbm_ids.specs.declared.TheConstants.{NUMBER_LIMIT}
use Rattle.vbm_named.specs.Names.{Name, Rises}
use Rattle.vbm_named.proofs.Lists.{All-map, All-of_map}
use Rattle.vbm_world.specs.Tree.{IsTree, branch_name}
use Rattle.vbm_machines.specs.declared.Snapshot.{Snapshot}
use Rattle.vbm_machines.specs.declared.Machine.{Machine}
use Rattle.vbm_registry.specs.declared.media.Medium.{Medium}
use Rattle.vbm_registry.specs.declared.library.Inner.{Inner}
use Rattle.vbm_registry.specs.Library.{medium_entry_name}
use Rattle.vbm_registry.specs.Grammar.{snapshot_entry_name, places_listed, snapshots_among, places_among}
use Rattle.vbm_registry.specs.Named.{NamedSnapshot, NamedMachine, NamedMerging, ListedImages, named_snapshot_name, named_branch, name_in, inner_named, slot_named, snapshot_named, snapshot_names, machine_named, medium_names}
use Rattle.vbm_registry.specs.Rules.{AreNamedSlots, named_snapshot_count, named_place_count}
use Rattle.vbm_registry.proofs.CountedLists.{short_name_fits}
use Rattle.vbm_registry.proofs.InnersListed.{ArePlacedInners}
use Rattle.vbm_registry.proofs.MachinesListed.{IsPlacedMachine}
use Rattle.vbm_registry.proofs.NamesAtPlaces.{NotEmpty}
use Rattle.vbm_registry.proofs.ListLaws.{All-from_map, rises_from_map}
use Rattle.vbm_registry.proofs.SlotsNamed.{named_slots, placed_slots}
use Rattle.vbm_registry.proofs.TreesListed.{branches, good_tree, tree_good, tree_current}

-- ---- counts

listed_named : (media : List Name) (names : List Name) (xs : List Snapshot)
    → sum_by (λ (s : NamedSnapshot). length s.slots) (map (snapshot_named media names) xs) ≡ places_listed xs
listed_named media names [] = refl
listed_named media names (s ∷ xs) =
    sum_by-cons (λ (t : NamedSnapshot). length t.slots) (snapshot_named media names s) (map (snapshot_named media names) xs)
    ∙ (λ i. length-map s.slots (slot_named media) i + listed_named media names xs i)
    ∙ sym (sum_by-cons (λ (t : Snapshot). length t.slots) s xs)

pub snapshots_named : (media : List Name) (ms : List Machine) → named_snapshot_count (map (machine_named media) ms) ≡ snapshots_among ms
snapshots_named media [] = refl
snapshots_named media (m ∷ ms) =
    sum_by-cons (λ (n : NamedMachine). length n.snapshots) (machine_named media m) (map (machine_named media) ms)
    ∙ (λ i. length-map m.snapshots (snapshot_named media (snapshot_names m.snapshots)) i + snapshots_named media ms i)
    ∙ sym (sum_by-cons (λ (n : Machine). length n.snapshots) m ms)

pub places_named : (media : List Name) (ms : List Machine) → named_place_count (map (machine_named media) ms) ≡ places_among ms
places_named media [] = refl
places_named media (m ∷ ms) =
    sum_by-cons (λ (n : NamedMachine). sum_by (λ (s : NamedSnapshot). length s.slots) n.snapshots) (machine_named media m)
    (map (machine_named media) ms)
    ∙ (λ i. listed_named media (snapshot_names m.snapshots) m.snapshots i + places_named media ms i)
    ∙ sym (sum_by-cons (λ (n : Machine). places_listed n.snapshots) m ms)

-- ---- machines

pub record IsNamedSnapshot (images : ListedImages) (s : NamedSnapshot) : Type 0 where
  pub name : IsTrue (is_short_name s.name)
  pub slots : AreNamedSlots images true s.slots

-- the rules of a machine but for what stands on what
pub record IsNamedMachine (images : ListedImages) (m : NamedMachine) : Type 0 where
  pub name : IsTrue (is_short_name m.name)
  pub tree : IsTree (map named_branch m.snapshots) m.current
  pub slots : AreNamedSlots images false m.slots
  pub snapshots : AllByRecursion (IsNamedSnapshot images) m.snapshots

module _ (media : List Medium) (rises : Rises medium_entry_name media) (full : AllByRecursion (λ (m : Medium). NotEmpty m.name) media)
    (inners : List Inner) (merging : List NamedMerging) where
  abbrev names : List Name
  names = medium_names media

  abbrev images : ListedImages
  images = record { media = media; inners = map (inner_named names) inners; merging = merging }

  module _ (m : Machine) where
    abbrev in_machine : Snapshot → NamedSnapshot
    in_machine = snapshot_named names (snapshot_names m.snapshots)

    branches_are : (rise : Rises snapshot_entry_name m.snapshots) → map named_branch (map in_machine m.snapshots) ≡ branches m.snapshots rise
    branches_are rise = map-map named_branch in_machine m.snapshots

    pub named_machine : IsPlacedMachine media inners m → IsNamedMachine images (machine_named names m)
    named_machine is =
        let rise = is.snapshots.names in
        record {
          name = is.name;
          tree = subst (λ bs. IsTree bs (option_map (name_in (snapshot_names m.snapshots)) m.current)) (sym (branches_are rise))
              (good_tree m.snapshots rise is.snapshots.parents m.current is.current);
          slots = named_slots media rises full inners merging false m.slots is.slots;
          snapshots = All-of_map in_machine (IsNamedSnapshot images) m.snapshots
              (All-map _ _ (λ s of. record {
                name = of.name;
                slots = named_slots media rises full inners merging true s.slots of.slots;
              }) m.snapshots is.snapshots.each);
        }

    pub placed_machine : (bound : ℕ) → bound ≤ NUMBER_LIMIT → ArePlacedInners media bound (reverse inners) → m.running ≡ false
        → IsNamedMachine images (machine_named names m) → IsPlacedMachine media inners m
    placed_machine bound low are off is =
        let rise = rises_from_map in_machine snapshot_entry_name named_snapshot_name (λ s. refl) m.snapshots
        (rises_from_map named_branch named_snapshot_name branch_name (λ s. refl) (map in_machine m.snapshots) is.tree.names) in
        let tree = subst (λ bs. IsTree bs (option_map (name_in (snapshot_names m.snapshots)) m.current)) (branches_are rise) is.tree in
        let each = All-from_map in_machine (IsNamedSnapshot images) m.snapshots is.snapshots in
        let filled = All-map _ (λ (s : Snapshot). NotEmpty s.name) (λ s of. (short_name_fits s.name of.name).0) m.snapshots each in
        record {
          off = off;
          name = is.name;
          slots = placed_slots media rises full inners merging bound low are false m.slots is.slots;
          snapshots = record {
            names = rise;
            parents = tree_good m.snapshots rise filled m.current tree;
            each = All-map _ _ (λ s of. record {
              name = of.name;
              slots = placed_slots media rises full inners merging bound low are true s.slots of.slots;
            }) m.snapshots each;
          };
          current = tree_current m.snapshots rise filled m.current tree;
        }
