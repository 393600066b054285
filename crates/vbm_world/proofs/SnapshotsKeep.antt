-- Commands that restore snapshots lead from a sound world to a sound one.
use Rattle.std.proofs.Common.{◌≡◌, true, false, List, [], ◌∷◌, map, Option, Some, None, refl, sym, ap, ◌∙◌, arith, is_some, ◌==◌, length}
use Rattle.std.proofs.lemmas.Bool.{ne_eqb}
use Rattle.std.specs.Option.{option_and_then}
use Rattle.vbm_world.specs.declared.command.Refusal.TheVariants.{NoSuchMachine, NoSuchSnapshot, Running}
use Rattle.vbm_world.specs.declared.world.WorldMedium.{WorldMedium}
use Rattle.vbm_world.specs.declared.world.WorldSnapshot.{WorldSnapshot}
use Rattle.vbm_world.specs.declared.world.WorldMachine.{WorldMachine}
use Rattle.vbm_named.specs.Names.{Name, find_by}
use Rattle.vbm_world.specs.World.{World, machine_name, snapshot_name}
use Rattle.vbm_world.specs.Places.{machine_of, snapshot_of, slots_of, slots_named}
use Rattle.vbm_world.specs.Snapshots.{restored, restored_to, restore_checks, restore_snapshot, restore_current}
use Rattle.vbm_world.specs.declared.command.Answer.TheVariants.{Done}
use Rattle.vbm_world.specs.Outcomes.{unless_refused}
use Rattle.vbm_world.specs.Slots.{drawn_for}
use Rattle.vbm_world.specs.Tree.{branch_of, branch_name, Has, IsTree}
use Rattle.vbm_world.specs.Sound.{AreSoundSlots, IsSoundMachine, IsSound}
use Rattle.vbm_named.proofs.Lists.{same_name, has_found, has_map, All-find, find_named}
use Rattle.vbm_world.proofs.Keeping.{LeadsToSound, unless, found}
use Rattle.vbm_world.proofs.TakenSlots.{inherits_self, own_of_current, slots_of_snapshot}
use Rattle.vbm_world.proofs.Changing.{changed_sound}

-- a machine with the slots of a snapshot, which is current
abbrev turned : WorldMachine → WorldSnapshot → WorldMachine
turned m s = record m { slots = s.slots; current = Some s.name }

module _ (media : List WorldMedium) (m : WorldMachine) (s : WorldSnapshot) (is : snapshot_of m s.name ≡ Some s) (sound : IsSoundMachine media m) where
  slots_are : slots_named (Some s.name) m.snapshots ≡ s.slots
  slots_are = ap slots_of is

  there : Has (map branch_of m.snapshots) s.name
  there = has_map branch_of snapshot_name branch_name (λ x. refl) s.name m.snapshots ∙ has_found snapshot_name s.name m.snapshots ∙ ap is_some is

  -- where there is a snapshot, one is current before and after
  turned_tree : IsTree (map branch_of m.snapshots) (Some s.name)
  turned_tree = record {
    names = sound.tree.names;
    parents = sound.tree.parents;
    depth = sound.tree.depth;
    below = sound.tree.below;
    root = sound.tree.root;
    there = there;
    none = some_there m.snapshots is;
  }
    where
      some_there : (l : List WorldSnapshot) → find_by snapshot_name s.name l ≡ Some s → false ≡ (length (map branch_of l) == 0)
      some_there [] e = absurd cc
      some_there (x ∷ l) e = sym (ne_eqb (length (map branch_of (x ∷ l))) 0 (λ zero. omega (arith, zero)))

  turned_sound : IsSoundMachine media (turned m s)
  turned_sound =
      let places = All-find snapshot_name (λ (x : WorldSnapshot). AreSoundSlots media true x.slots) s.name s m.snapshots sound.places is in
      record {
        tree = turned_tree;
        slots = slots_of_snapshot media s.slots places;
        places = sound.places;
        children = sound.children;
        current = rw slots_are (inherits_self media s.slots);
        own = rw slots_are (own_of_current media s.slots places);
      }

restored_keeps : (w : World) → IsSound w → (vm name : Name) (m : WorldMachine) → machine_of w vm ≡ Some m → (s : WorldSnapshot)
    → snapshot_of m name ≡ Some s → LeadsToSound (unless_refused w (restore_checks w m s) (Done, restored w m s))
restored_keeps w ok vm name m is s at = unless LeadsToSound w (restore_checks w m s) _ (λ refusal. ok) (λ pass.
    let vm_is : m.name ≡ vm = same_name m.name vm (find_named machine_name vm m w.machines is) in
    let name_is : s.name ≡ name = same_name s.name name (find_named snapshot_name name s m.snapshots at) in
    let sound = All-find machine_name (IsSoundMachine w.media) vm m w.machines ok.machines is in
    changed_sound w ok m (turned m s) (ap (machine_of w) vm_is ∙ is) refl refl
    (turned_sound w.media m s (ap (snapshot_of m) name_is ∙ at) sound) (drawn_for s.slots) pass.1.0)

pub restore_keeps : (w : World) → IsSound w → (vm name : Name) → IsSound (restore_snapshot w vm name).1
restore_keeps w ok vm name = found LeadsToSound w NoSuchMachine (machine_of w vm) _ ok (λ m is.
    found LeadsToSound w NoSuchSnapshot (snapshot_of m name) _ ok (λ s at. restored_keeps w ok vm name m is s at))

pub restore_current_keeps : (w : World) → IsSound w → (vm : Name) → IsSound (restore_current w vm).1
restore_current_keeps w ok vm = found LeadsToSound w NoSuchMachine (machine_of w vm) _ ok (λ m is.
    by_current m is m.current)
  where
    by_found : (m : WorldMachine) → machine_of w vm ≡ Some m → (name : Name) (o : Option WorldSnapshot) → snapshot_of m name ≡ o
        → LeadsToSound (restored_to w m o)
    by_found m is name None at = unless LeadsToSound w ((m.running, Running) ∷ []) _ (λ refusal. ok) (λ pass. ok)
    by_found m is name (Some s) at = restored_keeps w ok vm name m is s at

    by_current : (m : WorldMachine) → machine_of w vm ≡ Some m → (o : Option Name)
        → LeadsToSound (restored_to w m (option_and_then (snapshot_of m) o))
    by_current m is None = unless LeadsToSound w ((m.running, Running) ∷ []) _ (λ refusal. ok) (λ pass. ok)
    by_current m is (Some name) = by_found m is name (snapshot_of m name) refl
