-- The machine locks what the library does: slots, modes and marks by names, in the world that a store serves.
use Rattle.std.proofs.Common.{◌≡◌, Bool, ◌&&◌, ◌||◌, List, [], ◌∷◌, map, Option, Some, None, is_none, refl, ap, ◌∙◌}
use Rattle.std.specs.List.{AllByRecursion, list_any}
use Rattle.std.specs.Option.{option_map}
use Rattle.std.specs.Str.{bytes_eq}
use Rattle.std.proofs.Math.Bool.{and_comm}
use Rattle.vbm_ports.specs.Files.{Files}
use Rattle.vbm_modes.specs.declared.Mode.{Mode}
use Rattle.vbm_modes.specs.Modes.{is_locking}
use Rattle.vbm_machines.specs.declared.Held.{Held}
use Rattle.vbm_machines.specs.declared.Held.TheVariants.{Direct, Own, Base}
use Rattle.vbm_machines.specs.declared.Machine.{Machine}
use Rattle.vbm_named.specs.Names.{Name, find_by, Rises}
use Rattle.vbm_named.proofs.Lists.{All-map, any_map, each_found}
use Rattle.vbm_world.specs.declared.world.WorldMachine.{WorldMachine}
use Rattle.vbm_world.specs.World.{World, is_direct, is_direct_of, is_of_mode, is_slot_of}
use Rattle.vbm_world.specs.Machines.{is_locked, is_locked_by as is_locked_by_world}
use Rattle.vbm_registry.specs.declared.media.Medium.{Medium}
use Rattle.vbm_registry.specs.Grammar.{machine_entry_name}
use Rattle.vbm_registry.specs.Library.{medium_entry_name}
use Rattle.vbm_registry.specs.Named.{NamedSlot, NamedLibrary, medium_names, machine_named, named}
use Rattle.vbm_registry.specs.Rules.{has_mode, is_medium_of, is_held_directly, has_directly}
use Rattle.vbm_registry.proofs.NamedPlaces.{any_same}
use Rattle.vbm_standing.specs.Meaning.{own_by, slot_in, machine_in, medium_in, world_of}
use Rattle.vbm_standing.proofs.WorldParts.{slot-plain, medium_of-world}
use Rattle.vbm_store.specs.declared.store.Store.{Store}
use Rattle.vbm_store.specs.Serves.{serves, changed_of, running_of}
use Rattle.vbm_slots.specs.Running.{slots_of, is_locked_by, is_locked_in}
use Rattle.vbm_slots.proofs.Marks.{mark_of, seen}

any_alike : {X : Type 0} (p q : X → Bool) (xs : List X) → AllByRecursion (λ x. p x ≡ q x) xs → list_any p xs ≡ list_any q xs
any_alike p q [] same = refl
any_alike p q (x ∷ xs) same = λ i. same.0 i || any_alike p q xs same.1 i

of_mode : (changed : Name → Bool) (l : NamedLibrary) (files : Files) (test : Mode → Bool) (o : Option Medium)
    → is_of_mode test (option_map (medium_in changed l files) o) ≡ has_mode test o
unfolding medium_in
of_mode changed l files test None = refl
of_mode changed l files test (Some m) = refl

module _ (e : Store) (files : Files) (plain : (named e.library).merging ≡ []) where
  abbrev l : NamedLibrary
  l = named e.library

  abbrev w : World
  w = serves e files

  held_direct : (medium : Name) (h : Held) → is_none (own_by l files medium h) ≡ is_held_directly h
  held_direct medium Direct = refl
  held_direct medium (Own n) = refl
  held_direct medium Base = refl

  direct_same : (s : NamedSlot) → is_direct (slot_in l files s) ≡ is_held_directly s.held
  direct_same s = ap is_direct (slot-plain l files plain s) ∙ held_direct s.medium s.held

  -- a slot's medium has its mode
  pub mode_same : (test : Mode → Bool) (s : NamedSlot) → is_slot_of test w (slot_in l files s) ≡ is_medium_of test l.media s.medium
  mode_same test s =
      ap (is_of_mode test) (medium_of-world (changed_of e) (running_of e) l files s.medium)
      ∙ of_mode (changed_of e) l files test (find_by medium_entry_name s.medium l.media)

  -- slots that share a medium's disk
  pub shares_same : (name : Name) (slots : List NamedSlot) → list_any (is_direct_of name) (map (slot_in l files) slots) ≡ list_any (has_directly name) slots
  shares_same name slots = any_same (slot_in l files) (is_direct_of name) (has_directly name) (λ s.
      ap (λ b. b && bytes_eq s.medium name) (direct_same s) ∙ and_comm (is_held_directly s.held) (bytes_eq s.medium name)) slots

  slot_locked : (slots : List NamedSlot) (s : NamedSlot)
      → is_locked_by_world w (map (slot_in l files) slots) (slot_in l files s) ≡ is_locked_by l.media slots s
  slot_locked slots s = λ i. direct_same s i && mode_same is_locking s i && shares_same s.medium slots i

  slots_locked : (slots others : List NamedSlot)
      → list_any (is_locked_by_world w (map (slot_in l files) others)) (map (slot_in l files) slots) ≡ list_any (is_locked_by l.media others) slots
  slots_locked slots others =
      any_same (slot_in l files) (is_locked_by_world w (map (slot_in l files) others)) (is_locked_by l.media others) (slot_locked others) slots

  pub locked_same : Rises machine_entry_name e.library.machines → (m : Machine) → is_locked w (seen e files m) ≡ is_locked_in e.library m
  unfolding world_of
  locked_same rises m =
      let locks = λ (other : WorldMachine). other.running && list_any (is_locked_by_world w other.slots) (seen e files m).slots in
      any_map (machine_in (running_of e) l files) locks l.machines
      ∙ any_map (machine_named (medium_names e.library.media)) (λ n. locks (machine_in (running_of e) l files n)) e.library.machines
      ∙ any_alike _ _ e.library.machines (All-map _ _ (λ other found i.
      mark_of other.name e.library.machines other rises found i && slots_locked (slots_of e.library m) (slots_of e.library other) i)
      e.library.machines (each_found machine_entry_name e.library.machines rises))
