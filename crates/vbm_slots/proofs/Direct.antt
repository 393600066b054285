-- In a sound store each slot of a machine shares its medium's disk: no part with images besides the media's own is in use.
use Rattle.std.proofs.Common.{◌≡◌, ℕ, false, List, [], map, Some, refl, ap, subst, IsTrue}
use Rattle.std.specs.List.{AllByRecursion}
use Rattle.vbm_modes.specs.declared.Mode.{Mode}
use Rattle.vbm_modes.specs.declared.Mode.TheVariants.{Normal, Immutable, Writethrough, MultiAttach, Readonly}
use Rattle.vbm_modes.specs.Modes.{is_own}
use Rattle.vbm_machines.specs.declared.Held.{Held}
use Rattle.vbm_machines.specs.declared.Held.TheVariants.{Direct, Own, Base}
use Rattle.vbm_machines.specs.declared.Machine.{Machine}
use Rattle.vbm_machines.specs.declared.Slot.{Slot}
use Rattle.vbm_named.specs.Names.{Name}
use Rattle.vbm_named.proofs.Lists.{All-map}
use Rattle.vbm_registry.specs.declared.features.TheConstants.{BUILT}
use Rattle.vbm_registry.specs.declared.library.Library.{Library}
use Rattle.vbm_registry.specs.declared.media.Medium.{Medium}
use Rattle.vbm_registry.specs.Built.{is_built_mode}
use Rattle.vbm_registry.specs.Chains.{chain_of, inner_down, medium_below}
use Rattle.vbm_registry.specs.Held.{may_hold}
use Rattle.vbm_registry.specs.Named.{NamedInner, OfInner, images_of, inner_named, machine_named, medium_names, merging_named, named, slot_named}
use Rattle.vbm_registry.specs.Rules.{IsMachine, IsNamedSlot, IsOwnOf}
use Rattle.vbm_registry.proofs.ListLaws.{All-from_map}
use Rattle.vbm_store.specs.Serves.{IsWritable}

shared_mode : (mode : Mode) → IsTrue (is_built_mode BUILT mode) → is_own mode ≡ false
shared_mode Normal built = refl
shared_mode Immutable built = absurd cc
shared_mode Writethrough built = refl
shared_mode MultiAttach built = absurd cc
shared_mode Readonly built = refl

-- no image is below one that is not listed
none_below : (n : ℕ) (name : Name) → medium_below (chain_of [] (OfInner n)) ≡ Some name → ⊥
unfolding inner_down
none_below n name e = absurd cc

module _ (l : Library) (is : IsWritable l) where
  pub no_inners : (named l).inners ≡ []
  no_inners = ap (map (inner_named (medium_names l.media))) (is.built.inners refl)

  pub no_mergings : (named l).merging ≡ []
  no_mergings = ap (map (merging_named (medium_names l.media))) (is.built.merging refl)

  -- slots share the disks of media of all modes in use
  pub modes_shared : AllByRecursion (λ (m : Medium). is_own m.mode ≡ false) l.media
  modes_shared = All-map _ _ (λ m built. shared_mode m.mode built) l.media is.built.modes

  pub no_snapshots : AllByRecursion (λ (m : Machine). m.snapshots ≡ []) l.machines
  no_snapshots = All-map _ _ (λ m of. of.snapshots refl) l.machines is.built.each

  held_direct : (h : Held) (mode : Mode) (name : Name) → IsTrue (may_hold false mode h) → IsOwnOf (named l).inners name h → h ≡ Direct
  held_direct Direct mode name may own = refl
  held_direct (Own n) mode name may own =
      absurd (none_below n name (subst (λ (xs : List NamedInner). medium_below (chain_of xs (OfInner n)) ≡ Some name) no_inners own))
  held_direct Base mode name may own = absurd cc

  slot_direct : (s : Slot) → IsNamedSlot (images_of (named l)) false (slot_named (medium_names l.media) s) → s.held ≡ Direct
  slot_direct s of = held_direct s.held of.medium.mode (slot_named (medium_names l.media) s).medium of.held of.own

  machine_direct : (m : Machine) → IsMachine (images_of (named l)) (machine_named (medium_names l.media) m)
      → AllByRecursion (λ (s : Slot). s.held ≡ Direct) m.slots
  machine_direct m of = All-map _ _ slot_direct m.slots
      (All-from_map (slot_named (medium_names l.media)) (IsNamedSlot (images_of (named l)) false) m.slots of.slots.valid.each)

  -- each slot shares its medium's disk
  pub slots_direct : AllByRecursion (λ (m : Machine). AllByRecursion (λ (s : Slot). s.held ≡ Direct) m.slots) l.machines
  slots_direct = All-map _ _ machine_direct l.machines
      (All-from_map (machine_named (medium_names l.media)) (IsMachine (images_of (named l))) l.machines is.rules.machines)
