-- What a part of a library's file may have where it is in use, and where it is not.
use Rattle.std.specs.Prelude.{◌≡◌, ℕ, Bool, true, if◌then◌else◌, List, [], None, IsTrue, IsFalse}
use Rattle.std.specs.List.{AllByRecursion}
use Rattle.vbm_modes.specs.declared.Mode.{Mode}
use Rattle.vbm_modes.specs.declared.Mode.TheVariants.{Normal, Immutable, Writethrough, MultiAttach, Readonly}
use Rattle.vbm_machines.specs.declared.Machine.{Machine}
use Rattle.vbm_registry.specs.declared.media.Medium.{Medium}
use Rattle.vbm_registry.specs.declared.library.Library.{Library}
use Rattle.vbm_registry.specs.declared.features.Features.{Features}

-- a limit, and 0 where the part is not in use
abbrev pub limit_if : Bool → ℕ → ℕ
limit_if built limit = if built then limit else 0

abbrev pub is_built_mode : Features → Mode → Bool
is_built_mode built Normal = true
is_built_mode built Immutable = built.layered_modes
is_built_mode built Writethrough = built.shared_modes
is_built_mode built MultiAttach = built.layered_modes
is_built_mode built Readonly = built.shared_modes

-- a list that is empty where its part is not in use
abbrev pub EmptyUnless : {X : Type 0} → Bool → List X → Type 0
EmptyUnless built xs = IsFalse built → xs ≡ []

pub record IsMachineBuilt (built : Features) (m : Machine) : Type 0 where
  pub slots : EmptyUnless built.slots m.slots
  pub snapshots : EmptyUnless built.snapshots m.snapshots

-- a library that has no part that is not in use
pub record IsBuilt (built : Features) (l : Library) : Type 0 where
  pub modes : AllByRecursion (λ (m : Medium). IsTrue (is_built_mode built m.mode)) l.media
  pub inners : EmptyUnless built.inner_images l.inners
  pub machines : EmptyUnless built.machines l.machines
  pub each : AllByRecursion (IsMachineBuilt built) l.machines
  pub making : IsFalse built.makings → l.making ≡ None
  pub merging : EmptyUnless built.mergings l.merging
