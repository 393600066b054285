-- The parts of opening a store.
use Rattle.std.specs.Prelude.{◌≡◌, ℕ, List, [], map, Option, Result, Ok, Err}
use Rattle.vbm_ports.specs.Files.{Files}
use Rattle.vbm_image.specs.declared.image.Image.{Image}
use Rattle.vbm_registry.specs.declared.fault.BadStore.{BadStore}
use Rattle.vbm_registry.specs.declared.library.Library.{Library}
use Rattle.vbm_registry.specs.declared.media.Medium.{Medium}
use Rattle.vbm_registry.specs.Grammar.{library_off}
use Rattle.vbm_registry.specs.Named.{named}
use Rattle.vbm_standing.specs.Faults.{first_fault, medium_fault, same_id_fault, id_in}
use Rattle.vbm_standing.specs.Stands.{held_by}
use Rattle.vbm_store.specs.declared.store.Store.{Store}
use Rattle.vbm_engine.specs.declared.engine.Opened.{Opened}
use Rattle.vbm_engine.specs.declared.engine.Opened.TheVariants as opened
use Rattle.vbm_store.specs.declared.undone.Undone.{Undone}
use Rattle.vbm_store.specs.declared.undone.Undone.TheVariants.{Refused, Failed, NoMemory}
use Rattle.vbm_store.specs.Serves.{Holds}

abbrev pub OnBad : (BadStore → Type 0) → Undone BadStore → Type 0
OnBad Q (Refused bad) = Q bad
OnBad Q Failed = Unit {0}
OnBad Q NoMemory = Unit {0}

-- what is found has P, and a fault has Q
abbrev pub Finds : {X : Type 0} → (X → Type 0) → (BadStore → Type 0) → Result X (Undone BadStore) → Type 0
Finds P Q (Ok x) = P x
Finds P Q (Err undone) = OnBad Q undone

-- the identifiers of images
abbrev pub ids_of : List Image → List (List ℕ)
ids_of images = map (λ (image : Image). image.header.id) images

-- the fault of a medium behind earlier ones with these identifiers
abbrev pub fault_behind : Library → Files → List (List ℕ) → Medium → Option BadStore
fault_behind l files earlier m = first_fault (medium_fault (named l) files m) (same_id_fault earlier m.name (id_in files m))

-- a store as it is opened: no machine runs, and no medium has changed since a start
pub record IsRested (e : Store) : Type 0 where
  pub changed : e.changed ≡ []
  pub stopped : library_off e.library ≡ e.library

-- the engine holds the files, or they hold a fault
abbrev pub OpensOf : Files → Opened → Type 0
OpensOf files (opened.Open e) = Holds e.store.library e.store.images files × IsRested e.store
OpensOf files (opened.Refused bad) = held_by files ≡ Err bad
OpensOf files opened.Fault = Unit {0}
OpensOf files opened.NoMemory = Unit {0}
