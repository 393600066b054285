-- What the files of a store of media, machines, chains and snapshots stand for: a world, or the first reason why they stand for none.
use Rattle.std.specs.Prelude.{◌≡◌, ℕ, List, Option, Some, None, Result, Ok, Err}
use Rattle.vbm_ports.specs.Files.{Files}
use Rattle.vbm_intent.specs.Log.{Redo, IsBadLog}
use Rattle.vbm_world.specs.World.{World}
use Rattle.vbm_registry.specs.declared.library.Library.{Library}
use Rattle.vbm_registry.specs.declared.fault.BadStore.{BadStore}
use Rattle.vbm_registry.specs.declared.fault.BadStore.TheVariants.{NoLibrary, BadLog, BadLibrary}
use Rattle.vbm_registry.specs.Library.{library_name}
use Rattle.vbm_registry.specs.declared.features.TheConstants.{BUILT}
use Rattle.vbm_registry.specs.Grammar.{library_in}
use Rattle.vbm_registry.specs.PlaceRules.{keeps_places}
use Rattle.vbm_registry.specs.Named.{named}
use Rattle.vbm_standing.specs.Meaning.{none_changed, none_runs, world_with}
use Rattle.vbm_standing.specs.Faults.{store_fault}

abbrev pub read_library : Result Library ℕ → Result Library BadStore
read_library (Ok l) = Ok l
read_library (Err offset) = Err (BadLibrary offset)

abbrev pub library_file : Option (List ℕ) → Result Library BadStore
library_file None = Err NoLibrary
library_file (Some bytes) = read_library (library_in BUILT keeps_places bytes)

-- the library of files
abbrev pub library_of : Files → Result Library BadStore
library_of files = library_file (files library_name)

abbrev pub unless_fault : Option BadStore → World → Result World BadStore
unless_fault None w = Ok w
unless_fault (Some bad) w = Err bad

-- what stands is off: no machine runs, and no medium has changed since a start
abbrev pub store_of : Files → Result Library BadStore → Result World BadStore
store_of files (Err bad) = Err bad
store_of files (Ok l) = unless_fault (store_fault (named l) files) (world_with none_changed none_runs l files)

-- what files whose log is shut hold, or their first fault
abbrev pub held_by : Files → Result World BadStore
held_by files = store_of files (library_of files)

-- The files of a store stand for what they hold after redo.
pub data Stands (files : Files) (held : Result World BadStore) : Type 0 where
  redone : (result : Files) → Redo files result → held_by result ≡ held → Stands files held
  bad_log : IsBadLog files → held ≡ Err BadLog → Stands files held
