-- What an engine serves: that of its store.
use Rattle.vbm_ports.specs.Files.{Files}
use Rattle.vbm_ports.specs.Disk.{DiskState}
use Rattle.vbm_world.specs.World.{World}
use Rattle.vbm_world.specs.Loose.{Unsettled}
use Rattle.vbm_store.specs.Serves as stores
use Rattle.vbm_engine.specs.declared.engine.Engine.{Engine}

abbrev pub serves : Engine → Files → World
serves e files = stores.serves e.store files

abbrev pub IsSoundEngine : Engine → Type 0
IsSoundEngine e = stores.IsSoundStore e.store

abbrev pub FitsDisk : Engine → DiskState → Type 0
FitsDisk e s = stores.FitsDisk e.store s

abbrev pub IsReady : Engine → DiskState → Unsettled → Type 0
IsReady e s u = stores.IsReady e.store s u
