-- Steps of an engine.
use Rattle.std.specs.Prelude.{Bool, true, false}
use Rattle.vbm_ports.specs.Files.{Files}
use Rattle.vbm_ports.specs.Disk.{DiskState}
use Rattle.vbm_world.specs.declared.command.Command.{Command}
use Rattle.vbm_world.specs.declared.command.Command.TheVariants.{ShowMediumInfo, ListHdds, ListVms}
use Rattle.vbm_world.specs.declared.command.Answer.{Answer}
use Rattle.vbm_world.specs.World.{World}
use Rattle.vbm_world.specs.Step.{step_of}
use Rattle.vbm_world.specs.Loose.{Unsettled, unsettled_after}
use Rattle.vbm_store.specs.Serves.{both}
use Rattle.vbm_store.specs.Turns.{IsInStep}
use Rattle.vbm_store.specs.Steps as steps
use Rattle.vbm_engine.specs.declared.engine.Engine.{Engine}
use Rattle.vbm_engine.specs.declared.engine.Stepped.{Stepped}
use Rattle.vbm_engine.specs.declared.engine.Stepped.TheVariants.{Next, NoMemory, Broken}
use Rattle.vbm_engine.specs.Serves.{IsSoundEngine}

-- a command that only asks
abbrev pub asks : Command → Bool
asks (ShowMediumInfo name) = true
asks ListHdds = true
asks ListVms = true
asks command = false

-- the engine `next`, with the answer, is a step on from e
abbrev pub Advances : DiskState → DiskState → Engine → Engine → Command → Answer → Type 0
Advances old new e next c a = steps.Advances old new e.store next.store c a

-- the engine `next` serves what e did
abbrev pub Stays : DiskState → DiskState → Engine → Engine → Type 0
Stays old new e next = steps.Stays old new e.store next.store

abbrev pub Hands : DiskState → DiskState → Engine → Command → Stepped → Type 0
Hands old new e c (Next next a) = Advances old new e next c a
Hands old new e c (NoMemory next) = Stays old new e next
Hands old new e c Broken = Unit {0}

-- an image inside a command's step is of the world before it, or of the world after it
abbrev pub IsInCommand : World → Command → Unsettled → Files → Type 0
IsInCommand w c u image = IsInStep w (both u (unsettled_after u w c)) (step_of w c 0).1 (unsettled_after u w c) image

-- the engine that is handed back is sound
abbrev pub HandsSound : Stepped → Type 0
HandsSound (Next next a) = IsSoundEngine next
HandsSound (NoMemory next) = IsSoundEngine next
HandsSound Broken = Unit {0}

-- the disk failed in the step
abbrev pub step_failed : Stepped → Bool
step_failed (Next next a) = false
step_failed (NoMemory next) = false
step_failed Broken = true
