-- One line of a run over an open store.
use Rattle.std.specs.Prelude.{◌≡◌, ◌⊎◌, ℕ, List, [], ◌∷◌, ◌++◌, Bool, true, false, Option, Some, None, IsTrue}
use Rattle.vbm_ports.specs.Files.{Files}
use Rattle.vbm_ports.specs.Disk.{DiskState}
use Rattle.vbm_world.specs.declared.command.Command.{Command}
use Rattle.vbm_world.specs.declared.command.Answer.{Answer}
use Rattle.vbm_world.specs.World.{World, off}
use Rattle.vbm_world.specs.Texts.{line_of}
use Rattle.vbm_lines.specs.Lines.{Line, is_skipped}
use Rattle.vbm_world.specs.Loose.{Unsettled}
use Rattle.vbm_served.specs.Served.{IsServed}
use Rattle.vbm_served.specs.Runs.{IsCommandLine, IsBadLine, Untied, Does}
use Rattle.vbm_lines.specs.Inputs.{AreRead, IsAllRead, IsCutOff, IsTooLong}
use Rattle.vbm_lines.specs.Reader.{Reader, IsAt}
use Rattle.vbm_engine.specs.declared.engine.Engine.{Engine}
use Rattle.vbm_engine.specs.Serves.{serves, IsSoundEngine, IsReady}
use Rattle.vbm_store.specs.Serves.{StandsLoosely}
use Rattle.vbm_engine.specs.Steps.{Advances, Stays, IsInCommand}
use Rattle.vbm_top.specs.declared.scripting.Asked.{Asked}
use Rattle.vbm_top.specs.declared.scripting.Asked.TheVariants as asked
use Rattle.vbm_top.specs.declared.serving.Request.{Request}
use Rattle.vbm_top.specs.declared.serving.Request.TheVariants.{Skip, Bad, Do}
use Rattle.vbm_top.specs.declared.serving.Turned.{Turned}
use Rattle.vbm_top.specs.declared.serving.Turned.TheVariants.{Open, Broken}
use Rattle.vbm_top.specs.declared.status.Status.{Status}
use Rattle.vbm_top.specs.declared.status.Status.TheVariants.{Done, NoMemory}
use Rattle.vbm_top.specs.Streams.{Stream}
use Rattle.vbm_top.specs.Run.{status_of, IsSilent, Says}

-- what a line asks for
abbrev pub IsRequest : Line → Request → Type 0
IsRequest line Skip = IsTrue (is_skipped line)
IsRequest line Bad = IsBadLine line
IsRequest line (Do command) = IsCommandLine line command

-- what holds of a request by itself
abbrev pub IsServedRequest : Request → Type 0
IsServedRequest Skip = Unit {0}
IsServedRequest Bad = Unit {0}
IsServedRequest (Do command) = IsServed command

-- the engine that goes on is sound
abbrev pub IsSoundTurn : Turned → Type 0
IsSoundTurn (Open next status) = IsSoundEngine next
IsSoundTurn Broken = Unit {0}

-- the disk failed
abbrev pub has_broken : Turned → Bool
has_broken (Open next status) = false
has_broken Broken = true

-- ---- the lines that are read

abbrev pub OnRequest : (Request → Type 0) → Asked → Type 0
OnRequest P (asked.Line request) = P request
OnRequest P asked.End = Unit {0}
OnRequest P asked.Fault = Unit {0}
OnRequest P asked.TooLong = Unit {0}
OnRequest P asked.NoMemory = Unit {0}

-- What comes behind lines of an input that were read: the next line, or why there is none.
abbrev pub Asks : Reader → List ℕ → List ℕ → List Line → Line → Asked → Type 0
Asks new input rest lines line (asked.Line request) = IsAt new input rest (lines ++ line ∷ [])
Asks new input rest lines line asked.End = IsAllRead new.most input rest lines
Asks new input rest lines line asked.Fault = IsCutOff new.most input rest lines
Asks new input rest lines line asked.TooLong = IsTooLong new.most input rest lines
Asks new input rest lines line asked.NoMemory = AreRead new.most input rest lines

-- the source failed
abbrev pub asking_failed : Asked → Bool
asking_failed (asked.Line request) = false
asking_failed asked.End = false
asking_failed asked.Fault = true
asking_failed asked.TooLong = false
asking_failed asked.NoMemory = false

-- ---- a command

-- The command was done and its line written with its status, unless the sink failed or there was no memory; or nothing was done
-- for want of memory; or the disk failed.
abbrev pub TurnsCommand : Type 0 → DiskState → DiskState → Engine → Command → Turned → Stream → Type 0
TurnsCommand tells old new e c (Open next status) sink =
    ((answer : Answer) × Says sink (line_of answer) (status_of answer) status × (tells → Advances old new e next c answer))
    ⊎ ((status ≡ NoMemory) × IsSilent sink × (tells → Stays old new e next))
TurnsCommand tells old new e c Broken sink = IsSilent sink

-- ---- a line

-- the line of an answer was written with its status; a skipped line has none
abbrev pub SaysAnswer : Stream → Option Answer → Status → Type 0
SaysAnswer sink None status = (status ≡ Done) × IsSilent sink
SaysAnswer sink (Some answer) status = Says sink (line_of answer) (status_of answer) status

-- The engine `next` serves the world after the line, which has this answer.
pub record IsPast (old new : DiskState) (e next : Engine) (line : Line) (answer : Option Answer) : Type 0 where
  pub does : (u : Unsettled) → IsReady e old u
      → (left : Unsettled) × Does Untied (serves e old.files) u line answer (serves next new.files) left × IsReady next new left

abbrev pub TurnsLine : Type 0 → DiskState → DiskState → Engine → Line → Turned → Stream → Type 0
TurnsLine tells old new e line (Open next status) sink =
    ((answer : Option Answer) × SaysAnswer sink answer status × (tells → IsPast old new e next line answer))
    ⊎ ((status ≡ NoMemory) × IsSilent sink × (tells → Stays old new e next))
TurnsLine tells old new e line Broken sink = (command : Command) × IsCommandLine line command × IsSilent sink

-- an image at some moment of a line: of the world before it, or of its command's step
abbrev pub IsAtLine : World → Line → Unsettled → Files → Type 0
IsAtLine w line u image =
    StandsLoosely (off w) u image ⊎ ((command : Command) × IsCommandLine line command × IsInCommand w command u image)
