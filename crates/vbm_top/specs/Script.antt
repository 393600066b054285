-- A run of the program over a script.
use Rattle.std.specs.Prelude.{◌≡◌, ◌⊎◌, ℕ, ◌≤◌, List, [], ◌∷◌, ◌++◌, length, Ok, Err, if◌then◌else◌}
use Rattle.std.specs.List.{list_any}
use Rattle.vbm_ports.specs.Files.{Files}
use Rattle.vbm_ports.specs.Disk.{DiskState, Passes}
use Rattle.vbm_ports.specs.Crash.{Only}
use Rattle.vbm_world.specs.declared.command.Command.{Command}
use Rattle.vbm_world.specs.declared.command.Answer.{Answer}
use Rattle.vbm_world.specs.World.{World, off}
use Rattle.vbm_world.specs.Texts.{line_of}
use Rattle.vbm_lines.specs.Lines.{Line, lines_done}
use Rattle.vbm_world.specs.Loose.{Unsettled, all_settled, is_refused}
use Rattle.vbm_served.specs.Runs.{IsCommandLine, Untied, Runs}
use Rattle.vbm_lines.specs.Inputs.{AreFirst, AreRead, IsAllRead, IsCutOff, IsTooLong}
use Rattle.vbm_registry.specs.declared.fault.BadStore.{BadStore}
use Rattle.vbm_standing.specs.Stands.{Stands}
use Rattle.vbm_store.specs.Serves.{StandsLoosely}
use Rattle.vbm_engine.specs.Steps.{IsInCommand}
use Rattle.vbm_engine.specs.Opens.{AreRedone, StandsAlike}
use Rattle.vbm_top.specs.declared.status.Status.{Status}
use Rattle.vbm_top.specs.declared.status.Status.TheVariants.{Done, Refused, DiskFault, InputFault, OutputFault, NoMemory, StoreRefused, InputTooLong}
use Rattle.vbm_top.specs.Streams.{Stream, Streams, Works, Fails}
use Rattle.vbm_top.specs.Run.{store_line, Stood, BreaksOff, IsSilent, Says, SyncsOrFails}

-- the lines of answers
abbrev pub texts_of : List Answer → List ℕ
texts_of [] = []
texts_of (answer ∷ answers) = line_of answer ++ texts_of answers

-- the status of all answers
abbrev pub status_of_all : List Answer → Status
status_of_all answers = if list_any is_refused answers then Refused else Done

-- the lines of these answers were written, each of them whole
abbrev pub AreSaid : Stream → List Answer → Type 0
AreSaid sink answers = Works sink (sink.now.bytes ≡ sink.was.bytes ++ texts_of answers)

-- ---- what was read and written, and why no more

-- Why a run came to its end, with its status: `out` are the answers whose lines were written whole. What was read is told by some
-- sources only, and what was written by some sinks.
pub data Comes (most : ℕ) (s : Streams) (lines : List Line) (answers out : List Answer) (status : Status) : Type 0 where
  -- all lines are answered
  read : Works s.source (IsAllRead most s.source.was.bytes s.source.now.bytes lines) → answers ≡ out → AreSaid s.sink out
      → status ≡ status_of_all answers → Comes most s lines answers out status
  -- the source failed
  cut_off : Fails s.source (IsCutOff most s.source.was.bytes s.source.now.bytes lines) → answers ≡ out → AreSaid s.sink out
      → status ≡ InputFault → Comes most s lines answers out status
  -- the input is too long
  too_long : Works s.source (IsTooLong most s.source.was.bytes s.source.now.bytes lines) → answers ≡ out → AreSaid s.sink out
      → status ≡ InputTooLong → Comes most s lines answers out status
  -- the sink failed in the line of the last answer
  unwritten : (last : Answer) → Works s.source (AreRead most s.source.was.bytes s.source.now.bytes lines) → answers ≡ out ++ last ∷ []
      → Fails s.sink (BreaksOff (line_of last) (s.sink.was.bytes ++ texts_of out) s.sink.now.bytes)
      → status ≡ OutputFault → Comes most s lines answers out status
  -- there was no memory, and at most the last answer was lost
  no_memory : (lost : List Answer) → length lost ≤ 1 → Works s.source (AreRead most s.source.was.bytes s.source.now.bytes lines)
      → answers ≡ out ++ lost → AreSaid s.sink out → status ≡ NoMemory → Comes most s lines answers out status

-- ---- the store of a run

-- From this world the lines have these answers; the files stand for the world that they lead to, off, and all is settled.
pub record IsRunClosed (lines : List Line) (answers : List Answer) (new : DiskState) (world : World) : Type 0 where
  pub last : World
  pub left : Unsettled
  pub runs : Runs Untied world all_settled lines answers last left
  pub stands : Stands new.files (Ok (off last))
  pub settled : Only new.files new.may_leave

-- The disk failed in the close: what a crash leaves now is of the world that the lines lead to, but for unsettled sectors.
pub record IsRunUnclosed (lines : List Line) (answers : List Answer) (new : DiskState) (world : World) : Type 0 where
  pub last : World
  pub left : Unsettled
  pub runs : Runs Untied world all_settled lines answers last left
  pub images : (image : Files) → new.may_leave image → StandsLoosely (off last) left image

-- The disk failed in the command of the line behind these: what a crash leaves now is of the world before it or after it.
pub record IsRunBroken (lines : List Line) (line : Line) (answers : List Answer) (new : DiskState) (world : World) : Type 0 where
  pub last : World
  pub left : Unsettled
  pub runs : Runs Untied world all_settled lines answers last left
  pub command : Command
  pub is : IsCommandLine line command
  pub images : (image : Files) → new.may_leave image → IsInCommand last command left image

-- How a run ends over a store that opened, where the files stood for its world.
pub data LinesEnd (tells : Type 0) (most : ℕ) (files : Files) (new : DiskState) (s : Streams) (out : List Answer) (status : Status) : Type 0 where
  -- the run came to its end, and the store is closed
  closed : (lines : List Line) (answers : List Answer) → (tells → Stood files (IsRunClosed lines answers new))
      → Comes most s lines answers out status → LinesEnd tells most files new s out status
  -- the run came to its end with the status `wanted`, and the disk failed in the close
  unclosed : (lines : List Line) (answers : List Answer) (wanted : Status) → (tells → Stood files (IsRunUnclosed lines answers new))
      → Comes most s lines answers out wanted → status ≡ DiskFault → LinesEnd tells most files new s out status
  -- the disk failed in a command: the answers before it were written
  broken : (lines : List Line) (line : Line) → (tells → Stood files (IsRunBroken lines line out new))
      → Works s.source (AreRead most s.source.was.bytes s.source.now.bytes (lines ++ line ∷ [])) → AreSaid s.sink out
      → status ≡ DiskFault → LinesEnd tells most files new s out status

-- nothing was read
abbrev pub IsUnread : Stream → Type 0
IsUnread source = Works source (source.now.bytes ≡ source.was.bytes)

-- How a run of a script ends.
pub data ScriptEnds (tells : Type 0) (most : ℕ) (old new : DiskState) (s : Streams) (out : List Answer) (status : Status) : Type 0 where
  -- the store opened
  ran : LinesEnd tells most old.files new s out status → ScriptEnds tells most old new s out status
  -- the store is refused
  faulty : (bad : BadStore) → (tells → Stands old.files (Err bad) × AreRedone old.files new.files) → IsUnread s.source → out ≡ []
      → Says s.sink (store_line bad) StoreRefused status → ScriptEnds tells most old new s out status
  -- the disk failed in the opening
  unopened : (tells → (image : Files) → new.may_leave image → old.may_leave image ⊎ StandsAlike old.files image) → IsUnread s.source → out ≡ []
      → IsSilent s.sink → status ≡ DiskFault → ScriptEnds tells most old new s out status
  -- there was no memory in the opening
  unanswered : (tells → StandsAlike old.files new.files × AreRedone old.files new.files) → IsUnread s.source → out ≡ [] → IsSilent s.sink
      → status ≡ NoMemory → ScriptEnds tells most old new s out status

-- ---- a crash in a run

-- An image of a run from a world over an input, after at most n answers: of a world to which first lines of those lead that a run
-- does, or of the step from there by the command of the next line.
pub record IsReached (given : Type 0) (most : ℕ) (world : World) (input : List ℕ) (n : ℕ) (image : Files) : Type 0 where
  pub lines : List Line
  pub answers : List Answer
  pub last : World
  pub left : Unsettled
  pub runs : Runs Untied world all_settled lines answers last left
  pub out : length answers ≤ n
  pub is : (StandsLoosely (off last) left image × (given → AreFirst (lines_done most input) lines))
      ⊎ ((line : Line) × (command : Command) × IsCommandLine line command × IsInCommand last command left image
      × (given → AreFirst (lines_done most input) (lines ++ line ∷ [])))

-- an image that stands for what the files stood for, or of the run
abbrev pub IsInScript : Type 0 → ℕ → Files → List ℕ → ℕ → Files → Type 0
IsInScript given most files input n image = StandsAlike files image ⊎ Stood files (λ world. IsReached given most world input n image)

-- A run of a script: `out` are the answers whose lines were written whole, and no image is ahead of them.
pub record RunsScript (tells : Type 0) (most : ℕ) (old new : DiskState) (s : Streams) (status : Status) : Type 0 where
  pub out : List Answer
  pub ends : ScriptEnds tells most old new s out status
  pub any_moment : tells
      → Passes old new (λ image. old.may_leave image ⊎ IsInScript s.source.tells most old.files s.source.was.bytes (length out) image)
  pub synced : tells → SyncsOrFails tells old new status (IsInScript s.source.tells most old.files s.source.was.bytes (length out))

-- the same over an open store that served this world
pub record RunsLines (tells : Type 0) (most : ℕ) (files : Files) (world : World) (old new : DiskState) (s : Streams) (status : Status) : Type 0 where
  pub out : List Answer
  pub ends : LinesEnd tells most files new s out status
  pub any_moment : tells → Passes old new (IsReached s.source.tells most world s.source.was.bytes (length out))
