-- A run of the program: one command in words.
use Rattle.std.specs.Prelude.{◌≡◌, ℕ, ◌<◌, ◌≤◌, ◌^◌, ◌⊎◌, true, false, List, [], ◌∷◌, ◌++◌, length, map, Ok, Err, All, IsTrue, if◌then◌else◌, codes, decimal}
use Rattle.vbm_ports.specs.Names.{is_medium_name}
use Rattle.vbm_ports.specs.Files.{Files}
use Rattle.vbm_ports.specs.Disk.{DiskState, Passes, OnlyReads}
use Rattle.vbm_ports.specs.Counts.{IsCounted}
use Rattle.vbm_ports.specs.Crash.{Only}
use Rattle.vbm_ports.specs.Stream.{IsProperPrefix}
use Rattle.vbm_intent.specs.Log.{IsBadLog}
use Rattle.vbm_ids.specs.Identifier.{IsSeed}
use Rattle.vbm_world.specs.declared.command.Command.{Command}
use Rattle.vbm_world.specs.declared.command.Answer.{Answer}
use Rattle.vbm_world.specs.declared.command.Answer.TheVariants.{Id}
use Rattle.vbm_world.specs.World.{World, off}
use Rattle.vbm_world.specs.Step.{step_of}
use Rattle.vbm_lines.specs.Lines.{Words}
use Rattle.vbm_served.specs.Served.{IsNoCommand}
use Rattle.vbm_world.specs.Texts.{id_text, line_of}
use Rattle.vbm_world.specs.Loose.{Unsettled, all_settled, is_refused}
use Rattle.vbm_registry.specs.declared.fault.BadStore.{BadStore}
use Rattle.vbm_registry.specs.declared.fault.BadStore.TheVariants.{NoLibrary, BadLog, BadLibrary, MissingFile, BadImage, WrongType, WrongId, BrokenLink, SameId}
use Rattle.vbm_standing.specs.Stands.{Stands}
use Rattle.vbm_engine.specs.declared.engine.Engine.{Engine}
use Rattle.vbm_engine.specs.Serves.{serves, IsReady}
use Rattle.vbm_store.specs.Serves.{StandsLoosely}
use Rattle.vbm_engine.specs.Steps.{IsInCommand}
use Rattle.vbm_engine.specs.Opens.{AreRedone, StandsAlike, SyncsFirst, IsMade, IsThere, IsMaking}
use Rattle.vbm_top.specs.declared.status.Status.{Status}
use Rattle.vbm_top.specs.declared.status.Status.TheVariants.{Done, Refused, DiskFault, OutputFault, NoMemory, StoreRefused}
use Rattle.vbm_top.specs.Streams.{Stream, Works, Fails}
use Rattle.vbm_peek.specs.Peek.{Peeked, peeked, answer_of}

-- ---- words

-- The words `peek FILE [FILE ...] LBA`: 1 to 32 names of media, and a number below 2^64 in decimal, without leading zeros.
pub record IsPeek (words : Words) (names : List (List ℕ)) (lba : ℕ) : Type 0 where
  pub spelled : words ≡ codes "peek" ∷ (names ++ decimal lba ∷ [])
  pub some : 1 ≤ length names
  pub few : length names ≤ 32
  pub media : All (λ name. IsTrue (is_medium_name name)) names
  pub fits : lba < 2 ^ 64

-- The words `init`, which take the fresh seed, or `init SEED` with an identifier in the hyphenated lower-case form.
pub data IsInit (words : Words) (fresh seed : List ℕ) : Type 0 where
  drawn : words ≡ codes "init" ∷ [] → seed ≡ fresh → IsInit words fresh seed
  given : words ≡ codes "init" ∷ id_text seed ∷ [] → IsSeed seed → IsInit words fresh seed

-- the word `script`
abbrev pub IsScript : Words → Type 0
IsScript words = words ≡ codes "script" ∷ []

-- the words are no command of the program
pub record IsNoForm (words : Words) : Type 0 where
  pub no_peek : (names : List (List ℕ)) (lba : ℕ) → IsPeek words names lba → ⊥
  pub no_init : (fresh seed : List ℕ) → IsInit words fresh seed → ⊥
  pub no_script : IsScript words → ⊥
  pub no_command : IsNoCommand words

-- ---- lines and statuses

-- a refused store has a number, a name, and what tells more
abbrev pub store_text : BadStore → List ℕ
store_text NoLibrary = codes "store 1 NoLibrary"
store_text BadLog = codes "store 2 BadLog"
store_text (BadLibrary offset) = codes "store 3 BadLibrary " ++ decimal offset
store_text (MissingFile name) = codes "store 4 MissingFile " ++ name
store_text (BadImage name k) = codes "store 5 BadImage " ++ name ++ (codes " " ++ decimal k)
store_text (WrongType name) = codes "store 6 WrongType " ++ name
store_text (WrongId name) = codes "store 7 WrongId " ++ name
store_text (BrokenLink name) = codes "store 8 BrokenLink " ++ name
store_text (SameId name) = codes "store 9 SameId " ++ name

abbrev pub store_line : BadStore → List ℕ
store_line bad = store_text bad ++ codes "\n"

-- the line of `init` where there is a library
abbrev pub there_line : List ℕ
there_line = codes "store 0 LibraryThere\n"

-- the status of an answer
abbrev pub status_of : Answer → Status
status_of answer = if is_refused answer then Refused else Done

-- a proper prefix of the line was written
abbrev pub BreaksOff : List ℕ → List ℕ → List ℕ → Type 0
BreaksOff line was now = (front : List ℕ) × IsProperPrefix front line × (now ≡ was ++ front)

-- nothing was written
abbrev pub IsSilent : Stream → Type 0
IsSilent sink = Works sink (sink.now.bytes ≡ sink.was.bytes)

-- The line was written whole, with its status; or the sink failed, with a proper prefix of it.
abbrev pub WritesLine : Stream → List ℕ → Status → Status → Type 0
WritesLine sink line wanted status =
    ((status ≡ wanted) × Works sink (sink.now.bytes ≡ sink.was.bytes ++ line))
    ⊎ ((status ≡ OutputFault) × Fails sink (BreaksOff line sink.was.bytes sink.now.bytes))

-- The line was written with its status, unless the sink failed; or it was lost, since there was no memory.
abbrev pub Says : Stream → List ℕ → Status → Status → Type 0
Says sink line wanted status = WritesLine sink line wanted status ⊎ ((status ≡ NoMemory) × IsSilent sink)

-- ---- how a run ends. What was written is told by some sinks only, and what the files hold by some disks.

-- nothing was written, since the disk failed or there was no memory
abbrev pub SaysNothing : Stream → Status → Type 0
SaysNothing sink status = ((status ≡ DiskFault) ⊎ (status ≡ NoMemory)) × IsSilent sink

-- `peek` with this answer
abbrev pub PeekEnds : Answer → Stream → Status → Type 0
PeekEnds answer sink status = WritesLine sink (line_of answer) (status_of answer) status ⊎ SaysNothing sink status

-- `init` with this seed
pub data InitEnds (tells : Type 0) (seed : List ℕ) (old new : DiskState) (sink : Stream) (status : Status) : Type 0 where
  made : (tells → IsMade seed old.files new) → Says sink (line_of (Id seed)) Done status → InitEnds tells seed old new sink status
  there : (tells → IsThere old.files new.files) → WritesLine sink there_line StoreRefused status → InitEnds tells seed old new sink status
  refused : (tells → IsBadLog old.files × (new.files ≡ old.files)) → Says sink (store_line BadLog) StoreRefused status
      → InitEnds tells seed old new sink status
  silent : SaysNothing sink status → InitEnds tells seed old new sink status

-- The store that the files stood for took the command with this answer, and the files stand for the world after it, off and settled.
pub record IsAnswered (command : Command) (files : Files) (answer : Answer) (new : DiskState) : Type 0 where
  pub world : World
  pub stood : Stands files (Ok world)
  pub number : ℕ
  pub is_answer : answer ≡ (step_of world command number).0
  pub stands : Stands new.files (Ok (off (step_of world command number).1))
  pub settled : Only new.files new.may_leave

-- The same, but that the disk failed in the close: what a crash leaves now is of the world after the command.
pub record IsUnclosed (command : Command) (files : Files) (answer : Answer) (new : DiskState) : Type 0 where
  pub world : World
  pub stood : Stands files (Ok world)
  pub number : ℕ
  pub is_answer : answer ≡ (step_of world command number).0
  pub images : (image : Files) → new.may_leave image → StandsLoosely (off (step_of world command number).1) all_settled image

-- There was no memory for the command: the files stand for the world that they stood for, and all is settled.
pub record IsUndone (files : Files) (new : DiskState) : Type 0 where
  pub world : World
  pub stood : Stands files (Ok world)
  pub stands : Stands new.files (Ok world)
  pub settled : Only new.files new.may_leave

-- a command of the machine, over files
pub data CommandEnds (tells : Type 0) (command : Command) (files : Files) (new : DiskState) (sink : Stream) (status : Status) : Type 0 where
  -- the store is refused
  faulty : (bad : BadStore) → (tells → Stands files (Err bad) × AreRedone files new.files)
      → Says sink (store_line bad) StoreRefused status → CommandEnds tells command files new sink status
  -- the command is answered
  answered : (answer : Answer) → (tells → IsAnswered command files answer new)
      → Says sink (line_of answer) (status_of answer) status → CommandEnds tells command files new sink status
  -- the same, but that the disk failed when the store was closed
  unclosed : (answer : Answer) (wanted : Status) → (tells → IsUnclosed command files answer new)
      → Says sink (line_of answer) (status_of answer) wanted → status ≡ DiskFault → CommandEnds tells command files new sink status
  -- there was no memory for the command
  undone : (tells → IsUndone files new) → IsSilent sink → status ≡ NoMemory → CommandEnds tells command files new sink status
  -- there was no memory in the opening
  unopened : (tells → StandsAlike files new.files × AreRedone files new.files) → IsSilent sink → status ≡ NoMemory
      → CommandEnds tells command files new sink status
  -- the disk failed before an answer
  broken : IsSilent sink → status ≡ DiskFault → CommandEnds tells command files new sink status

-- the files stood for a world that has P
abbrev pub Stood : Files → (World → Type 0) → Type 0
Stood files P = (world : World) × Stands files (Ok world) × P world

-- An image of a run of a command: it stands for what the files stood for, or is of the step.
abbrev pub IsOfCommand : Command → Files → Files → Type 0
IsOfCommand command files image = StandsAlike files image ⊎ Stood files (λ world. IsInCommand world command all_settled image)

-- An image at some moment of a run of a command: until the first sync also one that a crash could have left before.
abbrev pub IsInRun : Command → DiskState → Files → Type 0
IsInRun command old image = old.may_leave image ⊎ IsOfCommand command old.files image

-- From its first sync on each image has P; or the disk failed or there was no memory before that, and the disk was only read.
abbrev pub SyncsOrFails : Type 0 → DiskState → DiskState → Status → (Files → Type 0) → Type 0
SyncsOrFails tells old new status P =
    SyncsFirst old new P ⊎ (((status ≡ DiskFault) ⊎ (status ≡ NoMemory)) × OnlyReads tells old new)

-- ---- a run

-- A run of `peek`: it reads alone, and answers what the files hold.
pub record RunsPeek (tells : Type 0) (names : List (List ℕ)) (lba : ℕ) (old new : DiskState) (sink : Stream) (status : Status) : Type 0 where
  pub found : Peeked
  pub is : tells → found ≡ peeked (map old.files names) lba
  pub ends : PeekEnds (answer_of found) sink status
  pub reads : OnlyReads tells old new

-- A run of `init`: a crash leaves the files redone or the new store, and until the first sync also what it could have left before.
pub record RunsInit (tells : Type 0) (seed : List ℕ) (old new : DiskState) (sink : Stream) (status : Status) : Type 0 where
  pub ends : InitEnds tells seed old new sink status
  pub any_moment : tells → Passes old new (λ image. old.may_leave image ⊎ IsMaking seed old.files image)
  pub synced : tells → SyncsOrFails tells old new status (IsMaking seed old.files)

-- A run of a command of the machine: a crash leaves the world before or after the command, and until the first sync also what it
-- could have left before.
pub record RunsCommand (tells : Type 0) (command : Command) (old new : DiskState) (sink : Stream) (status : Status) : Type 0 where
  pub ends : CommandEnds tells command old.files new sink status
  pub any_moment : tells → Passes old new (IsInRun command old)
  pub synced : tells → SyncsOrFails tells old new status (IsOfCommand command old.files)

-- ---- closing

-- the files stand for the world that the engine served, off, and all is settled
pub record IsClosed (e : Engine) (old new : DiskState) : Type 0 where
  pub stands : Stands new.files (Ok (off (serves e old.files)))
  pub settled : Only new.files new.may_leave

-- what a crash leaves now is of the world that the engine served, off, but for unsettled sectors
abbrev pub LeavesServed : Engine → DiskState → DiskState → Type 0
LeavesServed e old new =
    (u : Unsettled) → IsReady e old u → (image : Files) → new.may_leave image → StandsLoosely (off (serves e old.files)) u image

-- The store was closed and the wanted status stays, or the disk failed.
abbrev pub Closes : Type 0 → Engine → DiskState → DiskState → Status → Status → Type 0
Closes tells e old new wanted status =
    ((status ≡ wanted) × (tells → IsClosed e old new) × IsCounted false old.faults new.faults)
    ⊎ ((status ≡ DiskFault) × IsCounted true old.faults new.faults)
