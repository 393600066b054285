-- What a step does, a crash in it included, and what a command owes for it.
use Rattle.std.specs.Prelude.{◌≡◌, ℕ, List, map, None, Result, Ok, Err, IsTrue, IsFalse}
use Rattle.vbm_ports.specs.Files.{Files}
use Rattle.vbm_ports.specs.Disk.{DiskState}
use Rattle.vbm_ports.specs.Names.{is_inner_name}
use Rattle.vbm_image.specs.Image.{image_name}
use Rattle.vbm_intent.specs.declared.change.Change.{Change}
use Rattle.vbm_intent.specs.declared.log.Log.{Log}
use Rattle.vbm_intent.specs.Changes.{changed}
use Rattle.vbm_world.specs.declared.command.Command.{Command}
use Rattle.vbm_world.specs.declared.command.Answer.{Answer}
use Rattle.vbm_world.specs.declared.command.Answer.TheVariants as answers
use Rattle.vbm_world.specs.declared.command.Refusal.{Refusal}
use Rattle.vbm_named.specs.Names.{Name}
use Rattle.vbm_world.specs.World.{World}
use Rattle.vbm_world.specs.Step.{step_of}
use Rattle.vbm_world.specs.Loose.{Unsettled, unsettled_after}
use Rattle.vbm_registry.specs.declared.library.Library.{Library}
use Rattle.vbm_registry.specs.Named.{named}
use Rattle.vbm_store.specs.declared.store.Store.{Store}
use Rattle.vbm_store.specs.declared.decision.Turn.{Turn}
use Rattle.vbm_store.specs.declared.decision.Decision.{Decision}
use Rattle.vbm_store.specs.declared.decision.Decision.TheVariants as decisions
use Rattle.vbm_store.specs.declared.undone.Undone.{Undone}
use Rattle.vbm_store.specs.declared.undone.Undone.TheVariants as undone
use Rattle.vbm_store.specs.Listed.{is_inner_of}
use Rattle.vbm_store.specs.Kept.{AreKept}
use Rattle.vbm_store.specs.Serves.{serves, image_files, IsWritable, IsQuiet, FitsDisk, IsReady}
use Rattle.vbm_store.specs.Edits.{BringsNew, edited, store_after}
use Rattle.vbm_store.specs.Turns.{Turns}

-- no file with an inner image's name came that the library does not list
abbrev pub HasNoStrays : Library → Files → Files → Type 0
HasNoStrays l files now = (name : Name) → IsTrue (is_inner_name name) → IsFalse (is_inner_of l name) → files name ≡ None → now name ≡ None

-- a tidy store: nothing is being merged or made, and there are no strays
pub record IsTidy (l : Library) (files now : Files) : Type 0 where
  pub quiet : IsQuiet l
  pub strays : HasNoStrays l files now

-- ---- a step

-- the store `next`, with the answer, is a step on from e
pub record Advances (old new : DiskState) (e next : Store) (c : Command) (a : Answer) : Type 0 where
  pub number : ℕ
  pub by : (a, serves next new.files) ≡ step_of (serves e old.files) c number
  pub fits : FitsDisk next new
  pub ready : (u : Unsettled) → IsReady e old u → IsReady next new (unsettled_after u (serves e old.files) c)
  pub kept : AreKept e.library old.files next.library new.files
  pub tidy : IsTidy next.library old.files new.files

-- the store `next` serves what e did
pub record Stays (old new : DiskState) (e next : Store) : Type 0 where
  pub same : serves next new.files ≡ serves e old.files
  pub fits : FitsDisk next new
  pub ready : (u : Unsettled) → IsReady e old u → IsReady next new u
  pub kept : AreKept e.library old.files next.library new.files

-- ---- what a command owes

-- A plan that makes the machine's next world of the files, with the answer, whatever is unsettled; what is kept, and that no stray came.
pub record Manages (files : Files) (e : Store) (c : Command) (plan : List Change) (next : Store) (a : Answer) : Type 0 where
  pub world : World
  pub by : (a, world) ≡ step_of (serves e files) c 0
  pub turns : (u : Unsettled) → Turns u files plan next world
  pub kept : AreKept e.library files next.library (changed plan files)
  pub strays : HasNoStrays next.library files (changed plan files)

-- the machine's answer, which leaves the world and what is unsettled as they are
abbrev pub Answers : Files → Store → Command → Answer → Type 0
Answers files e c a = ((a, serves e files) ≡ step_of (serves e files) c 0) × ((u : Unsettled) → unsettled_after u (serves e files) c ≡ u)

-- a reason for which the machine refuses the command
abbrev pub Refuses : Files → Store → Command → Undone Refusal → Type 0
Refuses files e c (undone.Refused r) = Answers files e c (answers.Refused r)
Refuses files e c undone.Failed = Unit {0}
Refuses files e c undone.NoMemory = Unit {0}

-- a turn to the machine's next world
abbrev pub Plans : Files → Store → Command → Turn → Type 0
Plans files e c turn =
    (log : Log) → Manages files e c turn.plan.changes (store_after e turn.library turn.edit log) turn.answer

-- what was decided
abbrev pub Decides : Files → Store → Command → Result Decision (Undone Refusal) → Type 0
Decides files e c (Ok (decisions.Answer a)) = Answers files e c a
Decides files e c (Ok (decisions.Turn turn)) = Plans files e c turn
Decides files e c (Err it) = Refuses files e c it

-- what holds of a turn over any disk
abbrev pub IsSoundTurn : Store → Turn → Type 0
IsSoundTurn e turn =
    IsWritable turn.library × (map image_name (edited turn.edit e.images) ≡ image_files (named turn.library)) × BringsNew turn.edit

abbrev pub DecidesSound : Store → Result Decision (Undone Refusal) → Type 0
DecidesSound e (Ok (decisions.Answer a)) = Unit {0}
DecidesSound e (Ok (decisions.Turn turn)) = IsSoundTurn e turn
DecidesSound e (Err it) = Unit {0}
