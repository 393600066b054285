-- What is known of an engine, by its store.
use Rattle.std.proofs.Common.{List, subst, sym, ap, inl, inr}
use Rattle.vbm_ports.specs.Files.{Files}
use Rattle.vbm_ports.specs.Disk.{DiskState, Passes, OnlyReads}
use Rattle.vbm_ports.proofs.States.{Passes-weaker}
use Rattle.vbm_intent.specs.declared.change.Change.{Change}
use Rattle.vbm_intent.specs.Log.{IsBeforeOrAfter}
use Rattle.vbm_world.specs.declared.command.Command.{Command}
use Rattle.vbm_world.specs.declared.command.Answer.{Answer}
use Rattle.vbm_world.specs.World.{World, off}
use Rattle.vbm_world.specs.Outcomes.{Outcome}
use Rattle.vbm_world.specs.Loose.{Unsettled, unsettled_after}
use Rattle.vbm_store.specs.declared.store.Store.{Store}
use Rattle.vbm_store.specs.Serves as stores
use Rattle.vbm_store.specs.Serves.{StandsLoosely}
use Rattle.vbm_store.specs.Turns.{IsInStep}
use Rattle.vbm_store.specs.declared.decision.Turn.{Turn}
use Rattle.vbm_store.specs.declared.store.Committed.TheVariants.{Done}
use Rattle.vbm_store.specs.Commits.{HandsBack}
use Rattle.vbm_store.specs.Steps.{Manages, IsSoundTurn}
use Rattle.vbm_store.proofs.Edits.{sound_after}
use Rattle.vbm_store.proofs.Readiness as readiness
use Rattle.vbm_store.proofs.Turning.{stands_more, read_passes, manage_passes}
use Rattle.vbm_engine.specs.declared.engine.Engine.{Engine}
use Rattle.vbm_engine.specs.Serves.{serves, IsSoundEngine, IsReady}
use Rattle.vbm_engine.specs.Steps.{IsInCommand}

-- an image of a ready disk stands for the world that is served
pub ready_stands : (e : Engine) (s : DiskState) (u : Unsettled) → IsSoundEngine e → IsReady e s u → (image : Files) → s.may_leave image
    → StandsLoosely (off (serves e s.files)) u image
ready_stands e s u = readiness.ready_stands e.store s u

-- an image of the world before a command
pub before_step : (w : World) (c : Command) (u : Unsettled) (image : Files) → StandsLoosely (off w) u image → IsInCommand w c u image
before_step w c u image stands = inl (stands_more (off w) u (unsettled_after u w c) image stands)

module _ {tells : Type 0} (e : Store) (c : Command) {old mid : DiskState} (reads : OnlyReads tells old mid) (sound : stores.IsSoundStore e)
    (u : Unsettled) (ready : stores.IsReady e old u) where
  -- a command that only reads
  pub command_reads : Passes old mid (IsInCommand (stores.serves e old.files) c u)
  command_reads = Passes-weaker old mid _ _ (read_passes reads sound u ready) (before_step (stores.serves e old.files) c u)

  -- a command that reads, and then commits a plan
  pub command_commits : tells → {plan : List Change} {next : Store} {a : Answer} → Manages old.files e c plan next a → (new : DiskState)
      → Passes mid new (IsBeforeOrAfter plan mid.files mid.may_leave) → Passes old new (IsInCommand (stores.serves e old.files) c u)
  command_commits told owes new commits =
      Passes-weaker old new _ _ (manage_passes told reads sound owes new commits (unsettled_after u w c) u ready) in_command
    where
      w : World
      w = stores.serves e old.files

      in_command : (image : Files) → IsInStep w u owes.world (unsettled_after u w c) image → IsInCommand w c u image
      in_command image (inl before) = before_step w c u image before
      in_command image (inr after) =
          inr (subst (λ v. StandsLoosely (off v) (unsettled_after u w c) image) (ap (λ (o : Outcome). o.1) owes.by) after)

-- a commit leaves a sound store
pub sound_turn : (e : Store) (turn : Turn) → stores.IsSoundStore e → IsSoundTurn e turn → (next : Store)
    → HandsBack e turn.library turn.edit (Done next) → stores.IsSoundStore next
sound_turn e turn before sound next back =
    subst stores.IsSoundStore (sym back) (sound_after e turn.library turn.edit next.log before sound.0 sound.1 sound.2)
