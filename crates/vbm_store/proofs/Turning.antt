-- Steps of a store that read, and then commit a plan.
use Rattle.std.proofs.Common.{◌≡◌, ℕ, Bool, true, List, refl, sym, ap, subst, ◌∙◌, inl, inr}
use Rattle.vbm_ports.specs.Files.{Files}
use Rattle.vbm_ports.specs.Disk.{DiskState, Passes, OnlyReads}
use Rattle.vbm_ports.specs.Crash.{Only}
use Rattle.vbm_ports.proofs.States.{Passes-trans, Passes-weaker}
use Rattle.vbm_intent.specs.declared.change.Change.{Change}
use Rattle.vbm_intent.specs.Changes.{changed, Fits}
use Rattle.vbm_intent.specs.Log.{IsShutInAll, SameBesidesLog, RedoesTo, IsBeforeOrAfter, before, done}
use Rattle.vbm_world.specs.declared.command.Command.{Command}
use Rattle.vbm_world.specs.declared.command.Answer.{Answer}
use Rattle.vbm_named.specs.Names.{Name}
use Rattle.vbm_world.specs.World.{World, off}
use Rattle.vbm_world.specs.Step.{step_of}
use Rattle.vbm_world.specs.Loose.{Unsettled, all_settled, unsettled_after, IsLoosely}
use Rattle.vbm_world.proofs.Worlds.{loosely_weaker}
use Rattle.vbm_standing.specs.Meaning.{none_changed, none_runs}
use Rattle.vbm_standing.proofs.MachineWorlds.{world-frame}
use Rattle.vbm_store.specs.declared.store.Store.{Store}
use Rattle.vbm_intent.specs.declared.log.Log.{Log}
use Rattle.vbm_registry.specs.declared.library.Library.{Library}
use Rattle.vbm_registry.specs.Named.{named}
use Rattle.vbm_store.specs.declared.images.Edit.{Edit}
use Rattle.vbm_store.specs.declared.store.Committed.TheVariants.{Done}
use Rattle.vbm_store.specs.Edits.{store_after}
use Rattle.vbm_store.specs.Commits.{HandsBack}
use Rattle.vbm_store.specs.Keeps.{Keeps, AllKeep, kind_of}
use Rattle.vbm_store.specs.Kept.{AreKept}
use Rattle.vbm_store.specs.Serves.{rests, serves, changed_of, running_of, IsWritable, IsQuiet, IsSoundStore, Holds, FitsDisk, touched, IsReady, StandsLoosely, both}
use Rattle.vbm_store.specs.Turns.{Turns, IsInStep, Turned}
use Rattle.vbm_store.specs.Steps.{HasNoStrays, Advances, Stays, Manages, Answers}
use Rattle.vbm_store.proofs.Keeping.{kept_itself, kept_besides}
use Rattle.vbm_store.proofs.Readiness.{inner_not_log, same_images, holds_besides, unstaged_here, keeps_self, settled_ready, kept_redone, ready_stands, ready_redone}

-- more sectors may be loose
pub stands_more : (w : World) (u v : Unsettled) (image : Files) → StandsLoosely w u image → StandsLoosely w (both u v) image
stands_more w u v image stands = record {
  world = stands.world;
  stands = stands.stands;
  loosely = loosely_weaker u (both u v) (λ vm port sector t. rw t refl) w stands.world stands.loosely;
}

-- no merging and no making is in use
pub quiet_if_written : (l : Library) → IsWritable l → IsQuiet l
quiet_if_written l is = record { merging = is.built.merging refl; making = is.built.making refl }

-- what only reads leaves no other
pub read_passes : {tells : Type 0} {e : Store} {old new : DiskState} → OnlyReads tells old new → IsSoundStore e
    → (u : Unsettled) → IsReady e old u → Passes old new (StandsLoosely (off (serves e old.files)) u)
read_passes {e = e} {old = old} {new = new} reads sound u ready = Passes-weaker old new _ _ reads.time (ready_stands e old u sound ready)

-- what only reads leaves the store as fit and as ready
module _ {tells : Type 0} (told : tells) (e : Store) {old new : DiskState} (reads : OnlyReads tells old new) where
  keeps_read : (loose : Name → ℕ → Bool) → AllKeep (kind_of e.library old.files) loose old.files old
      → AllKeep (kind_of e.library new.files) loose new.files new
  keeps_read loose keeps image may =
      subst (λ f. Keeps (kind_of e.library f) loose f image) (sym (reads.files told)) (keeps image (reads.images image may))

  fits_read : FitsDisk e old → FitsDisk e new
  fits_read fits = record {
    holds = subst (Holds e.library e.images) (sym (reads.files told)) fits.holds;
    frame = keeps_read (λ name i. true) fits.frame;
  }

  pub ready_read : (u : Unsettled) → IsReady e old u → IsReady e new u
  ready_read u ready = record {
    fits = fits_read ready.fits;
    keeps = keeps_read (touched e.library u) ready.keeps;
    here = subst (λ f. IsLoosely u (off (serves e f)) (rests e.library f)) (sym (reads.files told)) ready.here;
  }

  module _ (sound : IsSoundStore e) where
    pub kept_read : AreKept e.library old.files e.library new.files
    kept_read = subst (AreKept e.library old.files e.library) (sym (reads.files told)) (kept_itself e.library old.files sound.library.rules)

    pub read_stays : FitsDisk e old → Stays old new e e
    read_stays fits = record { same = ap (serves e) (reads.files told); fits = fits_read fits; ready = ready_read; kept = kept_read }

    pub read_advances : FitsDisk e old → (c : Command) (a : Answer) → Answers old.files e c a → Advances old new e e c a
    read_advances fits c a answers = record {
      number = 0;
      by = ap (λ f. (a, serves e f)) (reads.files told) ∙ answers.0;
      fits = fits_read fits;
      ready = λ u was. subst (IsReady e new) (sym (answers.1 u)) (ready_read u was);
      kept = kept_read;
      tidy = record {
        quiet = quiet_if_written e.library sound.library;
        strays = λ name inner unlisted none. ap (λ (f : Files). f name) (reads.files told) ∙ none;
      };
    }

-- ---- a commit

module _ {u : Unsettled} {files : Files} {plan : List Change} {next : Store} {w : World} (turns : Turns u files plan next w) where
  -- the files with the plan's changes
  abbrev to : Files
  to = changed plan files

  -- what is redone to them stands for the world after the plan
  after_stands : (image : Files) → RedoesTo to image → StandsLoosely (off w) u image
  after_stands = kept_redone u next.library next.images to turns.sound.library.rules turns.holds (off w) turns.here to
      (keeps_self next.library to (touched next.library u) turns.holds.store)

  pub commit_turned : (new : DiskState) → SameBesidesLog new.files to → Only new.files new.may_leave → IsShutInAll new.may_leave
      → new.may_leave new.files → Turned u next w new
  commit_turned new same only shut now =
      let rules = turns.sound.library.rules in
      let images = same_images (named next.library) to new.files same in
      let world : rests next.library new.files ≡ rests next.library to =
      world-frame none_changed none_runs (named next.library) to new.files rules images in
      let serves_it : serves next new.files ≡ w =
      world-frame (changed_of next) (running_of next) (named next.library) to new.files rules images ∙ turns.by in
      let here : IsLoosely u (off (serves next new.files)) (rests next.library new.files) =
      subst (λ v. IsLoosely u (off v) (rests next.library new.files)) (sym serves_it) (subst (IsLoosely u (off w)) (sym world) turns.here) in
      record {
        serves_it = serves_it;
        sound = turns.sound;
        ready = settled_ready next new u (holds_besides next.library next.images to new.files rules same turns.holds)
            here only shut now;
      }

  -- each image inside the commit stands for the world before it, or for that after it
  pub commit_passes : (e : Store) (old new : DiskState) (v : Unsettled) → old.files ≡ files
      → Passes old new (IsBeforeOrAfter plan old.files old.may_leave) → IsSoundStore e → IsReady e old v
      → Passes old new (IsInStep (serves e old.files) v w u)
  commit_passes e old new v is commits sound ready = Passes-weaker old new _ _ commits in_commit
    where
      in_commit : (image : Files) → IsBeforeOrAfter plan old.files old.may_leave image → IsInStep (serves e old.files) v w u image
      in_commit image (before start was redoes) = inl (ready_redone e old v sound ready start was image redoes)
      in_commit image (done redoes) = inr (after_stands image (subst (λ f. RedoesTo (changed plan f) image) is redoes))

-- ---- a command that commits

-- the facts of a plan that make it a command's, where nothing is staged
pub manages : (files : Files) (e : Store) (c : Command) (plan : List Change) (next : Store) (a : Answer) → IsSoundStore next → Fits plan files
    → Holds next.library next.images (changed plan files) → (a, serves next (changed plan files)) ≡ step_of (serves e files) c 0
    → AreKept e.library files next.library (changed plan files) → HasNoStrays next.library files (changed plan files)
    → Manages files e c plan next a
manages files e c plan next a sound fits holds by kept strays = record {
  world = serves next (changed plan files);
  by = by;
  turns = λ u. record {
    fits = fits;
    sound = sound;
    holds = holds;
    by = refl;
    here = unstaged_here next (changed plan files) u;
  };
  kept = kept;
  strays = strays;
}

-- a disk that is only read, and then takes the plan of a command
module _ {tells : Type 0} {e : Store} {c : Command} {plan : List Change} {next : Store} {a : Answer} {old mid : DiskState} (told : tells)
    (reads : OnlyReads tells old mid) (sound : IsSoundStore e) (owes : Manages old.files e c plan next a) where
  pub manage_passes : (new : DiskState) → Passes mid new (IsBeforeOrAfter plan mid.files mid.may_leave) → (u v : Unsettled) → IsReady e old v
      → Passes old new (IsInStep (serves e old.files) v owes.world u)
  manage_passes new commits u v ready =
      Passes-trans old mid new _ _ _ (read_passes reads sound v ready)
      (commit_passes (owes.turns u) e mid new v (reads.files told) commits sound (ready_read told e reads v ready))
      (λ image stands. inl stands)
      (λ image is. subst (λ f. IsInStep (serves e f) v owes.world u image) (reads.files told) is)

  pub manage_advances : (new : DiskState) → SameBesidesLog new.files (changed plan mid.files) → Only new.files new.may_leave
      → IsShutInAll new.may_leave → new.may_leave new.files → Advances old new e next c a
  manage_advances new same_mid only shut now =
      let same : SameBesidesLog new.files (changed plan old.files) = subst (λ f. SameBesidesLog new.files (changed plan f)) (reads.files told) same_mid in
      let turned : (u : Unsettled) → Turned u next owes.world new = λ u. commit_turned (owes.turns u) new same only shut now in
      let settled = turned all_settled in
      record {
        number = 0;
        by = ap (λ (w : World). (a, w)) settled.serves_it ∙ owes.by;
        fits = settled.ready.fits;
        ready = λ u was. (turned (unsettled_after u (serves e old.files) c)).ready;
        kept = kept_besides e.library next.library old.files (changed plan old.files) new.files sound.library.rules same owes.kept;
        tidy = record {
          quiet = quiet_if_written next.library settled.sound.library;
          strays = λ name inner unlisted none. same name (inner_not_log name inner) ∙ owes.strays name inner unlisted none;
        };
      }

-- the store that a commit gives back is the next one of the command
pub turned_by : {files : Files} {e : Store} {c : Command} {plan : List Change} {a : Answer} (library : Library) (edit : Edit) (next : Store)
    → HandsBack e library edit (Done next)
    → ((log : Log) → Manages files e c plan (store_after e library edit log) a)
    → Manages files e c plan next a
turned_by {files = files} {e = e} {c = c} {plan = plan} {a = a} library edit next store owes =
    subst (λ n. Manages files e c plan n a) (sym store) (owes next.log)
