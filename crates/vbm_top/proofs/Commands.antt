-- A command over an open store, and its close.
use Rattle.std.proofs.Common.{◌≡◌, Ok, refl, sym, ap, subst, ◌∙◌, arith, ◌⊎◌, inl, inr, IsTrue}
use Rattle.std.proofs.lemmas.Bool.{cases_Bool}
use Rattle.vbm_ports.specs.Files.{Files}
use Rattle.vbm_ports.specs.Disk.{DiskState, Passes, OnlyReads, IsCoherent}
use Rattle.vbm_ports.proofs.States.{Passes-trans}
use Rattle.vbm_world.specs.declared.command.Command.{Command}
use Rattle.vbm_world.specs.declared.command.Command.TheVariants.{Write, Fill, Flush}
use Rattle.vbm_world.specs.declared.command.Answer.{Answer}
use Rattle.vbm_world.specs.World.{World, off}
use Rattle.vbm_world.specs.Outcomes.{Outcome}
use Rattle.vbm_world.specs.Step.{step_of}
use Rattle.vbm_world.specs.Loose.{Unsettled, all_settled, is_refused, left_unsettled, unsettled_after}
use Rattle.vbm_world.specs.Texts.{line_of}
use Rattle.vbm_world.proofs.Numbers.{same_next}
use Rattle.vbm_served.specs.Served.{is_served, IsServed}
use Rattle.vbm_registry.specs.Named.{named}
use Rattle.vbm_standing.specs.Stands.{Stands, redone, bad_log}
use Rattle.vbm_engine.specs.declared.engine.Engine.{Engine}
use Rattle.vbm_engine.specs.declared.engine.Opened.TheVariants.{Open, Fault}
use Rattle.vbm_engine.specs.Serves.{serves, IsSoundEngine, IsReady}
use Rattle.vbm_store.specs.Serves.{StandsLoosely}
use Rattle.vbm_engine.specs.Steps.{Advances, Stays, IsInCommand}
use Rattle.vbm_engine.specs.Opens.{StandsAlike, SyncsFirst}
use Rattle.vbm_engine.proofs.Openings.{syncs_goes_on, opened_synced}
use Rattle.vbm_engine.proofs.Serving.{ready_stands, before_step}
use Rattle.vbm_standing.proofs.Stores.{store_if_held}
use Rattle.vbm_standing.proofs.Worlds.{off_at_rest}
use Rattle.vbm_top.specs.declared.status.Status.{Status}
use Rattle.vbm_top.specs.declared.status.Status.TheVariants.{NoMemory}
use Rattle.vbm_top.specs.Streams.{Stream}
use Rattle.vbm_top.specs.Run.{status_of, IsSilent, Says, CommandEnds, answered, unclosed, undone, broken, IsAnswered, IsUnclosed, IsUndone, IsClosed, LeavesServed, Closes, IsInRun, IsOfCommand, SyncsOrFails}

-- ---- what commands leave unsettled

-- no command that is served writes sectors
all_left : (c : Command) → IsTrue (is_served c) → left_unsettled all_settled c ≡ all_settled
all_left (Write vm port lba bytes) served = absurd cc
all_left (Fill vm port lba count byte) served = absurd cc
all_left (Flush vm) served = absurd cc
all_left c served = refl

settled_after : (w : World) (c : Command) → IsServed c → unsettled_after all_settled w c ≡ all_settled
settled_after w c served =
    elim (cases_Bool (is_refused (step_of w c 0).0)) [ inl against ↦ rw against refl | inr for ↦ rw for (all_left c served.served) ]

-- ---- a close

pub leaves_served : {tells : Type 0} {e : Engine} {old new : DiskState} → IsSoundEngine e → IsCoherent tells old → IsCoherent tells new
    → ((u : Unsettled) → IsReady e old u → Passes old new (StandsLoosely (off (serves e old.files)) u)) → LeavesServed e old new
leaves_served {e = e} {old = old} sound laws laws2 passes u ready image may =
    elim ((passes u ready).only old.moment image (omega arith) (laws2.counts_now old.moment image (passes u ready).later may)) [
      | inl was ↦ ready_stands e old u sound ready image (laws.only_now image was)
      | inr now ↦ now
    ]

-- ---- an answer

module _ (tells : Type 0) (files : Files) (e next : Engine) (c : Command) (a : Answer) (d1 d2 d3 : DiskState)
    (served : IsServed c) (ready : tells → (u : Unsettled) → IsReady e d1 u) (advances : tells → Advances d1 d2 e next c a) where
  ready_after : tells → IsReady next d2 all_settled
  ready_after t = subst (IsReady next d2) (settled_after (serves e d1.files) c served) ((advances t).ready all_settled (ready t all_settled))

  is_answered : (tells → Stands files (Ok (serves e d1.files))) → tells → IsClosed next d2 d3 → IsAnswered c files a d3
  is_answered stood t closed = record {
    world = serves e d1.files;
    stood = stood t;
    number = (advances t).number;
    is_answer = ap (λ (o : Outcome). o.0) (advances t).by;
    stands = subst (λ w. Stands d3.files (Ok (off w))) (ap (λ (o : Outcome). o.1) (advances t).by) closed.stands;
    settled = closed.settled;
  }

  is_unclosed : (tells → Stands files (Ok (serves e d1.files))) → (tells → LeavesServed next d2 d3) → tells → IsUnclosed c files a d3
  is_unclosed stood leaves t = record {
    world = serves e d1.files;
    stood = stood t;
    number = (advances t).number;
    is_answer = ap (λ (o : Outcome). o.0) (advances t).by;
    images = λ image may. subst (λ w. StandsLoosely (off w) all_settled image) (ap (λ (o : Outcome). o.1) (advances t).by)
        (leaves t all_settled (ready_after t) image may);
  }

  pub next_ends : (sink : Stream) (wanted status : Status) → (tells → Stands files (Ok (serves e d1.files)))
      → (tells → LeavesServed next d2 d3) → Says sink (line_of a) (status_of a) wanted → Closes tells next d2 d3 wanted status
      → CommandEnds tells c files d3 sink status
  next_ends sink wanted status stood leaves says (inl kept) =
      answered a (λ t. is_answered stood t (kept.1 t)) (subst (Says sink (line_of a) (status_of a)) (sym kept.0) says)
  next_ends sink wanted status stood leaves says (inr fails) = unclosed a wanted (is_unclosed stood leaves) says fails.0

  pub next_passes : tells → Passes d1 d2 (IsInCommand (serves e d1.files) c all_settled)
      → ((u : Unsettled) → IsReady next d2 u → Passes d2 d3 (StandsLoosely (off (serves next d2.files)) u))
      → Passes d1 d3 (IsInCommand (serves e d1.files) c all_settled)
  next_passes t first second =
      Passes-trans d1 d2 d3 _ _ _ first (second all_settled (ready_after t)) (λ image is. is) (λ image is. inr (at_end image is))
    where
      at_end : (image : Files) → StandsLoosely (off (serves next d2.files)) all_settled image
          → StandsLoosely (off (step_of (serves e d1.files) c 0).1) (unsettled_after all_settled (serves e d1.files) c) image
      at_end image is = subst (λ u. StandsLoosely (off (step_of (serves e d1.files) c 0).1) u image) (sym (settled_after (serves e d1.files) c served))
          (subst (λ w. StandsLoosely (off w) all_settled image)
          (ap (λ (o : Outcome). o.1) (advances t).by ∙ same_next (serves e d1.files) c (advances t).number 0) is)

-- ---- no memory for a step

-- a world that files stand for is off
off_stands : (files : Files) (w : World) → Stands files (Ok w) → off w ≡ w
off_stands files w (redone result redo is) =
    let held = store_if_held result w is in subst (λ v. off v ≡ v) (sym held.is) (off_at_rest (named held.library) result)
off_stands files w (bad_log bad is) = absurd cc

module _ (tells : Type 0) (files : Files) (e same : Engine) (c : Command) (d1 d2 d3 : DiskState) (stays : tells → Stays d1 d2 e same) where
  pub memory_ends : (sink : Stream) (wanted status : Status) → (tells → Stands files (Ok (serves e d1.files))) → wanted ≡ NoMemory → IsSilent sink
      → Closes tells same d2 d3 wanted status → CommandEnds tells c files d3 sink status
  memory_ends sink wanted status stood six none (inl kept) = undone (λ t. is_undone t (kept.1 t)) none (kept.0 ∙ six)
    where
      is_undone : tells → IsClosed same d2 d3 → IsUndone files d3
      is_undone t closed = record {
        world = serves e d1.files;
        stood = stood t;
        stands = subst (λ w. Stands d3.files (Ok w)) (ap off (stays t).same ∙ off_stands files (serves e d1.files) (stood t)) closed.stands;
        settled = closed.settled;
      }
  memory_ends sink wanted status stood six none (inr fails) = broken none fails.0

  pub memory_passes : tells → ((u : Unsettled) → IsReady e d1 u) → Passes d1 d2 (IsInCommand (serves e d1.files) c all_settled)
      → ((u : Unsettled) → IsReady same d2 u → Passes d2 d3 (StandsLoosely (off (serves same d2.files)) u))
      → Passes d1 d3 (IsInCommand (serves e d1.files) c all_settled)
  memory_passes t ready first second =
      Passes-trans d1 d2 d3 _ _ _ first (second all_settled ((stays t).ready all_settled (ready all_settled))) (λ image is. is)
      (λ image is. before_step (serves e d1.files) c all_settled image (subst (λ w. StandsLoosely (off w) all_settled image) (stays t).same is))

-- ---- the whole run

-- an image of the opening
pub opened_image : (c : Command) (old : DiskState) (image : Files) → old.may_leave image ⊎ StandsAlike old.files image → IsInRun c old image
opened_image c old image (inl before) = inl before
opened_image c old image (inr alike) = inr (inl alike)

pub run_passes : (c : Command) (e : Engine) (old mid new : DiskState) → Stands old.files (Ok (serves e mid.files))
    → Passes old mid (λ image. old.may_leave image ⊎ StandsAlike old.files image) → Passes mid new (IsInCommand (serves e mid.files) c all_settled)
    → Passes old new (IsInRun c old)
run_passes c e old mid new stood first second =
    Passes-trans old mid new _ _ _ first second (opened_image c old) (λ image is. inr (inr (serves e mid.files, stood, is)))

pub run_syncs : (tells : Type 0) (c : Command) (e : Engine) (old mid new : DiskState) (status : Status) → Stands old.files (Ok (serves e mid.files))
    → SyncsFirst old mid (StandsAlike old.files) ⊎ ((Open e ≡ Fault) × OnlyReads tells old mid)
    → Passes mid new (IsInCommand (serves e mid.files) c all_settled)
    → SyncsOrFails tells old new status (IsOfCommand c old.files)
run_syncs tells c e old mid new status stood synced second =
    inl (syncs_goes_on old mid new _ _ _ (opened_synced e synced) second (λ image alike. inl alike) (λ image is. inr (serves e mid.files, stood, is)))
