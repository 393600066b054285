-- Making a library.
use Rattle.std.proofs.Common.{◌≡◌, ◌⊎◌, ℕ, List, [], Ok, refl, sym, ap, subst, ◌∙◌, arith, inl, inr}
use Rattle.std.proofs.lemmas.Bool.{false_from_ne_true}
use Rattle.std.proofs.lemmas.Slice.Eq.{bytes_eq-Decides}
use Rattle.vbm_ports.specs.Files.{Files}
use Rattle.vbm_ports.specs.Disk.{DiskState, Passes, OnlyReads}
use Rattle.vbm_ports.proofs.States.{Passes-trans, Passes-weaker}
use Rattle.vbm_ids.specs.Identifier.{IsSeed}
use Rattle.vbm_intent.specs.declared.change.Change.{Change}
use Rattle.vbm_intent.specs.Changes.{log_name}
use Rattle.vbm_intent.specs.Log.{closed, SameBesidesLog, RedoesTo, IsBeforeOrAfter, before as start, done, IsLikeRedone, redo_has_one_result}
use Rattle.vbm_registry.specs.Library.{library_name}
use Rattle.vbm_registry.specs.Named.{named}
use Rattle.vbm_standing.specs.Meaning.{none_changed, none_runs}
use Rattle.vbm_standing.specs.Stands.{library_of, library_file, read_library, held_by, Stands, redone}
use Rattle.vbm_standing.specs.EditedFiles.{SameMediumFiles}
use Rattle.vbm_standing.proofs.MachineWorlds.{world-frame}
use Rattle.vbm_standing.proofs.Redone.{no_redo, not_open}
use Rattle.vbm_standing.proofs.Stores.{held_if_store, medium_not_log, library_not_log}
use Rattle.vbm_engine.specs.declared.engine.Made.{Made}
use Rattle.vbm_engine.specs.declared.engine.Made.TheVariants as made
use Rattle.vbm_engine.specs.Opens.{empty_library, new_world, StandsNew, Makes}
use Rattle.vbm_engine.specs.Recovers.{IsSettled}
use Rattle.vbm_engine.specs.Inits.{IsNewPlan, with_library, MakesOver, IsOver, before, during}
use Rattle.vbm_store.specs.Serves.{IsWritable}
use Rattle.vbm_store.proofs.Planned.{written_again, library_made, library_frame}
use Rattle.vbm_store.proofs.Decisions.{medium_not_library}

-- an empty library keeps the rules
pub empty_writable : (seed : List ℕ) → IsSeed seed → IsWritable (empty_library seed)
empty_writable seed is = record {
  rules = record {
    seed = is;
    next = omega arith;
    inner = omega arith;
    few_media = omega arith;
    few_machines = omega arith;
    few_snapshots = omega arith;
    few_places = omega arith;
    few_mergings = omega arith;
    media_rise = tt;
    media = tt;
    inners = tt;
    machines_rise = tt;
    machines = tt;
    making = tt;
    held = tt;
    based = tt;
    merging = tt;
    drawn = tt;
  };
  built = record {
    modes = tt;
    inners = λ off. refl;
    machines = λ off. refl;
    each = tt;
    making = λ off. refl;
    merging = λ off. refl;
  };
}

-- ---- the commit

module _ (seed : List ℕ) (old : DiskState) where
  pub commit_over : (new : DiskState) (plan : List Change) → IsNewPlan seed plan → Passes old new (IsBeforeOrAfter plan old.files old.may_leave)
      → Passes old new (IsOver seed old)
  commit_over new plan is passes = Passes-weaker old new _ _ passes
      (λ image now. during is.is_seed (subst (λ cs. IsBeforeOrAfter cs old.files old.may_leave image) is.changes now))

  -- a read before it
  module _ {tells : Type 0} (told : tells) (mid : DiskState) (reads : OnlyReads tells old mid) where
    read_over : (image : Files) → IsOver seed mid image → IsOver seed old image
    read_over image (before now) = before (reads.images image now)
    read_over image (during seeded (start from was to)) = during seeded (start from (reads.images from was) to)
    read_over image (during seeded (done to)) = during seeded (done (subst (λ f. RedoesTo (with_library seed f) image) (reads.files told) to))

    pub over_after_read : (new : DiskState) → Passes mid new (IsOver seed mid) → Passes old new (IsOver seed old)
    over_after_read new passes = Passes-trans old mid new old.may_leave (IsOver seed mid) (IsOver seed old) reads.time passes (λ image now. before now) read_over

-- ---- over what redo gives

module _ (seed : List ℕ) (old mid : DiskState) (to : RedoesTo mid.files old.files) (settled : IsSettled mid) where
  -- an image after whose redo the files are those of now
  redone_alike : (image : Files) → RedoesTo mid.files image → IsLikeRedone old.files image
  redone_alike image again = record {
    good = λ result redo. record {
      result = again.result;
      redo = again.redo;
      same = λ name other. again.same name other ∙ sym (to.same name other) ∙ ap (λ (f : Files). f name) (redo_has_one_result old.files to.result result to.redo redo);
    };
    bad = λ bad. absurd (no_redo old.files to.result bad to.redo);
  }

  now_alike : (image : Files) → mid.may_leave image → IsLikeRedone old.files image
  now_alike image now = redone_alike image (record {
    result = image;
    redo = closed (not_open (image log_name) (settled.shut image now)) refl;
    same = λ name other. ap (λ (f : Files). f name) (settled.only image now);
  })

  module _ (seeded : IsSeed seed) where
    -- files that are those of now with the library
    held_new : (files : Files) → SameBesidesLog files (with_library seed mid.files) → held_by files ≡ Ok (new_world seed to.result)
    held_new files same =
        let read : library_of files ≡ Ok (empty_library seed) =
        ap library_file (same library_name library_not_log ∙ library_made [] (empty_library seed) mid.files refl)
        ∙ ap read_library (written_again (empty_library seed) (empty_writable seed seeded)) in
        let all : SameMediumFiles to.result files = λ name named.
        same name (medium_not_log name named) ∙ library_frame [] (empty_library seed) mid.files name (medium_not_library name named)
        ∙ sym (to.same name (medium_not_log name named)) in
        held_if_store (empty_library seed) files read (record { media = tt; distinct = tt; inners = tt })
        ∙ ap Ok (world-frame none_changed none_runs (named (empty_library seed)) to.result files (empty_writable seed seeded).rules
        (record { media = all; inners = tt }))

    stands_new : (image : Files) → RedoesTo (with_library seed mid.files) image → Stands image (Ok (new_world seed to.result))
    stands_new image done_to = redone done_to.result done_to.redo (held_new done_to.result done_to.same)

  pub over_redone : (image : Files) → IsOver seed mid image → IsLikeRedone old.files image ⊎ StandsNew seed old.files image
  over_redone image (before now) = inl (now_alike image now)
  over_redone image (during seeded (start from was done_to)) =
      inl (redone_alike image (subst (λ f. RedoesTo f image) (settled.only from was) done_to))
  over_redone image (during seeded (done done_to)) = inr (to.result, to.redo, stands_new seeded image done_to)

  pub makes : (new : DiskState) (result : Made) → new.may_leave new.files → MakesOver seed mid new result → Makes seed old new result
  makes new made.Done now written = record {
    redone = to.result;
    redo = to.redo;
    absent = to.same library_name library_not_log ∙ written.absent;
    stands = stands_new written.is_seed new.files (record {
      result = new.files;
      redo = closed (not_open (new.files log_name) (written.settled.shut new.files now)) refl;
      same = written.same;
    });
    others = λ name other another.
        written.same name other
        ∙ library_frame [] (empty_library seed) mid.files name (false_from_ne_true _ (λ is. another (sym ((bytes_eq-Decides library_name name).0 is))))
        ∙ sym (to.same name other);
    settled = written.settled.only;
  }
  makes new (made.Refused bad) now none = absurd none
  makes new made.There now there = record {
    redone = to.result;
    redo = to.redo;
    there = λ absent. there.0 (sym (to.same library_name library_not_log) ∙ absent);
    same = λ name other. ap (λ (f : Files). f name) there.1 ∙ sym (to.same name other);
  }
  makes new made.Failed now any = tt
  makes new made.NoMemory now any = tt

-- ---- after a sync

pub after_sync : (seed : List ℕ) {tells : Type 0} (told : tells) (old mid new : DiskState) → OnlyReads tells old mid
    → Passes mid new (λ image. IsLikeRedone mid.files image ⊎ StandsNew seed mid.files image)
    → Passes old new (λ image. old.may_leave image ⊎ IsLikeRedone old.files image ⊎ StandsNew seed old.files image)
after_sync seed told old mid new reads passes = Passes-trans old mid new _ _ _ reads.time passes (λ image now. inl now)
    (λ image now. inr (subst (λ f. IsLikeRedone f image ⊎ StandsNew seed f image) (reads.files told) now))

pub like_itself : (files : Files) → IsLikeRedone files files
like_itself files = record { good = λ result redo. record { result = result; redo = redo; same = λ name other. refl }; bad = λ bad. refl }
