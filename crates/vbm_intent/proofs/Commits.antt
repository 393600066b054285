-- A commit, step by step.
use Rattle.std.proofs.Common.{◌≡◌, ◌≢◌, ◌⊎◌, inl, inr, ⊎_elim, ℕ, ◌<◌, ◌≤◌, List, [], ◌∷◌, length, drop, Option, Some, None, Bool, cond, refl, sym, ◌∙◌, ap, subst, arith, length-drop}
use Rattle.std.proofs.lemmas.Bool.{cases_Bool, cases_eq}
use Rattle.std.proofs.lemmas.List.Elements.{All-head, All-tail}
use Rattle.std.proofs.lemmas.Slice.Eq.{bytes_eq-Decides}
use Rattle.std.specs.List.{All}
use Rattle.std.specs.Str.{bytes_eq}
use Rattle.vbm_ports.specs.Files.{Files, bytes_of, put, Sets, IsWritten}
use Rattle.vbm_ports.specs.Disk.{DiskState, Passes}
use Rattle.vbm_ports.proofs.States.{Passes-weaker, Passes-trans}
use Rattle.vbm_intent.specs.declared.change.Change.{Change}
use Rattle.vbm_intent.specs.Changes.{log_name, name_of, file_after, of_file, changed, IsAllowed, FitsFile, Fits}
use Rattle.vbm_intent.specs.Record.{IsPlan, IsRecord}
use Rattle.vbm_intent.specs.Log.{IsOpen, IsShut, IsShutInAll, IsPending, Redo, closed, pending, SameBesidesLog, IsBeforeOrAfter, before, done}
use Rattle.vbm_intent.specs.Partly.{IsFilePartly, IsPartly, behind_gate, IsGateTorn, IsRecordTorn}
use Rattle.vbm_intent.proofs.Applying.{all_arrive}
use Rattle.vbm_intent.proofs.FilePartly.{nothing_left}
use Rattle.vbm_intent.proofs.Records.{record_long, behind_put, record_put}

pub cases_name : (a b : List ℕ) → (a ≡ b) ⊎ (a ≢ b)
cases_name a b = ⊎_elim (λ is. inl ((bytes_eq-Decides a b).0 is)) (λ no. inr (λ same. cc ((bytes_eq-Decides a b).1 same, no))) (cases_Bool (bytes_eq a b))

-- no change of a plan is of the log
pub spares_log : (cs : List Change) → All IsAllowed cs → of_file log_name cs ≡ []
spares_log [] allowed = refl
spares_log (c ∷ cs) allowed = ⊎_elim
    (λ is. absurd ((All-head IsAllowed c cs allowed).not_log ((bytes_eq-Decides (name_of c) log_name).0 is)))
    (λ no. ap (λ (b : Bool). cond b (c ∷ of_file log_name cs) (of_file log_name cs)) no ∙ spares_log cs (All-tail IsAllowed c cs allowed))
    (cases_Bool (bytes_eq (name_of c) log_name))

pub shut_closed : (file : Option (List ℕ)) → IsShut file → IsOpen file → ⊥
shut_closed None shut opens = shut
shut_closed (Some []) shut opens = shut
shut_closed (Some (g ∷ behind)) shut opens = shut opens.0

pub besides_sym : (a b : Files) → SameBesidesLog a b → SameBesidesLog b a
besides_sym a b same = λ name other. sym (same name other)

pub besides_trans : (a b c : Files) → SameBesidesLog a b → SameBesidesLog b c → SameBesidesLog a c
besides_trans a b c first second = λ name other. first name other ∙ second name other

pub sets_besides : (value : Option (List ℕ)) (a b : Files) → Sets log_name value a b → SameBesidesLog b a
sets_besides value a b sets = λ name other. sets.others name other

-- the log holds this record behind a gate
pub record HasRecord (cs : List Change) (file : Option (List ℕ)) : Type 0 where
  pub gate : ℕ
  pub behind : List ℕ
  pub log : file ≡ Some (gate ∷ behind)
  pub holds : IsRecord (drop 7 behind) cs

-- a record is written behind a shut gate
pub recorded : (cs : List Change) (text : List ℕ) (file new : Option (List ℕ)) → IsRecord text cs → IsShut file → new ≡ Some (put 8 text (bytes_of file)) → HasRecord cs new
recorded cs text None new is shut log = absurd shut
recorded cs text (Some []) new is shut log = absurd shut
recorded cs text (Some (g ∷ behind)) new is shut log = record {
  gate = g;
  behind = behind_put g behind text;
  log = log;
  holds = record_put g behind text cs is;
}

pub long_enough : (cs : List Change) (behind : List ℕ) → IsRecord (drop 7 behind) cs → 15 ≤ length behind
long_enough cs behind holds = omega (arith, record_long (drop 7 behind) cs holds, length-drop 7 behind)

pub is_pending : (cs : List Change) (image : Files) (behind : List ℕ) → image log_name ≡ Some (165 ∷ behind) → IsRecord (drop 7 behind) cs → Fits cs image → IsPending image cs
is_pending cs image behind log holds fits = record {
  opens = subst IsOpen (sym log) (refl, omega (arith, long_enough cs behind holds));
  recorded = subst (λ f. IsRecord (drop 8 (bytes_of f)) cs) (sym log) holds;
  fits = fits;
}

module _ (cs : List Change) (plan : IsPlan cs) where
  pub changed_besides : (a b : Files) → SameBesidesLog a b → SameBesidesLog (changed cs a) (changed cs b)
  changed_besides a b same = λ name other. ap (λ (f : Option (List ℕ)). file_after (of_file name cs) f) (same name other)

  pub fits_besides : (a b : Files) → SameBesidesLog a b → Fits cs a → Fits cs b
  fits_besides a b same fits = λ name. ⊎_elim
      (λ is. subst (λ n. FitsFile (of_file n cs) (b n)) (sym is) (subst (λ l. FitsFile l (b log_name)) (sym (spares_log cs plan.allowed)) tt))
      (λ other. subst (λ f. FitsFile (of_file name cs) f) (same name other) (fits name))
      (cases_name name log_name)

  -- the changes leave the log as it was
  pub log_kept : (files image : Files) → IsPartly cs files image → image log_name ≡ files log_name
  log_kept files image partly = nothing_left (files log_name) (image log_name) (subst (λ l. IsFilePartly l (files log_name) (image log_name)) (spares_log cs plan.allowed) (partly log_name))

  -- an image with the record, behind an open gate or a shut one
  pub open_or_shut : (files : Files) (images : Files → Type 0) (image : Files) (gate : ℕ) (behind : List ℕ) → image log_name ≡ Some (gate ∷ behind) → IsRecord (drop 7 behind) cs
      → Fits cs image → SameBesidesLog (changed cs image) (changed cs files) → (Redo image image → IsBeforeOrAfter cs files images image) → IsBeforeOrAfter cs files images image
  open_or_shut files images image gate behind log holds fits same if_shut = ⊎_elim
      (λ is. done (record {
        result = changed cs image;
        redo = pending cs (is_pending cs image behind (log ∙ ap (λ (k : ℕ). Some (k ∷ behind)) is) holds fits) refl;
        same = same;
      }))
      (λ shut. if_shut (closed (shut_closed (image log_name) (subst IsShut (sym log) shut)) refl))
      (cases_eq gate 165)

  module _ (old : DiskState) (shut : IsShutInAll old.may_leave) (here : old.may_leave old.files) (fits : Fits cs old.files) where
    -- while the record is written
    pub record_phase : (image : Files) → IsRecordTorn old.may_leave image → IsBeforeOrAfter cs old.files old.may_leave image
    record_phase image torn = before torn.from torn.was (record { result = image; redo = closed (shut_closed (image log_name) torn.shut) refl; same = torn.others })

    pub record_time : (next : DiskState) → Passes old next (IsRecordTorn old.may_leave) → Passes old next (IsBeforeOrAfter cs old.files old.may_leave)
    record_time next time = Passes-weaker old next _ _ time record_phase

    module _ (text : List ℕ) (is_record : IsRecord text cs) (first : DiskState) (writes : IsWritten log_name 8 text old.files first.files) where
      pub has : HasRecord cs (first.files log_name)
      has = recorded cs text (old.files log_name) (first.files log_name) is_record (shut old.files here) writes.here

      pub first_same : SameBesidesLog first.files old.files
      first_same = sets_besides _ old.files first.files writes

      -- while the gate opens
      pub open_phase : (image : Files) → IsGateTorn first.files image → IsBeforeOrAfter cs old.files old.may_leave image
      open_phase image torn =
          let like : SameBesidesLog image old.files = besides_trans image first.files old.files torn.others first_same in
          open_or_shut old.files old.may_leave image torn.gate has.behind (torn.log ∙ ap (λ (f : Option (List ℕ)). Some (torn.gate ∷ behind_gate f)) has.log) has.holds
          (fits_besides old.files image (besides_sym image old.files like) fits) (changed_besides image old.files like)
          (λ redo. before old.files here (record { result = image; redo = redo; same = like }))

      module _ (recording : Passes old first (IsRecordTorn old.may_leave)) where
        pub open_time : (next : DiskState) → Passes first next (IsGateTorn first.files) → Passes old next (IsBeforeOrAfter cs old.files old.may_leave)
        open_time next time = Passes-trans old first next _ _ _ recording time record_phase open_phase

        module _ (second : DiskState) (opens : Sets log_name (Some (165 ∷ behind_gate (first.files log_name))) first.files second.files) where
          second_log : second.files log_name ≡ Some (165 ∷ has.behind)
          second_log = opens.here ∙ ap (λ (f : Option (List ℕ)). Some (165 ∷ behind_gate f)) has.log

          second_same : SameBesidesLog second.files old.files
          second_same = besides_trans second.files first.files old.files (sets_besides _ first.files second.files opens) first_same

          pub second_fits : Fits cs second.files
          second_fits = fits_besides old.files second.files (besides_sym second.files old.files second_same) fits

          -- while the changes are made
          apply_phase : (image : Files) → IsPartly cs second.files image → IsBeforeOrAfter cs old.files old.may_leave image
          apply_phase image partly =
              let ends = all_arrive cs second.files image plan second_fits partly in
              done (record {
                result = changed cs image;
                redo = pending cs (is_pending cs image has.behind (log_kept second.files image partly ∙ second_log) has.holds ends.0) refl;
                same = λ name other. ap (λ (f : Files). f name) ends.1 ∙ changed_besides second.files old.files second_same name other;
              })

          module _ (opening : Passes first second (IsGateTorn first.files)) (ds : List Change) (is_plan : ds ≡ cs) where
            pub apply_time : (next : DiskState) → Passes second next (IsPartly ds second.files) → Passes old next (IsBeforeOrAfter cs old.files old.may_leave)
            apply_time next time = Passes-trans old second next _ _ _ (open_time second opening) time (λ image had. had)
                (λ image partly. apply_phase image (subst (λ l. IsPartly l second.files image) is_plan partly))

            module _ (third : DiskState) (partly_made : IsPartly ds second.files third.files) (made : third.files ≡ changed ds second.files) where
              partly : IsPartly cs second.files third.files
              partly = subst (λ l. IsPartly l second.files third.files) is_plan partly_made

              third_log : third.files log_name ≡ Some (165 ∷ has.behind)
              third_log = log_kept second.files third.files partly ∙ second_log

              pub third_long : 0 < length (bytes_of (third.files log_name))
              third_long = subst (λ f. 0 < length (bytes_of f)) (sym third_log) (omega arith)

              third_same : SameBesidesLog third.files (changed cs old.files)
              third_same = λ name other. ap (λ (f : Files). f name) made ∙ ap (λ (l : List Change). changed l second.files name) is_plan ∙ changed_besides second.files old.files second_same name other

              -- while the gate closes
              close_phase : (image : Files) → IsGateTorn third.files image → IsBeforeOrAfter cs old.files old.may_leave image
              close_phase image torn =
                  let ends = all_arrive cs second.files third.files plan second_fits partly in
                  open_or_shut old.files old.may_leave image torn.gate has.behind (torn.log ∙ ap (λ (f : Option (List ℕ)). Some (torn.gate ∷ behind_gate f)) third_log) has.holds
                  (fits_besides third.files image (besides_sym image third.files torn.others) ends.0)
                  (λ name other. changed_besides image third.files torn.others name other ∙ ap (λ (f : Files). f name) ends.1 ∙ changed_besides second.files old.files second_same name other)
                  (λ redo. done (record { result = image; redo = redo; same = besides_trans image third.files (changed cs old.files) torn.others third_same }))

              pub close_time : (next : DiskState) → Passes second third (IsPartly ds second.files) → Passes third next (IsGateTorn third.files) → Passes old next (IsBeforeOrAfter cs old.files old.may_leave)
              close_time next making time = Passes-trans old third next _ _ _ (apply_time third making) time (λ image had. had) close_phase
