-- What redo reads of the log, and its steps.
use Rattle.std.proofs.Common.{◌≡◌, ⊎_elim, ℕ, ◌+◌, ◌-◌, ◌^◌, ◌<◌, ◌≤◌, min, List, [], ◌∷◌, ◌++◌, length, get_or, take, drop, Option, Some, None, refl, sym, ◌∙◌, ap, subst, arith, length-take, length-drop}
use Rattle.std.specs.Int.{from_le_bytes, w32}
use Rattle.std.proofs.lemmas.List.{take-append-drop, take-append-le, take_at, drop-append-le, get_or_append_left, get_or-take}
use Rattle.std.proofs.lemmas.Bool.{cases_eq}
use Rattle.vbm_ports.specs.Files.{Files, bytes_of, Reads}
use Rattle.vbm_ports.specs.Crash.{Only}
use Rattle.vbm_ports.specs.Disk.{DiskState, Passes, OnlyReads}
use Rattle.vbm_ports.proofs.States.{Passes-weaker, Passes-trans}
use Rattle.vbm_intent.specs.declared.change.Change.{Change}
use Rattle.vbm_intent.specs.Changes.{log_name, changed, Fits}
use Rattle.vbm_intent.specs.Record.{body_length, IsPlan, IsRecord}
use Rattle.vbm_intent.specs.Log.{IsOpen, IsShut, IsPending, Redo, closed, pending, redo_has_one_result, IsBadLog, SameBesidesLog, RedoesTo, IsLikeRedone, recorded_size}
use Rattle.vbm_intent.specs.Partly.{IsPartly, behind_gate, IsGateTorn}
use Rattle.vbm_intent.proofs.Applying.{all_arrive}
use Rattle.vbm_intent.proofs.Commits.{shut_closed, besides_sym, changed_besides, fits_besides, log_kept}
use Rattle.vbm_intent.proofs.Records.{record_long, record_with_rest, record_without_rest}
use Rattle.vbm_intent.specs.declared.limits.TheConstants.{LONGEST_BODY}

open_shape : (file : Option (List ℕ)) → IsOpen file → file ≡ Some (165 ∷ behind_gate file)
open_shape None opens = absurd opens
open_shape (Some []) opens = absurd opens
open_shape (Some (g ∷ behind)) opens = ap (λ (k : ℕ). Some (k ∷ behind)) opens.0

opens_long : (file : Option (List ℕ)) → IsOpen file → 16 ≤ length (bytes_of file)
opens_long None opens = absurd opens
opens_long (Some []) opens = absurd opens
opens_long (Some (g ∷ behind)) opens = let h = opens.1 in omega arith

gate_opens : (file : Option (List ℕ)) → 16 ≤ length (bytes_of file) → get_or (bytes_of file) 0 0 ≡ 165 → IsOpen file
gate_opens None long gate = absurd (omega arith)
gate_opens (Some []) long gate = absurd (omega arith)
gate_opens (Some (g ∷ behind)) long gate = (gate, omega arith)

word_in_front : (xs ys : List ℕ) → 12 ≤ length xs → take 4 (drop 8 (xs ++ ys)) ≡ take 4 (drop 8 xs)
word_in_front xs ys long = ap (λ (l : List ℕ). take 4 l) (drop-append-le 8 xs ys (omega arith)) ∙ take-append-le 4 (drop 8 xs) ys (omega (arith, length-drop 8 xs))

-- a buffer into which the log was read from its begin on
module _ (file : Option (List ℕ)) (old new : List ℕ) (n : ℕ) (reads : Reads (bytes_of file) 0 old new n)
    (long : 16 ≤ length (bytes_of file)) (room : 16 ≤ length old) where
  abbrev front : List ℕ
  front = take (length old) (bytes_of file)

  abbrev behind : List ℕ
  behind = drop (length old) (bytes_of file)

  front_long : 16 ≤ length front
  front_long = omega (arith, length-take (length old) (bytes_of file))

  all : bytes_of file ≡ front ++ behind
  all = sym (take-append-drop (length old) (bytes_of file))

  same_word : take 4 (drop 8 new) ≡ take 4 (drop 8 (bytes_of file))
  same_word = ap (λ (l : List ℕ). take 4 (drop 8 l)) reads.buffer ∙ word_in_front front (drop n old) (omega (arith, front_long))
      ∙ sym (ap (λ (l : List ℕ). take 4 (drop 8 l)) all ∙ word_in_front front behind (omega (arith, front_long)))

  same_gate : get_or new 0 0 ≡ get_or (bytes_of file) 0 0
  same_gate = ap (λ (l : List ℕ). get_or l 0 0) reads.buffer
      ∙ get_or_append_left front (drop n old) 0 0 (omega (arith, front_long)) ∙ get_or-take (length old) (bytes_of file) 0 0 (omega arith)

  -- what the head of an open log tells
  pub head_tells : get_or new 0 0 ≡ 165 → IsOpen file × (min (from_le_bytes w32 (take 4 (drop 8 new))) LONGEST_BODY ≡ recorded_size file)
  head_tells gate = (gate_opens file long (sym same_gate ∙ gate), ap (λ (l : List ℕ). min (from_le_bytes w32 l) LONGEST_BODY) same_word)

  text_is : take (n - 8) (drop 8 new) ≡ drop 8 front
  text_is = ap (λ (l : List ℕ). take (n - 8) (drop 8 l)) reads.buffer
      ∙ ap (λ (l : List ℕ). take (n - 8) l) (drop-append-le 8 front (drop n old) (omega (arith, front_long)))
      ∙ take_at (drop 8 front) (drop n old) (n - 8) (omega (arith, reads.count, length-drop 8 front))

  whole : drop 8 (bytes_of file) ≡ drop 8 front ++ behind
  whole = ap (λ (l : List ℕ). drop 8 l) all ∙ drop-append-le 8 front behind (omega (arith, front_long))

  same_size : body_length (drop 8 (bytes_of file)) ≡ body_length (drop 8 front)
  same_size = ap (λ (l : List ℕ). from_le_bytes w32 (take 4 l)) whole
      ∙ ap (λ (l : List ℕ). from_le_bytes w32 l) (take-append-le 4 (drop 8 front) behind (omega (arith, front_long, length-drop 8 front)))

  -- a record in the buffer is one in the log, and the other way round where the buffer has room
  pub text_in_log : (cs : List Change) → IsRecord (take (n - 8) (drop 8 new)) cs → IsRecord (drop 8 (bytes_of file)) cs
  text_in_log cs is = subst (λ l. IsRecord l cs) (sym whole) (record_with_rest (drop 8 front) behind cs (subst (λ l. IsRecord l cs) text_is is))

  pub log_in_text : (cs : List Change) → 16 + recorded_size file ≤ length old → IsRecord (drop 8 (bytes_of file)) cs → IsRecord (take (n - 8) (drop 8 new)) cs
  log_in_text cs fits is =
      let size = is.size in
      let within : 8 + body_length (drop 8 front) ≤ length (drop 8 front) =
      omega (arith, same_size, record_long (drop 8 (bytes_of file)) cs is, length-drop 8 (bytes_of file), length-drop 8 front, length-take (length old) (bytes_of file)) in
      subst (λ l. IsRecord l cs) (sym text_is) (record_without_rest (drop 8 front) behind within cs (subst (λ l. IsRecord l cs) whole is))

-- the old files, whatever redo makes of them
still_like : (files image : Files) → image ≡ files → IsLikeRedone files image
still_like files image is = record {
  good = λ result redo. record { result = result; redo = subst (λ f. Redo f result) (sym is) redo; same = λ name other. refl };
  bad = λ bad. is;
}

-- what redo makes of the old files, once it has a result
like : (files result : Files) → Redo files result → (IsBadLog files → ⊥) → (image : Files) → RedoesTo result image → IsLikeRedone files image
like files result redo good image to = record {
  good = λ other again. subst (λ f. RedoesTo f image) (redo_has_one_result files result other redo again) to;
  bad = λ bad. absurd (good bad);
}

-- the disk is only read, and goes on
module _ (tells : Type 0) (told : tells) (old mid : DiskState) (reads : OnlyReads tells old mid) where
  pub reads_time : Only old.files old.may_leave → Passes old mid (IsLikeRedone old.files)
  reads_time only = Passes-weaker old mid _ _ reads.time (λ image left. still_like old.files image (only image left))

  pub after_reads : (next : DiskState) → (Only mid.files mid.may_leave → Passes mid next (IsLikeRedone mid.files))
      → Only old.files old.may_leave → Passes old next (IsLikeRedone old.files)
  after_reads next rest only =
      Passes-trans old mid next _ _ _ (reads_time only) (rest (λ image left. only image (reads.images image left) ∙ sym (reads.files told)))
      (λ image had. had) (λ image is. subst (λ f. IsLikeRedone f image) (reads.files told) is)

  pub pending_after : (cs : List Change) → IsPending old.files cs → IsPending mid.files cs
  pending_after cs is = subst (λ f. IsPending f cs) (sym (reads.files told)) is

  -- the gate is not open
  module _ (shut : IsOpen (old.files log_name) → ⊥) where
    still_shut : IsOpen (mid.files log_name) → ⊥
    still_shut opens = shut (subst (λ f. IsOpen (f log_name)) (reads.files told) opens)

    pub start_time : (next : DiskState) → (Only mid.files mid.may_leave → Passes mid next (RedoesTo mid.files))
        → Only old.files old.may_leave → Passes old next (IsLikeRedone old.files)
    start_time next rest only = after_reads next
        (λ settled. Passes-weaker mid next _ _ (rest settled) (like mid.files mid.files (closed still_shut refl) (λ bad. still_shut bad.opens))) only

    pub started : (new : Files) → SameBesidesLog new mid.files → RedoesTo new old.files
    started new same = record { result = old.files; redo = closed shut refl; same = λ name other. sym (same name other ∙ ap (λ (f : Files). f name) (reads.files told)) }

  -- the record is read
  module _ (before buf : List ℕ) (n : ℕ) (got : Reads (bytes_of (old.files log_name)) 0 before buf n) (opens : IsOpen (old.files log_name))
      (room : 16 + recorded_size (old.files log_name) ≤ length before) where
    pub log_pending : (cs : List Change) → IsRecord (take (n - 8) (drop 8 buf)) cs → Fits cs mid.files → IsPending mid.files cs
    log_pending cs is fits = pending_after cs (record {
      opens = opens;
      recorded = text_in_log (old.files log_name) before buf n got (opens_long (old.files log_name) opens) (omega arith) cs is;
      fits = subst (λ f. Fits cs f) (reads.files told) fits;
    })

    pub log_bad : ((cs : List Change) → IsRecord (take (n - 8) (drop 8 buf)) cs → Fits cs mid.files → ⊥) → IsBadLog old.files
    log_bad none = record {
      opens = opens;
      none = λ cs is. none cs (log_in_text (old.files log_name) before buf n got (opens_long (old.files log_name) opens) (omega arith) cs room is.recorded)
          (pending_after cs is).fits;
    }

-- the changes of the record are made, and the gate closes
module _ (cs : List Change) (plan : IsPlan cs) (files : Files) (is : IsPending files cs) where
  all_made : (image : Files) → RedoesTo (changed cs files) image → IsLikeRedone files image
  all_made = like files (changed cs files) (pending cs is refl) (λ bad. bad.none cs is)

  still_pending : (image : Files) → image log_name ≡ files log_name → Fits cs image → SameBesidesLog (changed cs image) (changed cs files) → IsLikeRedone files image
  still_pending image log fits same = all_made image (record {
    result = changed cs image;
    redo = pending cs (record {
      opens = subst IsOpen (sym log) is.opens;
      recorded = subst (λ f. IsRecord (drop 8 (bytes_of f)) cs) (sym log) is.recorded;
      fits = fits;
    }) refl;
    same = same;
  })

  pub redo_phase : (image : Files) → IsPartly cs files image → IsLikeRedone files image
  redo_phase image partly =
      let ends = all_arrive cs files image plan is.fits partly in
      still_pending image (log_kept cs plan files image partly) ends.0 (λ name other. ap (λ (f : Files). f name) ends.1)

  module _ (made : Files) (partly : IsPartly cs files made) (whole : made ≡ changed cs files) where
    made_log : made log_name ≡ Some (165 ∷ behind_gate (files log_name))
    made_log = log_kept cs plan files made partly ∙ open_shape (files log_name) is.opens

    pub made_long : 0 < length (bytes_of (made log_name))
    made_long = subst (λ f. 0 < length (bytes_of f)) (sym made_log) (omega arith)

    pub reclose_phase : (image : Files) → IsGateTorn made image → IsLikeRedone files image
    reclose_phase image torn =
        let ends = all_arrive cs files made plan is.fits partly in
        let log : image log_name ≡ Some (torn.gate ∷ behind_gate (files log_name)) =
        torn.log ∙ ap (λ (f : Option (List ℕ)). Some (torn.gate ∷ behind_gate f)) made_log in
        ⊎_elim
        (λ gate.
        still_pending image (log ∙ ap (λ (k : ℕ). Some (k ∷ behind_gate (files log_name))) gate ∙ sym (open_shape (files log_name) is.opens))
        (fits_besides cs plan made image (besides_sym image made torn.others) ends.0)
        (λ name other. changed_besides cs plan image made torn.others name other ∙ ap (λ (f : Files). f name) ends.1))
        (λ shut. all_made image (record {
          result = image;
          redo = closed (shut_closed (image log_name) (subst IsShut (sym log) shut)) refl;
          same = λ name other. torn.others name other ∙ ap (λ (f : Files). f name) whole;
        }))
        (cases_eq torn.gate 165)

    pub redone : (new : Files) → SameBesidesLog new made → RedoesTo new files
    redone new same = record { result = changed cs files; redo = pending cs is refl; same = λ name other. sym (same name other ∙ ap (λ (f : Files). f name) whole) }
