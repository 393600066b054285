-- The log `intent.vbm`: a gate byte, 7 unread bytes, and a record. Redo applies the record of a log whose gate is open.
use Rattle.std.specs.Prelude.{◌≡◌, ◌≢◌, ℕ, ◌<◌, ◌≤◌, min, List, [], ◌∷◌, ◌++◌, length, take, drop, replicate, Option, Some, None}
use Rattle.std.proofs.Common.{sym, ◌∙◌, ap}
use Rattle.vbm_ports.specs.Files.{Files, bytes_of, put}
use Rattle.vbm_intent.specs.declared.change.Change.{Change}
use Rattle.vbm_intent.specs.Changes.{log_name, changed, Fits}
use Rattle.vbm_intent.specs.Record.{body_length, IsRecord}
use Rattle.vbm_intent.specs.declared.limits.TheConstants.{LONGEST_BODY, LOG_HEAD_LEN}

-- The gate is open: the log has LOG_HEAD_LEN bytes at least, and the first is 0xA5.
abbrev pub IsOpen : Option (List ℕ) → Type 0
IsOpen None = ⊥
IsOpen (Some []) = ⊥
IsOpen (Some (gate ∷ behind)) = (gate ≡ 165) × (LOG_HEAD_LEN ≤ length (gate ∷ behind))

-- The log is shut: it has a gate byte other than 0xA5. So a write behind that byte, torn or not, leaves it closed.
abbrev pub IsShut : Option (List ℕ) → Type 0
IsShut None = ⊥
IsShut (Some []) = ⊥
IsShut (Some (gate ∷ behind)) = gate ≢ 165

-- in every image the log is shut
abbrev pub IsShutInAll : (Files → Type 0) → Type 0
IsShutInAll images = (image : Files) → images image → IsShut (image log_name)

-- the length of the record's body as an open log tells it, at most LONGEST_BODY
abbrev pub recorded_size : Option (List ℕ) → ℕ
recorded_size file = min (body_length (drop 8 (bytes_of file))) LONGEST_BODY

-- the seven bytes behind the gate that nothing reads; those that are missing are 0
abbrev pub unread_of : Option (List ℕ) → List ℕ
unread_of file = take 7 (drop 1 (bytes_of file) ++ replicate 7 0)

-- the gate is open, and these changes are the record's and fit the files
pub record IsPending (files : Files) (cs : List Change) : Type 0 where
  pub opens : IsOpen (files log_name)
  pub recorded : IsRecord (drop 8 (bytes_of (files log_name))) cs
  pub fits : Fits cs files

-- What redo makes of files. Where the gate is open and no changes are pending, the log is bad and redo has no result.
pub data Redo (files result : Files) : Type 0 where
  closed : (IsOpen (files log_name) → ⊥) → result ≡ files → Redo files result
  pending : (cs : List Change) → IsPending files cs → result ≡ changed cs files → Redo files result

pub redo_has_one_result : (files a b : Files) → Redo files a → Redo files b → a ≡ b
redo_has_one_result files a b (closed shut is) (closed shut' is') = is ∙ sym is'
redo_has_one_result files a b (closed shut is) (pending cs p is') = absurd (shut p.opens)
redo_has_one_result files a b (pending cs p is) (closed shut is') = absurd (shut p.opens)
redo_has_one_result files a b (pending cs p is) (pending ds q is') =
    let same : cs ≡ ds = cc (p.recorded.changes, q.recorded.changes) in
    is ∙ ap (λ (l : List Change). changed l files) same ∙ sym is'

-- the gate is open, and no changes are pending
pub record IsBadLog (files : Files) : Type 0 where
  pub opens : IsOpen (files log_name)
  pub none : (cs : List Change) → IsPending files cs → ⊥

-- The log's file once it is started: as before, or, where it was absent or shorter than LOG_HEAD_LEN bytes, with a first byte of 0.
pub data IsStarted (old new : Option (List ℕ)) : Type 0 where
  kept : LOG_HEAD_LEN ≤ length (bytes_of old) → new ≡ old → IsStarted old new
  begun : length (bytes_of old) < LOG_HEAD_LEN → new ≡ Some (put 0 (0 ∷ []) (bytes_of old)) → IsStarted old new

-- The log's file after a commit: the gate byte is 0, and the seven bytes behind it are as before; those that were missing are 0.
abbrev pub IsCommitted : Option (List ℕ) → Option (List ℕ) → Type 0
IsCommitted old new = take 8 (bytes_of new) ≡ 0 ∷ unread_of old

-- every file but the log is the same
abbrev pub SameBesidesLog : Files → Files → Type 0
SameBesidesLog a b = (name : List ℕ) → name ≢ log_name → a name ≡ b name

-- after redo, and but for the log, an image is these files
pub record RedoesTo (files image : Files) : Type 0 where
  pub result : Files
  pub redo : Redo image result
  pub same : SameBesidesLog result files

-- Inside a commit: after redo, and but for the log, an image is an image of the start, or the files of the start with all changes.
pub data IsBeforeOrAfter (cs : List Change) (files : Files) (images : Files → Type 0) (image : Files) : Type 0 where
  before : (start : Files) → images start → RedoesTo start image → IsBeforeOrAfter cs files images image
  done : RedoesTo (changed cs files) image → IsBeforeOrAfter cs files images image

-- Inside redo: after redo, and but for the log, an image is what redo gives of the files; where their log is bad, it is those files.
pub record IsLikeRedone (files image : Files) : Type 0 where
  pub good : (result : Files) → Redo files result → RedoesTo result image
  pub bad : IsBadLog files → image ≡ files
