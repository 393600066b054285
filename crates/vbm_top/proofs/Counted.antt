-- What a status tells of the counts of faults.
use Rattle.std.proofs.Common.{◌≡◌, ◌≤◌, ℕ, arith, Bool, true, false, List, refl, sym, ap, subst, ◌∙◌, inl, inr}
use Rattle.std.specs.Prelude.{if◌then◌else◌}
use Rattle.std.specs.List.{list_any}
use Rattle.vbm_ports.specs.Counts.{Rose, IsCounted}
use Rattle.vbm_ports.specs.Disk.{DiskState}
use Rattle.vbm_ports.specs.Files.{Files}
use Rattle.vbm_world.specs.declared.command.Command.{Command}
use Rattle.vbm_world.specs.declared.command.Answer.{Answer}
use Rattle.vbm_world.specs.declared.command.Answer.TheVariants.{Id}
use Rattle.vbm_world.specs.Texts.{line_of}
use Rattle.vbm_lines.specs.Lines.{Line}
use Rattle.vbm_registry.specs.declared.fault.BadStore.TheVariants.{BadLog}
use Rattle.vbm_world.specs.Loose.{is_refused}
use Rattle.vbm_engine.specs.declared.engine.Engine.{Engine}
use Rattle.vbm_top.specs.declared.status.Status.{Status}
use Rattle.vbm_top.specs.declared.status.Status.TheVariants.{Done, Refused, NoForm, DiskFault, InputFault, OutputFault, NoMemory, StoreRefused, InputTooLong}
use Rattle.vbm_top.specs.Statuses.{code_of, status_in, is_disk_fault, AreCounted}
use Rattle.vbm_top.specs.Streams.{Stream, Streams}
use Rattle.vbm_top.specs.Run.{there_line, store_line, status_of, IsSilent, Says, Closes, PeekEnds, InitEnds, made, there, refused, silent, CommandEnds, faulty, answered, unclosed, undone, unopened, broken}
use Rattle.vbm_top.specs.Script.{Comes, read, cut_off, too_long, unwritten, no_memory, LinesEnd, closed, ScriptEnds, ran, unanswered}
use Rattle.vbm_top.specs.Script as script

-- ---- the disk

-- a call before that did not fail counts for nothing
pub counted_before : (old mid new : ℕ) (failed : Bool) → mid ≡ old → IsCounted failed mid new → IsCounted failed old new
counted_before old mid new failed same counted = subst (λ n. IsCounted failed n new) same counted

-- the disk did not fail, and the status is none of its faults
pub not_counted : (old new : ℕ) (status : Status) → is_disk_fault status ≡ false → new ≡ old → IsCounted (is_disk_fault status) old new
not_counted old new status none same = subst (λ failed. IsCounted failed old new) (sym none) same

pub refusal_no_fault : (refused : Bool) → is_disk_fault (if refused then Refused else Done) ≡ false
refusal_no_fault true = refl
refusal_no_fault false = refl

pub answer_no_fault : (a : Answer) → is_disk_fault (status_of a) ≡ false
answer_no_fault a = refusal_no_fault (is_refused a)

-- a line's status is no fault of the disk
pub says_no_fault : (sink : Stream) (line : List ℕ) (wanted status : Status) → is_disk_fault wanted ≡ false → Says sink line wanted status
    → is_disk_fault status ≡ false
says_no_fault sink line wanted status none (inl (inl whole)) = ap is_disk_fault whole.0 ∙ none
says_no_fault sink line wanted status none (inl (inr part)) = ap is_disk_fault part.0
says_no_fault sink line wanted status none (inr lost) = ap is_disk_fault lost.0

pub closes_counted : (tells : Type 0) (e : Engine) (first : ℕ) (old new : DiskState) (wanted status : Status) → is_disk_fault wanted ≡ false
    → old.faults ≡ first → Closes tells e old new wanted status → IsCounted (is_disk_fault status) first new.faults
closes_counted tells e first old new wanted status none same (inl kept) =
    not_counted first new.faults status (ap is_disk_fault kept.0 ∙ none) (kept.2 ∙ same)
closes_counted tells e first old new wanted status none same (inr fails) =
    subst (λ failed. IsCounted failed first new.faults) (sym (ap is_disk_fault fails.0))
    (counted_before first old.faults new.faults true same fails.1)

-- ---- the streams

abbrev Same : Stream → Type 0
Same stream = IsCounted false stream.was.faults stream.now.faults

refusal_counts : (s : Streams) (refused : Bool) → Same s.source → Same s.sink → AreCounted s (if refused then Refused else Done)
refusal_counts s true source sink = (source, sink)
refusal_counts s false source sink = (source, sink)

says_counts : (s : Streams) (line : List ℕ) (wanted status : Status) → Same s.source → (Same s.sink → AreCounted s wanted)
    → Says s.sink line wanted status → AreCounted s status
says_counts s line wanted status source calm (inl (inl whole)) = subst (AreCounted s) (sym whole.0) (calm whole.1.1)
says_counts s line wanted status source calm (inl (inr part)) = subst (AreCounted s) (sym part.0) (source, part.1.1)
says_counts s line wanted status source calm (inr lost) = subst (AreCounted s) (sym lost.0) (source, lost.1.1)

module _ (s : Streams) (status : Status) (source : Same s.source) where
  -- a fault of the disk tells nothing of the streams
  disk_counts : status ≡ DiskFault → AreCounted s status
  disk_counts three = subst (AreCounted s) (sym three) tt

  memory_counts : status ≡ NoMemory → IsSilent s.sink → AreCounted s status
  memory_counts six none = subst (AreCounted s) (sym six) (source, none.1)

  answer_counts : (a : Answer) → Says s.sink (line_of a) (status_of a) status → AreCounted s status
  answer_counts a = says_counts s (line_of a) (status_of a) status source (refusal_counts s (is_refused a) source)

  pub store_counts : (line : List ℕ) → Says s.sink line StoreRefused status → AreCounted s status
  store_counts line = says_counts s line StoreRefused status source (λ sink. (source, sink))

  pub peek_counts : (a : Answer) → PeekEnds a s.sink status → AreCounted s status
  peek_counts a (inl writes) = answer_counts a (inl writes)
  peek_counts a (inr (inl three, none)) = disk_counts three
  peek_counts a (inr (inr six, none)) = memory_counts six none

  pub init_counts : {tells : Type 0} {seed : List ℕ} {old new : DiskState} → InitEnds tells seed old new s.sink status → AreCounted s status
  init_counts {seed = seed} (made is says) = says_counts s (line_of (Id seed)) Done status source (λ sink. (source, sink)) says
  init_counts (there is writes) = store_counts there_line (inl writes)
  init_counts (refused is says) = store_counts (store_line BadLog) says
  init_counts (silent (inl three, none)) = disk_counts three
  init_counts (silent (inr six, none)) = memory_counts six none

  pub command_counts : {tells : Type 0} {command : Command} {files : Files} {new : DiskState} → CommandEnds tells command files new s.sink status
      → AreCounted s status
  command_counts (faulty bad is says) = store_counts (store_line bad) says
  command_counts (answered a is says) = answer_counts a says
  command_counts (unclosed a wanted is says three) = disk_counts three
  command_counts (undone is none six) = memory_counts six none
  command_counts (unopened is none six) = memory_counts six none
  command_counts (broken none three) = disk_counts three

comes_counts : (most : ℕ) (s : Streams) (lines : List Line) (answers out : List Answer) (status : Status) → Comes most s lines answers out status
    → AreCounted s status
comes_counts most s lines answers out status (read took all said is) =
    subst (AreCounted s) (sym is) (refusal_counts s (list_any is_refused answers) took.1 said.1)
comes_counts most s lines answers out status (cut_off took all said four) = subst (AreCounted s) (sym four) (took.1, said.1)
comes_counts most s lines answers out status (too_long took all said eight) = subst (AreCounted s) (sym eight) (took.1, said.1)
comes_counts most s lines answers out status (unwritten last took all part five) = subst (AreCounted s) (sym five) (took.1, part.1)
comes_counts most s lines answers out status (no_memory lost few took all said six) = subst (AreCounted s) (sym six) (took.1, said.1)

lines_counts : (tells : Type 0) (most : ℕ) (files : Files) (new : DiskState) (s : Streams) (out : List Answer) (status : Status)
    → LinesEnd tells most files new s out status → AreCounted s status
lines_counts tells most files new s out status (closed lines answers is comes) = comes_counts most s lines answers out status comes
lines_counts tells most files new s out status (script.unclosed lines answers wanted is comes three) = subst (AreCounted s) (sym three) tt
lines_counts tells most files new s out status (script.broken lines line is took said three) = subst (AreCounted s) (sym three) tt

pub script_counts : (tells : Type 0) (most : ℕ) (old new : DiskState) (s : Streams) (out : List Answer) (status : Status)
    → ScriptEnds tells most old new s out status → AreCounted s status
script_counts tells most old new s out status (ran ends) = lines_counts tells most old.files new s out status ends
script_counts tells most old new s out status (script.faulty bad is unread none says) = store_counts s status unread.1 (store_line bad) says
script_counts tells most old new s out status (script.unopened is unread none silence three) = disk_counts s status unread.1 three
script_counts tells most old new s out status (unanswered is unread none silence six) = memory_counts s status unread.1 six silence

-- ---- what the counts say

module _ (old new : ℕ) (status : Status) (counted : IsCounted (is_disk_fault status) old new) where
  pub disk_grows : old ≤ new
  disk_grows = grows (is_disk_fault status) counted
    where
      grows : (failed : Bool) → IsCounted failed old new → old ≤ new
      grows true counted = counted.0
      grows false same = omega arith

  pub disk_rose : status ≡ DiskFault → Rose old new
  disk_rose three = (subst (λ failed. IsCounted failed old new) (ap is_disk_fault three) counted).1

  pub disk_same : (status ≡ DiskFault → ⊥) → new ≡ old
  disk_same other = subst (λ failed. IsCounted failed old new) (no_fault status other) counted
    where
      no_fault : (status : Status) → (status ≡ DiskFault → ⊥) → is_disk_fault status ≡ false
      no_fault DiskFault other = absurd (other refl)
      no_fault status other = refl

module _ (s : Streams) where
  pub input_rose : (status : Status) → status ≡ InputFault → AreCounted s status → Rose s.source.was.faults s.source.now.faults
  input_rose status four counted = (subst (AreCounted s) four counted).0.1

  pub output_rose : (status : Status) → status ≡ OutputFault → AreCounted s status → Rose s.sink.was.faults s.sink.now.faults
  output_rose status five counted = (subst (AreCounted s) five counted).1.1

  pub input_same : (status : Status) → (status ≡ DiskFault → ⊥) → (status ≡ InputFault → ⊥) → AreCounted s status
      → s.source.now.faults ≡ s.source.was.faults
  input_same DiskFault no_disk other counted = absurd (no_disk refl)
  input_same InputFault no_disk other counted = absurd (other refl)
  input_same status no_disk other counted = counted.0

  pub output_same : (status : Status) → (status ≡ DiskFault → ⊥) → (status ≡ OutputFault → ⊥) → AreCounted s status
      → s.sink.now.faults ≡ s.sink.was.faults
  output_same DiskFault no_disk other counted = absurd (no_disk refl)
  output_same OutputFault no_disk other counted = absurd (other refl)
  output_same status no_disk other counted = counted.1

-- ---- the number of a status

coded : (status : Status) → status_in (code_of status) ≡ status
unfolding status_in
coded Done = refl
coded Refused = refl
coded NoForm = refl
coded DiskFault = refl
coded InputFault = refl
coded OutputFault = refl
coded NoMemory = refl
coded StoreRefused = refl
coded InputTooLong = refl

pub decoded : (code : ℕ) (status : Status) → code ≡ code_of status → status_in code ≡ status
decoded code status is = ap status_in is ∙ coded status

pub of_code : (code : ℕ) (status other : Status) → code ≡ code_of status → code ≡ code_of other → status ≡ other
of_code code status other is also = sym (decoded code status is) ∙ decoded code other also
