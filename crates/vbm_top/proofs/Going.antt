-- A run of a script on its way.
use Rattle.std.proofs.Common.{◌≡◌, ◌≤◌, ℕ, Bool, true, false, List, [], ◌∷◌, ◌++◌, length, Option, Some, None, refl, sym, ap, subst, ◌∙◌, arith, inl, inr, append-nil, append_assoc, length-append}
use Rattle.std.specs.Prelude.{option_to_list, if◌then◌else◌, ◌||◌}
use Rattle.std.specs.List.{list_any}
use Rattle.std.proofs.lemmas.List.Folds.{list_any-append}
use Rattle.vbm_ports.specs.Files.{Files}
use Rattle.vbm_ports.specs.Disk.{DiskState, Passes}
use Rattle.vbm_ports.proofs.States.{Passes-refl, Passes-trans}
use Rattle.vbm_world.specs.declared.command.Answer.{Answer}
use Rattle.vbm_world.specs.World.{World, off}
use Rattle.vbm_world.specs.Step.{step_of}
use Rattle.vbm_world.specs.Texts.{line_of}
use Rattle.vbm_lines.specs.Lines.{Line, read_lines, lines_done}
use Rattle.vbm_world.specs.Loose.{Unsettled, all_settled, is_refused}
use Rattle.vbm_served.specs.Runs.{Untied, Does, Runs, skips, refuses, steps}
use Rattle.vbm_lines.specs.Inputs.{AreFirst, AreRead}
use Rattle.vbm_lines.specs.Reader.{Reader, new_reader, IsAt}
use Rattle.vbm_lines.proofs.Readers.{starts_at, are_read}
use Rattle.vbm_engine.specs.declared.engine.Engine.{Engine}
use Rattle.vbm_engine.specs.Serves.{serves, IsReady}
use Rattle.vbm_store.specs.Serves.{StandsLoosely}
use Rattle.vbm_top.specs.declared.serving.Turned.TheVariants.{Open}
use Rattle.vbm_top.specs.declared.status.Status.{Status}
use Rattle.vbm_top.specs.declared.status.Status.TheVariants.{Done, Refused, OutputFault, NoMemory}
use Rattle.vbm_top.specs.Statuses.{is_disk_fault, ends_run, worse}
use Rattle.vbm_top.specs.Streams.{Moment, Stream, Streams, streams}
use Rattle.vbm_top.specs.Run.{status_of}
use Rattle.vbm_top.specs.Script.{texts_of, status_of_all, AreSaid, IsReached}
use Rattle.vbm_top.specs.Turns.{IsPast, TurnsLine, IsAtLine}
use Rattle.vbm_world.proofs.Numbers.{same_next}
use Rattle.vbm_top.proofs.Counted.{refusal_no_fault}

-- ---- one line more

pub runs_more : (w : World) (u : Unsettled) (lines : List Line) (answers : List Answer) (last : World) (left : Unsettled) (line : Line)
    (answer : Option Answer) (next : World) (left2 : Unsettled) → Runs Untied w u lines answers last left
    → Does Untied last left line answer next left2
    → Runs Untied w u (lines ++ line ∷ []) (answers ++ option_to_list answer) next left2
runs_more w u [] answers last left line answer next left2 r d = (
  answer,
  next,
  left2,
  [],
  subst (λ v. Does Untied w v line answer next left2) r.2 (subst (λ v. Does Untied v left line answer next left2) r.1 d),
  ap (λ xs. xs ++ option_to_list answer) r.0 ∙ sym (append-nil (option_to_list answer)),
  (refl, refl, refl),
)
runs_more w u (first ∷ lines) answers last left line answer next left2 r d = (
  r.0,
  r.1,
  r.2,
  r.3 ++ option_to_list answer,
  r.4,
  ap (λ xs. xs ++ option_to_list answer) r.5 ∙ append_assoc (option_to_list r.0) r.3 (option_to_list answer),
  runs_more r.1 r.2 lines r.3 last left line answer next left2 r.6 d,
)

pub texts_more : (answers more : List Answer) → texts_of (answers ++ more) ≡ texts_of answers ++ texts_of more
texts_more [] more = refl
texts_more (a ∷ answers) more =
    ap (λ xs. line_of a ++ xs) (texts_more answers more) ∙ sym (append_assoc (line_of a) (texts_of answers) (texts_of more))

text_of_one : (a : Answer) → texts_of (a ∷ []) ≡ line_of a
text_of_one a = append-nil (line_of a)

abbrev status_if : Bool → Status
status_if refused = if refused then Refused else Done

one_refusal : (refused : Bool) → status_if refused ≡ status_if (refused || false)
one_refusal true = refl
one_refusal false = refl

status_of_one : (a : Answer) → status_of a ≡ status_of_all (a ∷ [])
status_of_one a = one_refusal (is_refused a)

goes_on_if : (refused : Bool) → ends_run (status_if refused) ≡ false
goes_on_if true = refl
goes_on_if false = refl

-- a line whose answer was written is not the last
pub answer_goes_on : (a : Answer) → ends_run (status_of a) ≡ false
answer_goes_on a = goes_on_if (is_refused a)

pub no_disk_fault_of_all : (answers : List Answer) → is_disk_fault (status_of_all answers) ≡ false
no_disk_fault_of_all answers = refusal_no_fault (list_any is_refused answers)

-- such a status does not end a run, and this one does
pub last_or_not : {P : Type 0} (said is : Status) → ends_run said ≡ false → said ≡ is → ends_run is ≡ true → P
last_or_not said is goes same ends = let both : true ≡ false = sym ends ∙ sym (ap ends_run same) ∙ goes in absurd cc

one_status : (a b : Bool) → status_if (a || b) ≡ worse (status_if a) (status_if b)
one_status true true = refl
one_status true false = refl
one_status false true = refl
one_status false false = refl

pub status_more : (answers more : List Answer) → status_of_all (answers ++ more) ≡ worse (status_of_all answers) (status_of_all more)
status_more answers more =
    ap status_if (list_any-append is_refused answers more) ∙ one_status (list_any is_refused answers) (list_any is_refused more)

fewer : (all lines more : List Line) → AreFirst all (lines ++ more) → AreFirst all lines
fewer all lines more first = (more ++ first.0, first.1 ∙ append_assoc lines more first.0)

pub fewer_read : (most : ℕ) (input rest : List ℕ) (lines more : List Line) → AreRead most input rest (lines ++ more)
    → AreRead most input rest lines
fewer_read most input rest lines more read = record {
  taken = read.taken;
  split = read.split;
  bound = read.bound;
  of_input = fewer (lines_done most input) lines more read.of_input;
  of_taken = fewer (read_lines read.taken) lines more read.of_taken;
}

-- a reader of so many bytes
pub were_read : (most : ℕ) (r : Reader) (input rest : List ℕ) (lines : List Line) → r.most ≡ most → IsAt r input rest lines
    → AreRead most input rest lines
were_read most r input rest lines is at = subst (λ m. AreRead m input rest lines) is (are_read r input rest lines at)

-- ---- images of a run

module _ {given : Type 0} {most : ℕ} {world : World} {input : List ℕ} (lines : List Line) (answers : List Answer) (last : World) (left : Unsettled)
    (runs : Runs Untied world all_settled lines answers last left) (n : ℕ) (out : length answers ≤ n) (image : Files) where
  -- of the world that was reached
  pub stands_reached : (given → AreFirst (lines_done most input) lines) → StandsLoosely (off last) left image
      → IsReached given most world input n image
  stands_reached first stands = record {
    lines = lines;
    answers = answers;
    last = last;
    left = left;
    runs = runs;
    out = out;
    is = inl (stands, first);
  }

  -- of the next line
  pub line_reached : (line : Line) → (given → AreFirst (lines_done most input) (lines ++ line ∷ [])) → IsAtLine last line left image
      → IsReached given most world input n image
  line_reached line first (inl stands) = stands_reached (λ g. fewer (lines_done most input) lines (line ∷ []) (first g)) stands
  line_reached line first (inr step) = record {
    lines = lines;
    answers = answers;
    last = last;
    left = left;
    runs = runs;
    out = out;
    is = inr (line, step.0, step.1, step.2, first);
  }

-- more answers were written
pub longer_reached : {given : Type 0} {most : ℕ} {world : World} {input : List ℕ} (n m : ℕ) (image : Files) → n ≤ m
    → IsReached given most world input n image
    → IsReached given most world input m image
longer_reached n m image more is = record {
  lines = is.lines;
  answers = is.answers;
  last = is.last;
  left = is.left;
  runs = is.runs;
  out = omega (arith, is.out, more);
  is = is.is;
}

-- an image of the world after a line
pub after_line : (w : World) (u : Unsettled) (line : Line) (answer : Option Answer) (next : World) (left : Unsettled) (image : Files)
    → Does Untied w u line answer next left → StandsLoosely (off next) left image → IsAtLine w line u image
after_line w u line answer next left image (skips is none same kept) stands =
    inl (subst (λ v. StandsLoosely (off w) v image) kept (subst (λ v. StandsLoosely (off v) left image) same stands))
after_line w u line answer next left image (refuses is none same kept) stands =
    inl (subst (λ v. StandsLoosely (off w) v image) kept (subst (λ v. StandsLoosely (off v) left image) same stands))
after_line w u line answer next left image (steps c number is tied given to kept) stands =
    let after : next ≡ (step_of w c 0).1 = to ∙ same_next w c number 0 in
    inr (c, is, inr (subst (λ v. StandsLoosely (off (step_of w c 0).1) v image) kept (subst (λ v. StandsLoosely (off v) left image) after stands)))

-- ---- where a run is

-- later moments of the streams
abbrev pub later : Streams → Moment → Moment → Streams
later s source sink = record {
  source = record { tells = s.source.tells; was = s.source.was; now = source };
  sink = record { tells = s.sink.tells; was = s.sink.was; now = sink };
}

-- a stream from now on
abbrev pub onwards : Stream → Moment → Stream
onwards stream moment = record { tells = stream.tells; was = stream.now; now = moment }

-- On the disk: the world that the lines led to, ready, and no image ahead of the answers.
pub record IsOnDisk (given : Type 0) (most : ℕ) (input : List ℕ) (first : DiskState) (world : World) (lines : List Line) (answers : List Answer)
    (now : DiskState) (e : Engine) : Type 0 where
  pub left : Unsettled
  pub runs : Runs Untied world all_settled lines answers (serves e now.files) left
  pub ready : IsReady e now left
  pub passes : Passes first now (IsReached given most world input (length answers))

-- These lines were read, and these answers written, and no device failed.
pub record IsGoing (tells : Type 0) (most : ℕ) (s : Streams) (first : DiskState) (world : World) (reader : Reader) (now : DiskState) (e : Engine)
    (status : Status) : Type 0 where
  pub lines : List Line
  pub answers : List Answer
  pub at : s.source.tells → IsAt reader s.source.was.bytes s.source.now.bytes lines
  pub no_fault : s.source.now.faults ≡ s.source.was.faults
  pub is_most : reader.most ≡ most
  pub out : AreSaid s.sink answers
  pub is_status : status ≡ status_of_all answers
  pub disk : now.faults ≡ first.faults
  pub on_disk : tells → IsOnDisk s.source.tells most s.source.was.bytes first world lines answers now e

module _ {tells : Type 0} {most : ℕ} where
  pub starts : (given told : Type 0) (source sink : Moment) (s : DiskState) (e : Engine) → (tells → (u : Unsettled) → IsReady e s u)
      → IsGoing tells most (streams (record { tells = given; was = source; now = source }) (record { tells = told; was = sink; now = sink })) s
      (serves e s.files) (new_reader most) s e Done
  starts given told source sink s e ready = record {
    lines = [];
    answers = [];
    at = λ g. starts_at most source.bytes;
    no_fault = refl;
    is_most = refl;
    out = (λ t. sym (append-nil sink.bytes), refl);
    is_status = refl;
    disk = refl;
    on_disk = λ t. record { left = all_settled; runs = (refl, refl, refl); ready = ready t all_settled; passes = Passes-refl s _ };
  }

  module _ {io : Streams} {first : DiskState} {world : World} {reader reader2 : Reader} {rest : List ℕ} {s : DiskState} {e : Engine}
      {status : Status} (line : Line) (g : IsGoing tells most io first world reader s e status)
      (asks : io.source.tells → IsAt reader2 io.source.was.bytes rest (g.lines ++ line ∷ [])) (is_most : reader2.most ≡ most) where
    next_lines : io.source.tells → AreFirst (lines_done most io.source.was.bytes) (g.lines ++ line ∷ [])
    next_lines t = (were_read most reader2 io.source.was.bytes rest (g.lines ++ line ∷ []) is_most (asks t)).of_input

    -- the images so far and those of the line
    pub line_passes : (s2 : DiskState) (t : tells) → ((u : Unsettled) → IsReady e s u → Passes s s2 (IsAtLine (serves e s.files) line u))
        → Passes first s2 (IsReached io.source.tells most world io.source.was.bytes (length g.answers))
    line_passes s2 t passes =
        let d = g.on_disk t in
        Passes-trans first s s2 _ _ _ d.passes (passes d.left d.ready) (λ image is. is)
        (λ image is. line_reached g.lines g.answers (serves e s.files) d.left d.runs (length g.answers) (omega arith) image line next_lines is)

    -- the line is done, and its answer, if it has one, was written
    pub goes_on : {faults : ℕ} (s2 : DiskState) (next : Engine) (sink : Moment) (answer : Option Answer) → (tells → IsPast s s2 e next line answer)
        → faults ≡ io.source.now.faults → AreSaid (onwards io.sink sink) (option_to_list answer)
        → (said : Status) → said ≡ status_of_all (option_to_list answer) → s2.faults ≡ s.faults
        → (tells → (u : Unsettled) → IsReady e s u → Passes s s2 (IsAtLine (serves e s.files) line u))
        → IsGoing tells most (later io (record { bytes = rest; faults = faults }) sink) first world reader2 s2 next (worse status said)
    goes_on s2 next sink answer past no_fault says said is disk passes = record {
      lines = g.lines ++ line ∷ [];
      answers = g.answers ++ option_to_list answer;
      at = asks;
      no_fault = no_fault ∙ g.no_fault;
      is_most = is_most;
      out = (
        λ t. says.0 t ∙ ap (λ xs. xs ++ texts_of (option_to_list answer)) (g.out.0 t)
            ∙ append_assoc io.sink.was.bytes (texts_of g.answers) (texts_of (option_to_list answer))
            ∙ ap (λ xs. io.sink.was.bytes ++ xs) (sym (texts_more g.answers (option_to_list answer))),
        says.1 ∙ g.out.1,
      );
      is_status = ap (λ n. worse n said) g.is_status ∙ ap (λ n. worse (status_of_all g.answers) n) is
          ∙ sym (status_more g.answers (option_to_list answer));
      disk = disk ∙ g.disk;
      on_disk = λ t.
          let d = g.on_disk t in
          let does = (past t).does d.left d.ready in
          record {
            left = does.0;
            runs = runs_more world all_settled g.lines g.answers (serves e s.files) d.left line answer (serves next s2.files) does.0 d.runs does.1;
            ready = does.2;
            passes = Passes-trans first s s2 _ _ _ d.passes (passes t d.left d.ready)
                (λ image is. longer_reached (length g.answers) (length (g.answers ++ option_to_list answer)) image more is)
                (λ image is.
                line_reached g.lines g.answers (serves e s.files) d.left d.runs (length (g.answers ++ option_to_list answer)) more image line
                next_lines is);
          };
    }
      where
        more : length g.answers ≤ length (g.answers ++ option_to_list answer)
        more = omega (arith, length-append g.answers (option_to_list answer))

    -- the line is done, and its answer's line was written whole
    pub line_goes_on : {faults : ℕ} (s2 : DiskState) (next : Engine) (sink : Moment) → faults ≡ io.source.now.faults
        → (said : Status) → ends_run said ≡ false → TurnsLine tells s s2 e line (Open next said) (onwards io.sink sink) → s2.faults ≡ s.faults
        → (tells → (u : Unsettled) → IsReady e s u → Passes s s2 (IsAtLine (serves e s.files) line u))
        → IsGoing tells most (later io (record { bytes = rest; faults = faults }) sink) first world reader2 s2 next (worse status said)
    line_goes_on s2 next sink no_fault said goes (inl (None, says, past)) disk passes =
        goes_on s2 next sink None past no_fault (λ t. says.1.0 t ∙ sym (append-nil io.sink.now.bytes), says.1.1) said says.0 disk passes
    line_goes_on s2 next sink no_fault said goes (inl (Some a, inl (inl whole), past)) disk passes =
        goes_on s2 next sink (Some a) past no_fault
        (λ t. whole.1.0 t ∙ ap (λ xs. io.sink.now.bytes ++ xs) (sym (text_of_one a)), whole.1.1) said (whole.0 ∙ status_of_one a) disk passes
    line_goes_on s2 next sink no_fault said goes (inl (Some a, inl (inr part), past)) disk passes =
        last_or_not said OutputFault goes part.0 refl
    line_goes_on s2 next sink no_fault said goes (inl (Some a, inr none, past)) disk passes = last_or_not said NoMemory goes none.0 refl
    line_goes_on s2 next sink no_fault said goes (inr none) disk passes = last_or_not said NoMemory goes none.0 refl
