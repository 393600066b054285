-- How a run of a script ends.
use Rattle.std.proofs.Common.{◌≡◌, ℕ, true, List, [], ◌∷◌, ◌++◌, length, Option, Some, None, Ok, refl, sym, subst, ◌∙◌, arith, inl, inr, append-nil}
use Rattle.std.specs.Prelude.{option_to_list}
use Rattle.vbm_ports.specs.Counts.{IsCounted}
use Rattle.vbm_ports.specs.Files.{Files}
use Rattle.vbm_ports.specs.Disk.{DiskState, Passes, IsCoherent}
use Rattle.vbm_ports.proofs.States.{Passes-trans}
use Rattle.vbm_world.specs.declared.command.Command.{Command}
use Rattle.vbm_world.specs.declared.command.Answer.{Answer}
use Rattle.vbm_world.specs.World.{World, off}
use Rattle.vbm_world.specs.Texts.{line_of}
use Rattle.vbm_lines.specs.Lines.{Line, Short, TooLong, words_in}
use Rattle.vbm_world.specs.Loose.{Unsettled, all_settled}
use Rattle.vbm_served.specs.Runs.{Untied, Runs, IsCommandLine}
use Rattle.vbm_served.proofs.Commands.{one_command}
use Rattle.vbm_standing.specs.Stands.{Stands}
use Rattle.vbm_lines.specs.Inputs.{AreRead, IsAllRead, IsCutOff, IsTooLong}
use Rattle.vbm_lines.specs.Reader.{Reader, IsAt}
use Rattle.vbm_engine.specs.declared.engine.Engine.{Engine}
use Rattle.vbm_engine.specs.Serves.{serves, IsSoundEngine, IsReady}
use Rattle.vbm_store.specs.Serves.{StandsLoosely}
use Rattle.vbm_engine.specs.Steps.{IsInCommand, Stays}
use Rattle.vbm_engine.proofs.Serving.{ready_stands, before_step}
use Rattle.vbm_top.specs.declared.status.Status.{Status}
use Rattle.vbm_top.specs.declared.status.Status.TheVariants.{Done, DiskFault, InputFault, NoMemory, InputTooLong}
use Rattle.vbm_top.specs.Statuses.{ends_run}
use Rattle.vbm_top.specs.Streams.{Moment, Streams}
use Rattle.vbm_top.specs.Run.{status_of, IsSilent, LeavesServed, Closes, BreaksOff}
use Rattle.vbm_top.specs.Script.{Comes, read, cut_off, too_long, unwritten, no_memory, LinesEnd, closed, unclosed, broken, IsReached, RunsLines, texts_of}
use Rattle.vbm_top.specs.declared.serving.Turned.TheVariants.{Open}
use Rattle.vbm_top.specs.Turns.{IsPast, IsAtLine, TurnsLine}
use Rattle.vbm_top.proofs.Counted.{counted_before}
use Rattle.vbm_top.proofs.Going.{runs_more, answer_goes_on, last_or_not, after_line, stands_reached, line_reached, fewer_read, were_read, later, onwards, IsGoing}

-- ---- the close

-- where a run is when it comes to its end
pub record IsLast (world : World) (lines : List Line) (answers : List Answer) (s : DiskState) (e : Engine) : Type 0 where
  pub left : Unsettled
  pub runs : Runs Untied world all_settled lines answers (serves e s.files) left
  pub ready : IsReady e s left

module _ {tells : Type 0} {most : ℕ} {files : Files} {world : World} {io : Streams} {s new : DiskState} {e : Engine}
    {lines : List Line} {answers out : List Answer} {wanted status : Status} (stood : tells → Stands files (Ok world))
    (last : tells → IsLast world lines answers s e) (leaves : tells → LeavesServed e s new) (closes : Closes tells e s new wanted status)
    (comes : Comes most io lines answers out wanted) where
  lines_end : LinesEnd tells most files new io out status
  lines_end = elim closes [
    | inl kept ↦ closed lines answers (λ t. (
      world,
      stood t,
      record {
        last = serves e s.files;
        left = (last t).left;
        runs = (last t).runs;
        stands = (kept.1 t).stands;
        settled = (kept.1 t).settled;
      },
    ))
        (subst (Comes most io lines answers out) (sym kept.0) comes)
    | inr fails ↦ unclosed lines answers wanted (λ t. (
      world,
      stood t,
      record {
        last = serves e s.files;
        left = (last t).left;
        runs = (last t).runs;
        images = leaves t (last t).left (last t).ready;
      },
    )) comes fails.0
  ]

  -- The close is over; its images are of the run.
  pub closes_run : {first : DiskState} → (tells → Passes first s (IsReached io.source.tells most world io.source.was.bytes (length out)))
      → ((t : tells) (image : Files) → StandsLoosely (off (serves e s.files)) (last t).left image
      → IsReached io.source.tells most world io.source.was.bytes (length out) image)
      → (tells → (u : Unsettled) → IsReady e s u → Passes s new (StandsLoosely (off (serves e s.files)) u))
      → RunsLines tells most files world first new io status
  closes_run {first = first} so_far reached passes = record {
    out = out;
    ends = lines_end;
    any_moment = λ t. Passes-trans first s new _ _ _ (so_far t) (passes t (last t).left (last t).ready) (λ image is. is) (reached t);
  }

-- ---- what was read and written

module _ {tells : Type 0} {most : ℕ} {io : Streams} {first : DiskState} {world : World} {reader : Reader} {source : Moment} {s : DiskState}
    {e : Engine} {status : Status} (g : IsGoing tells most io first world reader s e status) where
  module _ {m : ℕ} (same : m ≡ reader.most) where
    pub comes_read : source.faults ≡ io.source.now.faults → (io.source.tells → IsAllRead m io.source.was.bytes source.bytes g.lines)
        → Comes most (later io source io.sink.now) g.lines g.answers g.answers status
    comes_read no_fault asks =
        read (λ n. subst (λ m. IsAllRead m io.source.was.bytes source.bytes g.lines) (same ∙ g.is_most) (asks n), no_fault ∙ g.no_fault) refl g.out
        g.is_status

    pub comes_cut_off : IsCounted true io.source.now.faults source.faults → (io.source.tells → IsCutOff m io.source.was.bytes source.bytes g.lines)
        → Comes most (later io source io.sink.now) g.lines g.answers g.answers InputFault
    comes_cut_off fault asks =
        cut_off (
          λ n. subst (λ m. IsCutOff m io.source.was.bytes source.bytes g.lines) (same ∙ g.is_most) (asks n),
          counted_before _ _ _ true g.no_fault fault,
        ) refl g.out refl

    pub comes_too_long : source.faults ≡ io.source.now.faults → (io.source.tells → IsTooLong m io.source.was.bytes source.bytes g.lines)
        → Comes most (later io source io.sink.now) g.lines g.answers g.answers InputTooLong
    comes_too_long no_fault asks =
        too_long (λ n. subst (λ m. IsTooLong m io.source.was.bytes source.bytes g.lines) (same ∙ g.is_most) (asks n), no_fault ∙ g.no_fault) refl
        g.out refl

  pub comes_no_memory : {sink : Moment} (wanted : Status) → wanted ≡ NoMemory → IsSilent (onwards io.sink sink)
      → source.faults ≡ io.source.now.faults → (io.source.tells → AreRead most io.source.was.bytes source.bytes g.lines)
      → Comes most (later io source sink) g.lines g.answers g.answers wanted
  comes_no_memory wanted six silence no_fault asks =
      no_memory [] (omega arith) (asks, no_fault ∙ g.no_fault) (sym (append-nil g.answers)) (λ t. silence.0 t ∙ g.out.0 t, silence.1 ∙ g.out.1) six

-- ---- the command of a line

same_command : (line : Line) (c d : Command) → IsCommandLine line c → IsCommandLine line d → c ≡ d
same_command (Short bytes) c d is is' = one_command (words_in bytes) c d is.1 is'.1
same_command TooLong c d is is' = absurd is

in_step : (w : World) (line : Line) (u : Unsettled) (command : Command) (image : Files) → IsCommandLine line command → IsAtLine w line u image
    → IsInCommand w command u image
in_step w line u command image is (inl stands) = before_step w command u image stands
in_step w line u command image is (inr step) =
    subst (λ (c : Command). IsInCommand w c u image) (same_command line step.0 command step.1 is) step.2

-- ---- the ends of a run

module _ {tells : Type 0} {most : ℕ} {files : Files} {world : World} {io : Streams} {first : DiskState} {reader : Reader} {s : DiskState} {e : Engine}
    {status : Status} (stood : tells → Stands files (Ok world)) (g : IsGoing tells most io first world reader s e status) where
  -- no more lines come: what was read is `comes`
  pub ends_between : {source : Moment} {new : DiskState} {wanted result : Status} → (tells → LeavesServed e s new)
      → Closes tells e s new wanted result
      → Comes most (later io source io.sink.now) g.lines g.answers g.answers wanted
      → (tells → (u : Unsettled) → IsReady e s u → Passes s new (StandsLoosely (off (serves e s.files)) u))
      → RunsLines tells most files world first new (later io source io.sink.now) result
  ends_between leaves closes comes passes =
      closes_run stood (λ t. record { left = (g.on_disk t).left; runs = (g.on_disk t).runs; ready = (g.on_disk t).ready }) leaves closes comes
      (λ t. (g.on_disk t).passes)
      (λ t image. stands_reached g.lines g.answers (serves e s.files) (g.on_disk t).left (g.on_disk t).runs (length g.answers) (omega arith)
      image (λ n. (were_read most reader io.source.was.bytes io.source.now.bytes g.lines g.is_most (g.at n)).of_input))
      passes

  module _ {reader2 : Reader} {rest : List ℕ} {faults : ℕ} (line : Line) (asks : io.source.tells
      → IsAt reader2 io.source.was.bytes rest (g.lines ++ line ∷ [])) (is_most : reader2.most ≡ most) (no_fault : faults ≡ io.source.now.faults) where
    all_read : io.source.tells → AreRead most io.source.was.bytes rest (g.lines ++ line ∷ [])
    all_read t = were_read most reader2 io.source.was.bytes rest (g.lines ++ line ∷ []) is_most (asks t)

    before_read : io.source.tells → AreRead most io.source.was.bytes rest g.lines
    before_read t = fewer_read most io.source.was.bytes rest g.lines (line ∷ []) (all_read t)

    -- the line was done, and its answer was not written
    pub ends_behind : {s2 new : DiskState} {next : Engine} {sink : Moment} {wanted result : Status} (answer : Option Answer)
        → (tells → Passes first s2 (IsReached io.source.tells most world io.source.was.bytes (length g.answers)))
        → (tells → LeavesServed next s2 new) → Closes tells next s2 new wanted result → (tells → IsPast s s2 e next line answer)
        → Comes most (later io (record { bytes = rest; faults = faults }) sink) (g.lines ++ line ∷ []) (g.answers ++ option_to_list answer)
        g.answers wanted
        → (tells → (u : Unsettled) → IsReady next s2 u → Passes s2 new (StandsLoosely (off (serves next s2.files)) u))
        → RunsLines tells most files world first new (later io (record { bytes = rest; faults = faults }) sink) result
    ends_behind {s2 = s2} {next = next} answer at_line leaves closes past comes passes =
        closes_run stood last leaves closes comes at_line reached passes
      where
        last : tells → IsLast world (g.lines ++ line ∷ []) (g.answers ++ option_to_list answer) s2 next
        last t =
            let d = g.on_disk t in
            let does = (past t).does d.left d.ready in
            record {
              left = does.0;
              runs = runs_more world all_settled g.lines g.answers (serves e s.files) d.left line answer (serves next s2.files) does.0 d.runs does.1;
              ready = does.2;
            }

        reached : (t : tells) (image : Files) → StandsLoosely (off (serves next s2.files)) (last t).left image
            → IsReached io.source.tells most world io.source.was.bytes (length g.answers) image
        reached t image stands =
            let d = g.on_disk t in
            let does = (past t).does d.left d.ready in
            line_reached g.lines g.answers (serves e s.files) d.left d.runs (length g.answers) (omega arith) image line (λ n. (all_read n).of_input)
            (after_line (serves e s.files) d.left line answer (serves next s2.files) does.0 image does.1 stands)

    -- nothing was done for the line
    pub ends_before : {s2 new : DiskState} {next : Engine} {sink : Moment} {wanted result : Status}
        → (tells → Passes first s2 (IsReached io.source.tells most world io.source.was.bytes (length g.answers)))
        → (tells → LeavesServed next s2 new) → Closes tells next s2 new wanted result → (tells → Stays s s2 e next)
        → Comes most (later io (record { bytes = rest; faults = faults }) sink) g.lines g.answers g.answers wanted
        → (tells → (u : Unsettled) → IsReady next s2 u → Passes s2 new (StandsLoosely (off (serves next s2.files)) u))
        → RunsLines tells most files world first new (later io (record { bytes = rest; faults = faults }) sink) result
    ends_before {s2 = s2} {next = next} at_line leaves closes stays comes passes =
        closes_run stood last leaves closes comes at_line reached passes
      where
        last : tells → IsLast world g.lines g.answers s2 next
        last t =
            let d = g.on_disk t in
            record {
              left = d.left;
              runs = subst (λ w. Runs Untied world all_settled g.lines g.answers w d.left) (sym (stays t).same) d.runs;
              ready = (stays t).ready d.left d.ready;
            }

        reached : (t : tells) (image : Files) → StandsLoosely (off (serves next s2.files)) (last t).left image
            → IsReached io.source.tells most world io.source.was.bytes (length g.answers) image
        reached t image stands =
            let d = g.on_disk t in
            stands_reached g.lines g.answers (serves e s.files) d.left d.runs (length g.answers) (omega arith) image
            (λ n. (were_read most reader io.source.was.bytes io.source.now.bytes g.lines g.is_most (g.at n)).of_input)
            (subst (λ w. StandsLoosely (off w) d.left image) (stays t).same stands)

    -- the disk failed in the line's command
    pub breaks : {s2 : DiskState} {sink : Moment} (command : Command) → IsCommandLine line command
        → (tells → Passes first s2 (IsReached io.source.tells most world io.source.was.bytes (length g.answers))) → IsSoundEngine e
        → IsCoherent tells s → IsCoherent tells s2
        → (tells → (u : Unsettled) → IsReady e s u → Passes s s2 (IsAtLine (serves e s.files) line u)) → IsSilent (onwards io.sink sink)
        → RunsLines tells most files world first s2 (later io (record { bytes = rest; faults = faults }) sink) DiskFault
    breaks {s2 = s2} command is at_line sound laws laws2 step silence = record {
      out = g.answers;
      ends = broken g.lines line (λ t. (
        world,
        stood t,
        record {
          last = serves e s.files;
          left = (g.on_disk t).left;
          runs = (g.on_disk t).runs;
          command = command;
          is = is;
          images = images t;
        },
      ))
          (all_read, no_fault ∙ g.no_fault) (λ t. silence.0 t ∙ g.out.0 t, silence.1 ∙ g.out.1) refl;
      any_moment = at_line;
    }
      where
        images : (t : tells) (image : Files) → s2.may_leave image → IsInCommand (serves e s.files) command (g.on_disk t).left image
        images t image may =
            let d = g.on_disk t in
            elim ((step t d.left d.ready).only s.moment image (omega arith) (laws2.counts_now s.moment image (step t d.left d.ready).later may)) [
              | inl was ↦ before_step (serves e s.files) command d.left image (ready_stands e s d.left sound d.ready image (laws.only_now image was))
              | inr now ↦ in_step (serves e s.files) line d.left command image is now
            ]

    -- the line is the last, since the sink failed or there was no memory
    pub stops : {s2 new : DiskState} {next : Engine} {sink : Moment} {said result : Status} → ends_run said ≡ true
        → (tells → Passes first s2 (IsReached io.source.tells most world io.source.was.bytes (length g.answers)))
        → (tells → LeavesServed next s2 new) → Closes tells next s2 new said result
        → TurnsLine tells s s2 e line (Open next said) (onwards io.sink sink)
        → (tells → (u : Unsettled) → IsReady next s2 u → Passes s2 new (StandsLoosely (off (serves next s2.files)) u))
        → RunsLines tells most files world first new (later io (record { bytes = rest; faults = faults }) sink) result
    stops {said = said} last at_line leaves closes (inl (None, says, past)) passes = last_or_not Done said refl (sym says.0) last
    stops {said = said} last at_line leaves closes (inl (Some a, inl (inl whole), past)) passes =
        last_or_not (status_of a) said (answer_goes_on a) (sym whole.0) last
    stops {sink = sink} last at_line leaves closes (inl (Some a, inl (inr part), past)) passes =
        ends_behind (Some a) at_line leaves closes past
        (unwritten a (all_read, no_fault ∙ g.no_fault) refl (breaks_off, counted_before _ _ _ true g.out.1 part.1.1) part.0) passes
      where
        breaks_off : io.sink.tells → BreaksOff (line_of a) (io.sink.was.bytes ++ texts_of g.answers) sink.bytes
        breaks_off t = subst (λ w. BreaksOff (line_of a) w sink.bytes) (g.out.0 t) (part.1.0 t)
    stops last at_line leaves closes (inl (Some a, inr none, past)) passes =
        ends_behind (Some a) at_line leaves closes past
        (no_memory (a ∷ []) (omega arith) (all_read, no_fault ∙ g.no_fault) refl (λ t. none.1.0 t ∙ g.out.0 t, none.1.1 ∙ g.out.1) none.0) passes
    stops {said = said} last at_line leaves closes (inr none) passes =
        ends_before at_line leaves closes none.2 (comes_no_memory g said none.0 none.1 no_fault before_read) passes
