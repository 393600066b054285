-- What a line comes to.
use Rattle.std.proofs.Common.{◌≡◌, ℕ, false, List, None, Some, refl, ap, subst, inl, inr}
use Rattle.vbm_ports.specs.Disk.{DiskState}
use Rattle.vbm_world.specs.declared.command.Command.{Command}
use Rattle.vbm_world.specs.declared.command.Answer.{Answer}
use Rattle.vbm_world.specs.declared.command.Answer.TheVariants.{Refused}
use Rattle.vbm_world.specs.declared.command.Refusal.TheVariants.{BadLine}
use Rattle.vbm_world.specs.Outcomes.{Outcome}
use Rattle.vbm_world.specs.Texts.{line_of}
use Rattle.vbm_lines.specs.Lines.{Line}
use Rattle.vbm_world.specs.Loose.{Unsettled, unsettled_after}
use Rattle.vbm_served.specs.Runs.{refuses, steps, IsCommandLine, IsBadLine}
use Rattle.vbm_lines.specs.declared.reader.Next.{Next}
use Rattle.vbm_lines.specs.Reader.{Reader, GivesLine}
use Rattle.vbm_engine.specs.declared.engine.Engine.{Engine}
use Rattle.vbm_engine.specs.Serves.{serves, FitsDisk, IsReady}
use Rattle.vbm_engine.specs.Steps.{Advances}
use Rattle.vbm_top.specs.declared.serving.Turned.{Turned}
use Rattle.vbm_top.specs.declared.serving.Turned.TheVariants.{Open, Broken}
use Rattle.vbm_top.specs.declared.status.Status.{Status}
use Rattle.vbm_top.specs.Statuses.{is_disk_fault}
use Rattle.vbm_top.specs.Streams.{Stream}
use Rattle.vbm_top.specs.Run.{status_of, Says}
use Rattle.vbm_top.specs.Turns.{IsPast, TurnsCommand, TurnsLine}
use Rattle.vbm_top.proofs.Counted.{answer_no_fault, says_no_fault}

-- what a line gives, where it is told which
pub gives_as : (next is : Next) (r : Reader) (input rest : List ℕ) (lines : List Line) → next ≡ is → GivesLine next r input rest lines
    → GivesLine is r input rest lines
gives_as next is r input rest lines same gives = subst (λ (n : Next). GivesLine n r input rest lines) same gives

past_command : (old new : DiskState) (e next : Engine) (c : Command) (a : Answer) (line : Line) → IsCommandLine line c
    → Advances old new e next c a → IsPast old new e next line (Some a)
past_command old new e next c a line is by = record {
  does = λ u ready. (
    unsettled_after u (serves e old.files) c,
    steps c by.number is tt (ap (λ (o : Outcome). Some o.0) by.by) (ap (λ (o : Outcome). o.1) by.by) refl,
    by.ready u ready,
  );
}

-- the line of a command
pub command_turns : (tells : Type 0) (old new : DiskState) (e : Engine) (c : Command) (turned : Turned) (sink : Stream) (line : Line)
    → IsCommandLine line c → TurnsCommand tells old new e c turned sink → TurnsLine tells old new e line turned sink
command_turns tells old new e c (Open next status) sink line is (inl done) =
    inl (Some done.0, done.1, λ t. past_command old new e next c done.0 line is (done.2 t))
command_turns tells old new e c (Open next status) sink line is (inr none) = inr none
command_turns tells old new e c Broken sink line is silence = (c, is, silence)

-- a line that is no command
pub bad_turns : (tells : Type 0) (s : DiskState) (e : Engine) (status : Status) (sink : Stream) (line : Line) → IsBadLine line
    → Says sink (line_of (Refused BadLine)) (status_of (Refused BadLine)) status → TurnsLine tells s s e line (Open e status) sink
bad_turns tells s e status sink line is says =
    inl (Some (Refused BadLine), says, λ t. record { does = λ u ready. (u, refuses is refl refl refl, ready) })

-- the status of a command is no fault of the disk
pub command_no_fault : (tells : Type 0) (old new : DiskState) (e next : Engine) (c : Command) (said : Status) (sink : Stream)
    → TurnsCommand tells old new e c (Open next said) sink → is_disk_fault said ≡ false
command_no_fault tells old new e next c said sink (inl done) =
    says_no_fault sink (line_of done.0) (status_of done.0) said (answer_no_fault done.0) done.1
command_no_fault tells old new e next c said sink (inr none) = ap is_disk_fault none.0

module _ (tells : Type 0) (old new : DiskState) (e next : Engine) (line : Line) (said : Status) (sink : Stream) where
  -- the engine that goes on fits the disk
  pub turned_fits : tells → (u : Unsettled) → IsReady e old u → TurnsLine tells old new e line (Open next said) sink → FitsDisk next new
  turned_fits t u ready (inl done) = ((done.2 t).does u ready).2.fits
  turned_fits t u ready (inr none) = (none.2 t).fits

  -- the status of a line is no fault of the disk
  pub line_no_fault : TurnsLine tells old new e line (Open next said) sink → is_disk_fault said ≡ false
  line_no_fault (inl (None, says, past)) = ap is_disk_fault says.0
  line_no_fault (inl (Some a, says, past)) = says_no_fault sink (line_of a) (status_of a) said (answer_no_fault a) says
  line_no_fault (inr none) = ap is_disk_fault none.0
