-- A run of the machine through lines, and the sectors that it leaves unsettled.
use Rattle.std.specs.Prelude.{◌≡◌, ℕ, List, [], ◌∷◌, ◌++◌, Option, Some, None, option_to_list, IsTrue, IsFalse}
use Rattle.vbm_world.specs.declared.command.Command.{Command}
use Rattle.vbm_world.specs.declared.command.Answer.{Answer}
use Rattle.vbm_world.specs.declared.command.Answer.TheVariants.{Refused}
use Rattle.vbm_world.specs.declared.command.Refusal.TheVariants.{BadLine}
use Rattle.vbm_world.specs.World.{World}
use Rattle.vbm_world.specs.Step.{step_of}
use Rattle.vbm_world.specs.Loose.{Unsettled, unsettled_after}
use Rattle.vbm_lines.specs.Lines.{Line, Short, TooLong, words_in, says_nothing, is_skipped}
use Rattle.vbm_served.specs.Served.{IsCommand, IsNoCommand}

-- a line is this command
abbrev pub IsCommandLine : Line → Command → Type 0
IsCommandLine (Short line) command = IsFalse (says_nothing (words_in line)) × IsCommand (words_in line) command
IsCommandLine TooLong command = ⊥

-- a line is answered, and is no command
abbrev pub IsBadLine : Line → Type 0
IsBadLine (Short line) = IsFalse (says_nothing (words_in line)) × IsNoCommand (words_in line)
IsBadLine TooLong = Unit {0}

-- what a command's number has to be in a world
abbrev pub Tie : Type 1
Tie = World → Command → ℕ → Type 0

-- no number is tied to anything
abbrev pub Untied : Tie
Untied w command number = Unit {0}

-- What a line does in a world with these sectors unsettled: its answer, if it gets one, the next world, and what is unsettled then.
pub data Does (Tied : Tie) (w : World) (u : Unsettled) (line : Line) (answer : Option Answer) (next : World) (left : Unsettled) : Type 0 where
  skips : IsTrue (is_skipped line) → answer ≡ None → next ≡ w → left ≡ u → Does Tied w u line answer next left
  refuses : IsBadLine line → answer ≡ Some (Refused BadLine) → next ≡ w → left ≡ u → Does Tied w u line answer next left
  steps : (command : Command) (number : ℕ) → IsCommandLine line command → Tied w command number
      → answer ≡ Some (step_of w command number).0 → next ≡ (step_of w command number).1 → left ≡ unsettled_after u w command
      → Does Tied w u line answer next left

-- A run from a world through lines, with the answers in their order, to a world. The numbers of `usage` answers are the run's.
abbrev pub Runs : Tie → World → Unsettled → List Line → List Answer → World → Unsettled → Type 0
Runs Tied w u [] answers last left = (answers ≡ []) × (last ≡ w) × (left ≡ u)
Runs Tied w u (line ∷ lines) answers last left =
    (answer : Option Answer) × (next : World) × (mid : Unsettled) × (rest : List Answer)
    × Does Tied w u line answer next mid × (answers ≡ option_to_list answer ++ rest) × Runs Tied next mid lines rest last left
