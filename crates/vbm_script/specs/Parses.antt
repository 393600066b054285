-- What words are parsed to.
use Rattle.std.specs.Prelude.{◌≡◌, ℕ, ◌^◌, ◌<◌, List, [], ◌∷◌, Result, Ok, Err, decimal}
use Rattle.vbm_lines.specs.Lines.{Words}
use Rattle.vbm_world.specs.declared.command.Command.{Command}
use Rattle.vbm_world.specs.declared.command.Size.{Size}
use Rattle.vbm_world.specs.Texts.{IsForm, IsPort, IsCount, size_words, size_number}
use Rattle.vbm_served.specs.Served.{IsCommand}
use Rattle.vbm_script.specs.declared.parsing.ParseFault.{ParseFault}
use Rattle.vbm_script.specs.declared.parsing.ParseFault.TheVariants.{BadLine, NoMemory}

-- What is meant, or that nothing is; memory is wanting only where something is.
abbrev pub Reads : {A : Type 0} → (A → Type 0) → Result A ParseFault → Type 0
Reads {A} Means (Ok a) = Means a
Reads {A} Means (Err BadLine) = (a : A) → Means a → ⊥
Reads {A} Means (Err NoMemory) = (a : A) × Means a

-- the command that the words are
abbrev pub IsParsed : Words → Result Command ParseFault → Type 0
IsParsed words result = Reads (IsCommand words) result

-- the command whose form the words are, served or not
abbrev pub IsFormed : Words → Result Command ParseFault → Type 0
IsFormed words result = Reads (IsForm words) result

-- two words give a size
pub record IsSize (unit number : List ℕ) (size : Size) : Type 0 where
  pub spelled : unit ∷ number ∷ [] ≡ size_words size
  pub fits : size_number size < 2 ^ 64

-- a word spells a port
pub record SpellsPort (word : List ℕ) (port : ℕ) : Type 0 where
  pub spelled : word ≡ decimal port
  pub is_port : IsPort port

-- a word spells a number of sectors to read or fill
pub record SpellsCount (word : List ℕ) (count : ℕ) : Type 0 where
  pub spelled : word ≡ decimal count
  pub is_count : IsCount count
