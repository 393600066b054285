-- The commands that are served so far: a command outside of these has a meaning, and is no command yet.
use Rattle.std.specs.Prelude.{◌≡◌, Bool, true, false, IsTrue}
use Rattle.vbm_lines.specs.Lines.{Words}
use Rattle.vbm_modes.specs.declared.Mode.TheVariants.{Normal, Writethrough, Readonly}
use Rattle.vbm_volume.specs.declared.flat.Variant.TheVariants.{Standard}
use Rattle.vbm_world.specs.declared.command.Command.{Command}
use Rattle.vbm_world.specs.declared.command.Command.TheVariants.{CreateMedium, OpenMedium, CloseMedium, SetMode, SetAutoreset, Compact, Resize, ShowMediumInfo, ListHdds, ListVms, CreateVm, UnregisterVm, Attach, Detach, StartVm, PowerOff}
use Rattle.vbm_world.specs.Texts.{words_of, IsSpelled}

-- a command that makes, changes or runs a machine
abbrev pub is_of_machine : Command → Bool
is_of_machine (CreateVm name) = true
is_of_machine (UnregisterVm vm) = true
is_of_machine (Attach vm port name) = true
is_of_machine (Detach vm port) = true
is_of_machine (StartVm vm) = true
is_of_machine (PowerOff vm) = true
is_of_machine command = false

abbrev pub is_served : Command → Bool
is_served (CreateMedium name size Standard) = true
is_served (OpenMedium name) = true
is_served (CloseMedium name delete) = true
is_served (SetMode name Normal) = true
is_served (SetMode name Writethrough) = true
is_served (SetMode name Readonly) = true
is_served (ShowMediumInfo name) = true
is_served ListHdds = true
is_served ListVms = true
is_served command = is_of_machine command

-- a command that changes a medium
abbrev pub IsChange : Command → Type 0
IsChange (SetMode name mode) = Unit {0}
IsChange (SetAutoreset vm port on) = Unit {0}
IsChange (Compact place) = Unit {0}
IsChange (Resize name mb) = Unit {0}
IsChange command = ⊥

-- a command that a form can spell and that is served
pub record IsServed (command : Command) : Type 0 where
  pub spelled : IsSpelled command
  pub served : IsTrue (is_served command)

-- the command that words are
pub record IsCommand (words : Words) (command : Command) : Type 0 where
  pub is : words ≡ words_of command
  pub served : IsServed command

-- the words are no command
abbrev pub IsNoCommand : Words → Type 0
IsNoCommand words = (command : Command) → IsCommand words command → ⊥
