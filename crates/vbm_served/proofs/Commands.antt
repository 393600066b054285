-- Words are one command at most.
use Rattle.std.proofs.Common.{◌≡◌}
use Rattle.vbm_lines.specs.Lines.{Words}
use Rattle.vbm_world.specs.declared.command.Command.{Command}
use Rattle.vbm_world.specs.Texts.{IsForm}
use Rattle.vbm_world.proofs.Spelling.{one_form}
use Rattle.vbm_served.specs.Served.{IsCommand}

-- the words of a command are its form
pub form_of : (words : Words) (c : Command) → IsCommand words c → IsForm words c
form_of words c command = record { is = command.is; spelled = command.served.spelled }

pub one_command : (words : Words) (c d : Command) → IsCommand words c → IsCommand words d → c ≡ d
one_command words c d is_c is_d = one_form words c d (form_of words c is_c) (form_of words d is_d)
