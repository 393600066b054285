-- A world of the program, as the machine's world: its shelf is a look-up.
use Rattle.std.specs.Prelude.{List, Option}
use Rattle.std.specs.Option.{option_map}
use Rattle.vbm_world.specs.declared.world.World.{World as Shown}
use Rattle.vbm_world.specs.declared.world.ShelfFile.{ShelfFile}
use Rattle.vbm_world.specs.declared.world.Shelved.{Shelved}
use Rattle.vbm_named.specs.Names.{Name, find_by}
use Rattle.vbm_world.specs.World.{World}
use Rattle.vbm_world.specs.declared.command.Answer.{Answer}
use Rattle.vbm_world.specs.Outcomes.{Outcome}

abbrev pub file_name : ShelfFile → Name
file_name f = f.name

abbrev pub content_of : ShelfFile → Shelved
content_of f = f.content

-- what the file of a name holds
abbrev pub on_shelf : List ShelfFile → Name → Option Shelved
on_shelf files name = option_map content_of (find_by file_name name files)

abbrev pub seen : Shown → World
seen w = record { seed = w.seed; next = w.next; inner = w.inner; media = w.media; machines = w.machines; shelf = on_shelf w.shelf }

-- what a step of the program gives, as the machine's outcome
abbrev pub outcome_of : Shown × Answer → Outcome
outcome_of r = (r.1, seen r.0)
