-- The sectors of files in which guests' unsettled writes are: those of the images that machines' slots use.
use Rattle.std.specs.Prelude.{ℕ, ◌&&◌, Bool, List}
use Rattle.std.specs.List.{list_any}
use Rattle.std.specs.Str.{bytes_eq}
use Rattle.vbm_named.specs.Names.{Name}
use Rattle.vbm_world.specs.Loose.{Unsettled}
use Rattle.vbm_registry.specs.Named.{NamedSlot, NamedMachine, NamedLibrary}
use Rattle.vbm_standing.specs.ChainDisks.{image_file}
use Rattle.vbm_standing.specs.Edits.{image_held}

-- the file that a slot uses
abbrev pub slot_file : (seed : List ℕ) → NamedSlot → Name
slot_file seed s = image_file seed (image_held s.medium s.held)

-- a file is unsettled in a sector where a slot that uses it is
abbrev pub unsettled_in : NamedLibrary → Unsettled → Name → ℕ → Bool
unsettled_in l u file i =
    list_any (λ (m : NamedMachine). list_any (λ (s : NamedSlot). bytes_eq (slot_file l.seed s) file && u m.name s.port i) m.slots) l.machines
