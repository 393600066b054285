-- How the program goes up a chain of files.
use Rattle.std.specs.Prelude.{if◌then◌else◌, Option, Some, None}
use Rattle.vbm_world.specs.declared.importing.Below.{Below}
use Rattle.vbm_world.specs.declared.world.Shelved.{Shelved}
use Rattle.vbm_world.specs.declared.world.Shelved.TheVariants.{Volume, Link, Bad}
use Rattle.vbm_world.specs.Clones.{is_link_to}

-- what the image over a file has to name, where the file is linked to the one below it
abbrev pub next_below : Below → Shelved → Option Below
next_below below (Link l) =
    if is_link_to below.id below.modify below.capacity l then Some (record { id = l.id; modify = l.modify; capacity = l.capacity }) else None
next_below below (Volume v) = None
next_below below (Bad k) = None
