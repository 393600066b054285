-- The names of a library and of its media.
use Rattle.vbm_ports.specs.declared.names.TheConstants.{LIBRARY_NAME}
use Rattle.vbm_named.specs.Names.{Name}
use Rattle.vbm_registry.specs.declared.media.Medium.{Medium}

-- the library's file
abbrev pub library_name : Name
library_name = LIBRARY_NAME.now

abbrev pub medium_entry_name : Medium → Name
medium_entry_name m = m.name
