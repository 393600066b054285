-- What another mode of a medium asks of the library.
use Rattle.std.specs.Prelude.{IsTrue, IsFalse}
use Rattle.std.specs.List.{list_any}
use Rattle.vbm_named.specs.Names.{Name, has_name}
use Rattle.vbm_registry.specs.declared.library.Library.{Library}
use Rattle.vbm_registry.specs.Entries.{is_using}
use Rattle.vbm_registry.specs.Library.{medium_entry_name}
use Rattle.vbm_registry.specs.Named.{named}

-- there is the medium, and no machine or snapshot has it
pub record CanSetMode (l : Library) (name : Name) : Type 0 where
  pub there : IsTrue (has_name medium_entry_name name l.media)
  pub free : IsFalse (list_any (is_using name) (named l).machines)
