-- Which files a library names.
use Rattle.std.specs.Prelude.{◌&&◌, ◌||◌, not, Bool}
use Rattle.std.specs.List.{list_any}
use Rattle.std.specs.Str.{bytes_eq}
use Rattle.vbm_ports.specs.Names.{is_medium_name}
use Rattle.vbm_named.specs.Names.{Name, has_name}
use Rattle.vbm_registry.specs.declared.library.Inner.{Inner}
use Rattle.vbm_registry.specs.declared.library.Library.{Library}
use Rattle.vbm_registry.specs.Library.{medium_entry_name}
use Rattle.vbm_standing.specs.ChainDisks.{inner_file}
use Rattle.vbm_standing.specs.Meaning.{is_made}

abbrev pub is_inner_of : Library → Name → Bool
is_inner_of l name = list_any (λ (x : Inner). bytes_eq (inner_file l.seed x.number) name) l.inners

-- the images of media, and the inner ones
abbrev pub is_listed : Library → Name → Bool
is_listed l name = has_name medium_entry_name name l.media || is_inner_of l name

-- the files of the shelf: those with a medium's name that are no medium and are not being made
abbrev pub is_on_shelf : Library → Name → Bool
is_on_shelf l name = is_medium_name name && not (has_name medium_entry_name name l.media) && not (is_made l.making name)
