-- A library by names to which a medium, a machine or an inner image came, or from which it went.
use Rattle.std.specs.Prelude.{ℕ, not, ◌||◌, Bool, List, [], ◌∷◌, ◌++◌, filter, None, IsFalse}
use Rattle.std.specs.List.{list_any}
use Rattle.std.specs.Str.{bytes_eq}
use Rattle.vbm_modes.specs.declared.Mode.{Mode}
use Rattle.vbm_named.specs.Names.{Name, put_by, without, change_by}
use Rattle.vbm_registry.specs.declared.media.Medium.{Medium}
use Rattle.vbm_registry.specs.Library.{medium_entry_name}
use Rattle.vbm_registry.specs.Named.{OfMedium, NamedInner, NamedSlot, NamedSnapshot, NamedMachine, NamedLibrary, named_machine_name}
use Rattle.vbm_registry.specs.Chains.{is_image}

abbrev pub medium_put : NamedLibrary → Medium → NamedLibrary
medium_put l m = record l { media = put_by medium_entry_name m l.media }

abbrev pub medium_gone : NamedLibrary → Name → NamedLibrary
medium_gone l name = record l { media = without medium_entry_name name l.media }

-- with another mode of the medium of a name
abbrev pub library_with_mode : NamedLibrary → Name → Mode → NamedLibrary
library_with_mode l name mode = record l { media = change_by medium_entry_name name (λ (m : Medium). record m { mode = mode }) l.media }

-- a machine without slots and snapshots
abbrev pub fresh_machine : Name → NamedMachine
fresh_machine name = record { name = name; slots = []; snapshots = []; current = None }

abbrev pub machine_put : NamedLibrary → NamedMachine → NamedLibrary
machine_put l m = record l { machines = put_by named_machine_name m l.machines }

abbrev pub machine_gone : NamedLibrary → Name → NamedLibrary
machine_gone l name = record l { machines = without named_machine_name name l.machines }

-- with a machine in the place of the one of its name
abbrev pub machine_renewed : NamedLibrary → NamedMachine → NamedLibrary
machine_renewed l m = record l { machines = change_by named_machine_name m.name (λ _. m) l.machines }

-- a new inner image comes behind all others, since its number is the highest
abbrev pub inner_put : NamedLibrary → NamedInner → NamedLibrary
inner_put l x = record l { inners = l.inners ++ x ∷ [] }

abbrev pub inners_left : (gone : ℕ → Bool) → List NamedInner → List NamedInner
inners_left gone inners = filter (λ (x : NamedInner). not (gone x.number)) inners

-- ---- use

-- a slot of the machine or of a snapshot has the medium
abbrev pub is_using : Name → NamedMachine → Bool
is_using name m =
    list_any (λ (s : NamedSlot). bytes_eq s.medium name) m.slots
    || list_any (λ (s : NamedSnapshot). list_any (λ (t : NamedSlot). bytes_eq t.medium name) s.slots) m.snapshots

-- No slot has the medium, and no inner image stands on it.
pub record IsUnused (l : NamedLibrary) (name : Name) : Type 0 where
  pub slots : IsFalse (list_any (is_using name) l.machines)
  pub parents : IsFalse (list_any (λ (x : NamedInner). is_image x.parent (OfMedium name)) l.inners)
