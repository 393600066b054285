-- What making and removing a machine ask of the library.
use Rattle.std.specs.Prelude.{◌≡◌, ◌<◌, ◌||◌, nat_lt, Bool, false, [], length, Some, None}
use Rattle.vbm_machines.specs.declared.Machine.{Machine}
use Rattle.vbm_named.specs.Names.{Name, find_by, has_name}
use Rattle.vbm_world.specs.declared.command.VmLine.{VmLine}
use Rattle.vbm_world.specs.declared.limits.TheConstants.{MACHINE_LIMIT}
use Rattle.vbm_registry.specs.declared.library.Library.{Library}
use Rattle.vbm_registry.specs.Grammar.{machine_entry_name}

-- a machine without slots and snapshots, off
abbrev pub new_entry : Name → Machine
new_entry name = record { name = name; running = false; slots = []; snapshots = []; current = None }

-- no machine has the name, and there is room
pub record CanCreateVm (l : Library) (name : Name) : Type 0 where
  pub new : has_name machine_entry_name name l.machines ≡ false
  pub room : length l.machines < MACHINE_LIMIT

-- a machine has slots or snapshots
abbrev pub has_parts : Machine → Bool
has_parts m = nat_lt 0 (length m.slots) || nat_lt 0 (length m.snapshots)

-- there is the machine, off and without slots and snapshots
pub record CanUnregisterVm (l : Library) (name : Name) : Type 0 where
  pub machine : Machine
  pub found : find_by machine_entry_name name l.machines ≡ Some machine
  pub slots : machine.slots ≡ []
  pub snapshots : machine.snapshots ≡ []
  pub off : machine.running ≡ false

-- a machine in a list of machines
abbrev pub line_of : Machine → VmLine
line_of m = record { name = m.name; running = m.running }
