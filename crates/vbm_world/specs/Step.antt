-- The step of the machine: the answer to a command, and the world after it. All that a case does not name stays.
use Rattle.std.specs.Prelude.{ℕ, ◌*◌, ◌^◌}
use Rattle.vbm_world.specs.declared.command.Command.{Command}
use Rattle.vbm_world.specs.declared.command.Command.TheVariants.{CreateMedium, OpenMedium, CloseMedium, SetMode, SetAutoreset, Compact, Resize, CloneNew, CloneExisting, ImportChain, ShowMediumInfo, Usage, ListHdds, ListVms, CreateVm, UnregisterVm, Attach, Detach, StartVm, PowerOff, Take, Restore, RestoreCurrent, DeleteSnapshot, ListSnapshots, Read, Write, Fill, Flush}
use Rattle.vbm_world.specs.World.{World}
use Rattle.vbm_world.specs.Refusals.{capacity_of}
use Rattle.vbm_world.specs.Outcomes.{Outcome}
use Rattle.vbm_world.specs.Media.{create_medium, open_medium, close_medium, set_mode, show_medium_info, list_hdds}
use Rattle.vbm_world.specs.Machines.{create_vm, unregister_vm, list_vms, start_vm, power_off}
use Rattle.vbm_world.specs.Slots.{attach_medium, detach_medium, set_autoreset}
use Rattle.vbm_world.specs.Guests.{read_sectors, write_sectors, sectors_in, filled, flush}
use Rattle.vbm_world.specs.Snapshots.{take_snapshot, restore_snapshot, restore_current, delete_snapshot, list_snapshots}
use Rattle.vbm_world.specs.Clones.{clone_new, clone_existing, import_chain}
use Rattle.vbm_world.specs.Shapes.{compact, resize, usage}

-- The step. The number is that of a `usage` answer, which is not the machine's to know.
abbrev pub step_of : World → Command → ℕ → Outcome
step_of w (CreateMedium name size variant) number = create_medium w name (capacity_of size) variant
step_of w (OpenMedium name) number = open_medium w name
step_of w (CloseMedium name delete) number = close_medium w name delete
step_of w (SetMode name mode) number = set_mode w name mode
step_of w (SetAutoreset vm port on) number = set_autoreset w vm port on
step_of w (Compact place) number = compact w place
step_of w (Resize name mb) number = resize w name (mb * 2 ^ 20)
step_of w (CloneNew place name) number = clone_new w place name
step_of w (CloneExisting place target) number = clone_existing w place target
step_of w (ImportChain files name) number = import_chain w files name
step_of w (ShowMediumInfo name) number = show_medium_info w name
step_of w (Usage place) number = usage w place number
step_of w ListHdds number = list_hdds w
step_of w ListVms number = list_vms w
step_of w (CreateVm name) number = create_vm w name
step_of w (UnregisterVm vm) number = unregister_vm w vm
step_of w (Attach vm port name) number = attach_medium w vm port name
step_of w (Detach vm port) number = detach_medium w vm port
step_of w (StartVm vm) number = start_vm w vm
step_of w (PowerOff vm) number = power_off w vm
step_of w (Take vm name) number = take_snapshot w vm name
step_of w (Restore vm snapshot) number = restore_snapshot w vm snapshot
step_of w (RestoreCurrent vm) number = restore_current w vm
step_of w (DeleteSnapshot vm snapshot) number = delete_snapshot w vm snapshot
step_of w (ListSnapshots vm) number = list_snapshots w vm
step_of w (Read vm port lba count) number = read_sectors w vm port lba count
step_of w (Write vm port lba bytes) number = write_sectors w vm port lba (sectors_in bytes)
step_of w (Fill vm port lba count byte) number = write_sectors w vm port lba (filled count byte)
step_of w (Flush vm) number = flush w vm
