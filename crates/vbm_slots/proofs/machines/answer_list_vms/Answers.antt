use Rattle.vbm_slots.proofs.MachinesSeen.{lists}
use Rattle.vbm_slots.proofs.machines.answer_list_vms.Goals as goal

pub returns : goal.returns
returns c files = lists c.args.store.now files c.requires.sound c.in_ok-vm_lines.field-0 c.in_ok-vm_lines.ensures
