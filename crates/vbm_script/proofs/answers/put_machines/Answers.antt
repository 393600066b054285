use Rattle.std.proofs.Common.{take, map}
use Rattle.std.proofs.lemmas.List.{map_more}
use Rattle.vbm_world.specs.Texts.{vm_word}
use Rattle.vbm_script.proofs.Spaces.{grow}
use Rattle.vbm_script.proofs.answers.put_machines.Goals as goal

pub loop-machine-preserved : goal.loop-machine-preserved
loop-machine-preserved c =
    let more = map_more vm_word c.args.machines.now c.loop-machine.machine-index c.machine-item.result c.loop-machine-test.true in
    let grown = grow (map vm_word (take c.loop-machine.machine-index c.args.machines.now)) (vm_word c.machine-item.result) c.args.line.now.items in
    cc c.in_ok-put_machine.ensures
