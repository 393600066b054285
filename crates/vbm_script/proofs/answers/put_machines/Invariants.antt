use Rattle.std.proofs.Common.{◌≡◌, ◌++◌, map, take}
use Rattle.vbm_world.specs.Texts.{spaced, vm_word}
use Rattle.vbm_script.proofs.answers.put_machines.Given as goal

abbrev pub invariant-loop-machine : goal.invariant-loop-machine
invariant-loop-machine l = l.line.items ≡ l.fn.line.items ++ spaced (map vm_word (take l.machine-index l.machines))
