use Rattle.std.proofs.Common.{◌≡◌, take}
use Rattle.vbm_named.specs.Names.{change_by}
use Rattle.vbm_world.specs.World.{machine_name}
use Rattle.vbm_world.proofs.world.World.machines_with.Given as goal

abbrev pub invariant-loop-machine : goal.invariant-loop-machine
invariant-loop-machine l = l.machines ≡ change_by machine_name l.new.name (λ _. l.new) (take l.machine-index l.machine-items)
