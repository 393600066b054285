use Rattle.std.proofs.Common.{◌≡◌, map, take}
use Rattle.vbm_world.specs.Machines.{unchanged_by}
use Rattle.vbm_world.proofs.machines.all_unchanged_by.Given as goal

abbrev pub invariant-loop-medium : goal.invariant-loop-medium
invariant-loop-medium l = l.copies ≡ map (unchanged_by l.slots) (take l.medium-index l.media)
