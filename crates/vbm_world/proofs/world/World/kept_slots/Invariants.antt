use Rattle.std.proofs.Common.{◌≡◌, map, take}
use Rattle.vbm_world.specs.Snapshots.{kept_slot}
use Rattle.vbm_world.specs.Seen.{seen}
use Rattle.vbm_world.proofs.world.World.kept_slots.Given as goal

abbrev pub invariant-loop-slot : goal.invariant-loop-slot
invariant-loop-slot l = l.kept ≡ map (kept_slot (seen l.self)) (take l.slot-index l.slots)
