use Rattle.std.proofs.Common.{◌≡◌, map, take}
use Rattle.vbm_world.specs.Snapshots.{slot_after}
use Rattle.vbm_world.specs.Seen.{seen}
use Rattle.vbm_world.proofs.deleting.slots_after.Given as goal

abbrev pub invariant-loop-slot : goal.invariant-loop-slot
invariant-loop-slot l = l.slots ≡ map (slot_after (seen l.world) l.gone l.after) (take l.slot-index l.slot-items)
