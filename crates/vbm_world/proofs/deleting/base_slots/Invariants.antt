use Rattle.std.proofs.Common.{◌≡◌, take, filter, ◌&&◌}
use Rattle.vbm_world.specs.declared.world.WorldSlot.{WorldSlot}
use Rattle.vbm_world.specs.World.{has_own}
use Rattle.vbm_world.specs.Places.{is_base_of}
use Rattle.vbm_world.specs.Seen.{seen}
use Rattle.vbm_world.proofs.deleting.base_slots.Given as goal

abbrev pub invariant-loop-slot : goal.invariant-loop-slot
invariant-loop-slot l = l.bases ≡ filter (λ (s : WorldSlot). has_own s && is_base_of (seen l.world) l.parent s) (take l.slot-index l.slot-items)
