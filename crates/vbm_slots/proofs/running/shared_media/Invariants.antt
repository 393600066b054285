use Rattle.std.proofs.Common.{◌≡◌, ◌<◌, ◌++◌, map, length}
use Rattle.std.specs.List.{AllByRecursion}
use Rattle.vbm_machines.specs.declared.Slot.{Slot}
use Rattle.vbm_registry.specs.Named.{slot_named, medium_names}
use Rattle.vbm_slots.specs.Running.{shared_media}
use Rattle.vbm_slots.proofs.running.shared_media.Given as goal

abbrev pub invariant-loop-rest : goal.invariant-loop-rest
invariant-loop-rest l = record {
  names : l.names ++ shared_media (map (slot_named (medium_names l.media)) l.rest) ≡ shared_media (map (slot_named (medium_names l.media)) l.slots);
  within : AllByRecursion (λ (s : Slot). s.medium < length l.media) l.rest;
}

abbrev pub decreases-loop-rest : goal.decreases-loop-rest
decreases-loop-rest l = length l.rest
