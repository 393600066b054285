use Rattle.std.proofs.Common.{List, ◌++◌, take}
use Rattle.vbm_machines.specs.declared.Slot.{Slot}
use Rattle.vbm_registry.specs.Tallies.{slot_times}
use Rattle.vbm_registry.specs.AtPlaces.{CountsSlots}
use Rattle.vbm_registry.proofs.tallies.SlotTally.add_slots.Given as goal

abbrev pub invariant-loop-i : goal.invariant-loop-i
invariant-loop-i l =
    (before : List Slot) → CountsSlots (slot_times l.initial.self) before → CountsSlots (slot_times l.self) (before ++ take l.i l.slots)
