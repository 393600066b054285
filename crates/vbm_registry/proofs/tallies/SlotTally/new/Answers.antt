use Rattle.std.proofs.Common.{[]}
use Rattle.vbm_registry.proofs.tallies.SlotTally.new.Goals as goal

pub returns : goal.returns
returns c = c.in_ok-add_machines.ensures [] (record { held = c.new.ensures; used = c.new-2.ensures })
