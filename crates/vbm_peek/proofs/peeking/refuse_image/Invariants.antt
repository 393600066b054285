use Rattle.std.proofs.Common.{◌≡◌, ℕ, List, Some, take, map}
use Rattle.vbm_ports.specs.Disk.{OnlyReads}
use Rattle.vbm_peek.specs.Peek.{all_there}
use Rattle.vbm_peek.proofs.peeking.refuse_image.Given as goal

abbrev pub invariant-loop-name : goal.invariant-loop-name
invariant-loop-name g l = record {
  there : g.D.Disk.tells → (fs : List (List ℕ)) × (all_there (map (g.D.Disk.state l.initial.disk).files (take l.name-index l.above)) ≡ Some fs);
  faults : (g.D.Disk.state l.disk).faults ≡ (g.D.Disk.state l.initial.disk).faults;
  reads : OnlyReads g.D.Disk.tells (g.D.Disk.state l.initial.disk) (g.D.Disk.state l.disk);
}
