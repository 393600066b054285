use Rattle.std.proofs.Common.{◌≡◌, length}
use Rattle.vbm_ports.specs.Disk.{OnlyReads}
use Rattle.vbm_intent.proofs.Ordered.{FitSoFar}
use Rattle.vbm_intent.proofs.index.fit_in_order.Given as goal

abbrev pub invariant-loop-entry : goal.invariant-loop-entry
invariant-loop-entry g l = record {
  so_far : FitSoFar g.D.Disk.tells l.body l.index l.rest l.name l.len (g.D.Disk.state l.fn.disk).files;
  reads : OnlyReads g.D.Disk.tells (g.D.Disk.state l.fn.disk) (g.D.Disk.state l.disk);
  no_fault : (g.D.Disk.state l.disk).faults ≡ (g.D.Disk.state l.fn.disk).faults;
}

abbrev pub decreases-loop-entry : goal.decreases-loop-entry
decreases-loop-entry g l = length l.rest
