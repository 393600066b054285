use Rattle.std.proofs.Common.{◌≡◌, List, ◌++◌, length, All}
use Rattle.vbm_ports.specs.Disk.{OnlyReads}
use Rattle.vbm_intent.specs.declared.change.Change.{Change}
use Rattle.vbm_intent.specs.Changes.{IsAllowed, Fits}
use Rattle.vbm_intent.proofs.check.fit.Given as goal

abbrev pub invariant-loop-piece : goal.invariant-loop-piece
invariant-loop-piece g l = record {
  done : List Change;
  rest : l.changes ≡ done ++ l.left;
  count : length done ≡ l.made;
  allowed : All IsAllowed l.left;
  fits : g.D.Disk.tells → Fits done (g.D.Disk.state l.fn.disk).files;
  reads : OnlyReads g.D.Disk.tells (g.D.Disk.state l.fn.disk) (g.D.Disk.state l.disk);
  no_fault : (g.D.Disk.state l.disk).faults ≡ (g.D.Disk.state l.fn.disk).faults;
}

abbrev pub decreases-loop-piece : goal.decreases-loop-piece
decreases-loop-piece g l = length l.left
