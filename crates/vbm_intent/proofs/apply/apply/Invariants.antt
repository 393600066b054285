use Rattle.std.proofs.Common.{◌≡◌, ◌++◌, List, length, ◌≤◌}
use Rattle.vbm_intent.specs.declared.change.Change.{Change}
use Rattle.vbm_intent.proofs.Applying.{Applying}
use Rattle.vbm_intent.proofs.apply.apply.Given as goal

abbrev pub invariant-loop-piece : goal.invariant-loop-piece
invariant-loop-piece g l = record {
  made : List Change;
  rest : l.fn.changes ≡ made ++ l.left;
  told : g.D.Disk.tells → Applying l.fn.changes made (g.D.Disk.state l.fn.disk) (g.D.Disk.state l.disk);
  faults : (g.D.Disk.state l.fn.disk).faults ≤ (g.D.Disk.state l.disk).faults;
  no_fault : (g.D.Disk.state l.disk).faults ≡ (g.D.Disk.state l.fn.disk).faults;
}

abbrev pub decreases-loop-piece : goal.decreases-loop-piece
decreases-loop-piece g l = length l.left
