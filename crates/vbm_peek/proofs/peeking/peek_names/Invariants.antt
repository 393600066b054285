use Rattle.std.proofs.Common.{◌≡◌, ◌≤◌, length, take}
use Rattle.vbm_ports.specs.Disk.{OnlyReads}
use Rattle.vbm_peek.specs.Opened.{opened_names, AreOpened, AreOpenedFrom}
use Rattle.vbm_peek.proofs.peeking.peek_names.Given as goal

abbrev pub invariant-loop-i : goal.invariant-loop-i
invariant-loop-i g l = record {
  opened : AreOpened l.opened;
  names : opened_names l.opened ≡ take l.i l.names;
  few : length l.opened.images.items ≤ l.i;
  from : g.D.Disk.tells → AreOpenedFrom (g.D.Disk.state l.initial.disk).files l.opened;
  faults : (g.D.Disk.state l.disk).faults ≡ (g.D.Disk.state l.initial.disk).faults;
  reads : OnlyReads g.D.Disk.tells (g.D.Disk.state l.initial.disk) (g.D.Disk.state l.disk);
}
