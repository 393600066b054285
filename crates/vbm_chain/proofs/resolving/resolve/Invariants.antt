use Rattle.std.proofs.Common.{◌≡◌, ◌+◌, ◌≤◌, length, take}
use Rattle.vbm_ports.specs.Disk.{OnlyReads}
use Rattle.vbm_chain.specs.Resolved.{block_place}
use Rattle.vbm_chain.proofs.resolving.resolve.Given as goal

-- the images above leave the block to the others
abbrev pub invariant-loop-left : goal.invariant-loop-left
invariant-loop-left g l = record {
  within : l.left ≤ length l.chain;
  place : g.D.Disk.tells → block_place (g.D.Disk.state l.initial.disk).files l.images.items l.chain l.block
      ≡ block_place (g.D.Disk.state l.initial.disk).files l.images.items (take l.left l.chain) l.block;
  calls : (g.D.Disk.state l.disk).calls + l.left ≤ (g.D.Disk.state l.initial.disk).calls + length l.chain;
  reads : OnlyReads g.D.Disk.tells (g.D.Disk.state l.initial.disk) (g.D.Disk.state l.disk);
  no_fault : (g.D.Disk.state l.disk).faults ≡ (g.D.Disk.state l.initial.disk).faults;
}

abbrev pub decreases-loop-left : goal.decreases-loop-left
decreases-loop-left g l = l.left
