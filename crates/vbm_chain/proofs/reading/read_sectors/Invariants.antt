use Rattle.std.proofs.Common.{◌≡◌, ◌+◌, ◌-◌, ◌*◌, ◌/◌, ◌<◌, ◌≤◌, length}
use Rattle.vbm_ports.specs.Disk.{OnlyReads}
use Rattle.vbm_volume.specs.Chain.{chain_sector}
use Rattle.vbm_chain.specs.Settled.{settled_links, HoldSectors, block_count}
use Rattle.vbm_chain.proofs.reading.read_sectors.Given as goal

-- the sectors so far are read
abbrev pub invariant-loop-done : goal.invariant-loop-done
invariant-loop-done g l = record {
  within : l.done ≤ l.count;
  size : length l.out ≡ length l.initial.out;
  sectors : g.D.Disk.tells
      → HoldSectors (chain_sector (settled_links (g.D.Disk.state l.initial.disk).files l.images.items l.chain)) l.lba l.done l.out;
  reads : OnlyReads g.D.Disk.tells (g.D.Disk.state l.initial.disk) (g.D.Disk.state l.disk);
  calls_before : l.done < l.count → (g.D.Disk.state l.disk).calls
      ≤ (g.D.Disk.state l.initial.disk).calls + ((l.lba + l.done) / 2048 - l.lba / 2048) * (length l.chain + 1);
  calls : (g.D.Disk.state l.disk).calls ≤ (g.D.Disk.state l.initial.disk).calls + block_count l.lba l.count * (length l.chain + 1);
  no_fault : (g.D.Disk.state l.disk).faults ≡ (g.D.Disk.state l.initial.disk).faults;
}

abbrev pub decreases-loop-done : goal.decreases-loop-done
decreases-loop-done g l = l.count - l.done
