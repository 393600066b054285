use Rattle.std.proofs.Common.{◌≡◌, ◌+◌, ◌*◌, ◌≤◌, ◌-◌, ℕ, List, Some, length}
use Rattle.vbm_ports.specs.Disk.{OnlyReads}
use Rattle.vbm_volume.specs.Image.{word_of}
use Rattle.vbm_blockmap.specs.Used.{marked_count, MarksWords}
use Rattle.vbm_blockmap.proofs.used.Used.load.Given as goal

-- the words so far have come into use
abbrev pub invariant-loop-done : goal.invariant-loop-done
invariant-loop-done g l = record {
  within : l.done ≤ l.header.blocks;
  marks : g.D.Disk.tells → (f : List ℕ) → (g.D.Disk.state l.initial.disk).files l.name ≡ Some f → l.header.off_blocks + 4 * l.header.blocks ≤ length f
      → MarksWords (λ k. word_of f l.header k) l.done l.initial.self l.self;
  count : marked_count l.self ≤ l.done;
  no_fault : (g.D.Disk.state l.disk).faults ≡ (g.D.Disk.state l.initial.disk).faults;
  reads : OnlyReads g.D.Disk.tells (g.D.Disk.state l.initial.disk) (g.D.Disk.state l.disk);
}

abbrev pub decreases-loop-done : goal.decreases-loop-done
decreases-loop-done g l = l.header.blocks - l.done
