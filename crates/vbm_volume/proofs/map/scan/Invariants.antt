use Rattle.std.proofs.Common.{ℕ, List, Some, ◌-◌, ◌+◌, ◌*◌, ◌≡◌, ◌≤◌, ◌<◌, ◌++◌, length}
use Rattle.std.specs.Prelude.{filter}
use Rattle.vbm_ports.specs.Disk.{OnlyReads}
use Rattle.vbm_volume.specs.Image.{is_position, words_at, word_of}
use Rattle.vbm_volume.specs.Tally.{IsTally}
use Rattle.vbm_volume.proofs.map.scan.Given as goal

-- the words so far are in the tally, and the word of the block is known if it is among them
abbrev pub invariant-loop-done : goal.invariant-loop-done
invariant-loop-done g l = record {
  within : l.done ≤ l.header.blocks;
  tally : g.D.Disk.tells → (f ps : List ℕ) → (g.D.Disk.state l.initial.disk).files l.name ≡ Some f → l.header.off_blocks + 4 * l.header.blocks ≤ length f
      → IsTally l.initial.tally ps → IsTally l.tally (ps ++ filter is_position (words_at f l.header.off_blocks l.done));
  limits : l.tally.limits ≡ l.initial.tally.limits;
  word : g.D.Disk.tells → (f : List ℕ) → (g.D.Disk.state l.initial.disk).files l.name ≡ Some f → l.header.off_blocks + 4 * l.header.blocks ≤ length f
      → l.block < l.done → l.word ≡ word_of f l.header l.block;
  outside : l.header.blocks ≤ l.block → l.word ≡ 0xFFFFFFFF;
  no_fault : (g.D.Disk.state l.disk).faults ≡ (g.D.Disk.state l.initial.disk).faults;
  reads : OnlyReads g.D.Disk.tells (g.D.Disk.state l.initial.disk) (g.D.Disk.state l.disk);
}

abbrev pub decreases-loop-done : goal.decreases-loop-done
decreases-loop-done g l = l.header.blocks - l.done
