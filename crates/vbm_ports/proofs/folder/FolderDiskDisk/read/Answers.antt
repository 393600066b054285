use Rattle.vbm_ports.proofs.States.{OnlyReads-counts}
use Rattle.vbm_ports.proofs.folder.FolderDiskDisk.read.Goals as goal

pub returns-clause-reads : goal.returns-clause-reads
returns-clause-reads g c = OnlyReads-counts ⊥ _ _ _ c.counted.ensures.more.0 c.counted.ensures.more.1
