use Rattle.std.proofs.Common.{ap}
use Rattle.vbm_memdisk.specs.MemDisk.{past_of}
use Rattle.vbm_memdisk.specs.declared.disk.MemDisk.{MemDisk}
use Rattle.vbm_memdisk.proofs.Moments.{same_reads}
use Rattle.vbm_memdisk.proofs.disk.MemDiskDisk.read.Goals as goal

pub returns-in_err-count-clause-reads : goal.returns-in_err-count-clause-reads
returns-in_err-count-clause-reads c =
    same_reads (past_of c.args.self.now) (past_of c.count.new.self) c.args.self.now.calls c.args.self.now.faults c.count.new.self.calls c.count.new.self.faults
    (ap (λ (disk : MemDisk). past_of disk) c.count.ensures.only) c.count.ensures.calls c.count.ensures.faults

pub returns-clause-reads : goal.returns-clause-reads
returns-clause-reads c =
    same_reads (past_of c.args.self.now) (past_of c.count.new.self) c.args.self.now.calls c.args.self.now.faults c.count.new.self.calls c.count.new.self.faults
    (ap (λ (disk : MemDisk). past_of disk) c.count.ensures.only) c.count.ensures.calls c.count.ensures.faults
