use Rattle.std.proofs.Common.{◌≡◌, ◌^◌, ◌≤◌, ℕ, length, Option, IfSome, sym, ap, subst, rules}
use Rattle.std.specs.Option.{option_map}
use Rattle.vbm_memdisk.specs.MemDisk.{past_of, memory_state}
use Rattle.vbm_memdisk.specs.Laws.{coherent_disk}
use Rattle.vbm_memdisk.specs.declared.disk.MemDisk.{MemDisk}
use Rattle.vbm_memdisk.proofs.Moments.{same_reads, short_length}
use Rattle.vbm_memdisk.proofs.disk.MemDiskDisk.length.Goals as goal
use Rattle.vbm_ports.specs.declared.disk.TheConstants.{LONGEST_FILE}

pub returns-in_err-count-clause-reads : goal.returns-in_err-count-clause-reads
returns-in_err-count-clause-reads c =
    same_reads (past_of c.args.self.now) (past_of c.count.new.self) c.args.self.now.calls c.args.self.now.faults c.count.new.self.calls c.count.new.self.faults
    (ap (λ (disk : MemDisk). past_of disk) c.count.ensures.only) c.count.ensures.calls c.count.ensures.faults

pub returns-clause-bound : goal.returns-clause-bound
returns-clause-bound c =
    let is : c.map.result ≡ option_map length ((memory_state c.args.self.now).files c.args.name.now) = search rules in
    subst (λ (o : Option ℕ). IfSome o (λ n. n ≤ LONGEST_FILE)) (sym is) (short_length ((memory_state c.args.self.now).files c.args.name.now) ((coherent_disk c.args.self.now).short tt c.args.name.now))

pub returns-clause-reads : goal.returns-clause-reads
returns-clause-reads c =
    same_reads (past_of c.args.self.now) (past_of c.count.new.self) c.args.self.now.calls c.args.self.now.faults c.count.new.self.calls c.count.new.self.faults
    (ap (λ (disk : MemDisk). past_of disk) c.count.ensures.only) c.count.ensures.calls c.count.ensures.faults
