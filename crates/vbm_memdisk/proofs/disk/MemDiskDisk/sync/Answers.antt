use Rattle.std.proofs.Common.{◌≡◌, ◌∙◌, ◌≤◌, ap, arith}
use Rattle.vbm_ports.specs.Disk.{OnlyReads}
use Rattle.vbm_memdisk.specs.Past.{Past, past_in, with_event}
use Rattle.vbm_memdisk.specs.MemDisk.{past_of, memory_state}
use Rattle.vbm_memdisk.specs.declared.disk.MemDisk.{MemDisk}
use Rattle.vbm_memdisk.specs.declared.events.Event.TheVariants.{Synced}
use Rattle.vbm_memdisk.proofs.Outcomes.{either_way}
use Rattle.vbm_memdisk.proofs.Moments.{same_reads, sync_reads}
use Rattle.vbm_memdisk.proofs.disk.MemDiskDisk.sync.Goals as goal

pub returns-in_err-count-clause-reads : goal.returns-in_err-count-clause-reads
returns-in_err-count-clause-reads c =
    same_reads (past_of c.args.self.now) (past_of c.count.new.self) c.args.self.now.calls c.args.self.now.faults c.count.new.self.calls c.count.new.self.faults
    (ap (λ (disk : MemDisk). past_of disk) c.count.ensures.only) c.count.ensures.calls c.count.ensures.faults

pub returns-clause-reads : goal.returns-clause-reads
returns-clause-reads c =
    let kept : past_of c.finish.new.self ≡ past_in c.sync-outcome.new.self = ap (λ (disk : MemDisk). past_of disk) c.finish.ensures.only in
    let was : past_in c.count.new.self.history ≡ past_of c.args.self.now = ap (λ (disk : MemDisk). past_of disk) c.count.ensures.only in
    let counted : c.finish.new.self.calls ≡ c.count.new.self.calls = ap (λ (disk : MemDisk). disk.calls) c.finish.ensures.only in
    let more_calls : c.args.self.now.calls ≤ c.finish.new.self.calls = let more = c.count.ensures.calls in omega arith in
    let more_faults : c.args.self.now.faults ≤ c.finish.new.self.faults = let first = c.count.ensures.faults in let second = c.finish.ensures.faults in omega arith in
    either_way c.sync-outcome.result {R = OnlyReads (Unit {0}) (memory_state c.args.self.now) (memory_state c.finish.new.self)}
    (λ now now_too. sync_reads (past_of c.args.self.now) (past_of c.finish.new.self) c.args.self.now.calls c.args.self.now.faults c.finish.new.self.calls c.finish.new.self.faults
    (kept ∙ now ∙ ap (λ (past : Past). with_event Synced past) was) more_calls more_faults)
    (λ same same_too. same_reads (past_of c.args.self.now) (past_of c.finish.new.self) c.args.self.now.calls c.args.self.now.faults c.finish.new.self.calls c.finish.new.self.faults
    (kept ∙ same ∙ was) more_calls more_faults)
    c.sync-outcome.ensures.ok c.sync-outcome.ensures.ok c.sync-outcome.ensures.err c.sync-outcome.ensures.err
