use Rattle.std.proofs.Common.{◌≡◌, ◌-◌, ◌+◌, ◌*◌, ◌/◌, ◌<◌, ◌≤◌, ℕ, length, inl, inr, sym, ap, ◌∙◌, arith}
use Rattle.std.proofs.Math.Nat.{mul-le-mul_right}
use Rattle.std.proofs.lemmas.Bool.{cases_lt}
use Rattle.vbm_ports.specs.Files.{Files, piece}
use Rattle.vbm_ports.proofs.States.{OnlyReads-trans}
use Rattle.vbm_volume.specs.Chain.{chain_sector}
use Rattle.vbm_chain.specs.Settled.{settled_links, block_count}
use Rattle.vbm_chain.proofs.reading.read_sectors.Goals as goal

-- the calls for one block more
more_calls : (start before after runs total each : ℕ) → before ≤ start + runs * each → after ≤ before + each → runs < total
    → after ≤ start + total * each
more_calls start before after runs total each was step less =
    let more : (runs + 1) * each ≤ total * each = mul-le-mul_right each (omega arith) in
    omega (arith, more)

-- the block of the sectors that are next is one of all
next_block : (lba done count : ℕ) → done < count → (lba + done) / 2048 - lba / 2048 < block_count lba count
next_block lba done count less = omega arith

pub returns-in_err-done-clause-calls : goal.returns-in_err-done-clause-calls
returns-in_err-done-clause-calls g c =
    more_calls (g.D.Disk.state c.args.disk.now).calls (g.D.Disk.state c.loop-done.disk).calls (g.D.Disk.state c.read_run.new.disk).calls
    ((c.args.lba + c.loop-done.done) / 2048 - c.args.lba / 2048) (block_count c.args.lba (length c.args.out.now / 512)) (length c.args.chain.now + 1)
    (c.loop-done.invariant.calls_before c.loop-done-test.true) c.read_run.ensures.calls
    (next_block c.args.lba c.loop-done.done (length c.args.out.now / 512) c.loop-done-test.true)

pub loop-done-preserved : goal.loop-done-preserved
loop-done-preserved g c =
    let files : Files = (g.D.Disk.state c.args.disk.now).files in
    let done : ℕ = c.loop-done.done in
    let n : ℕ = c.in_ok-done.field-0 in
    let size = c.loop-done.invariant.size in
    record {
      within = omega (arith, c.in_ok-done.ensures.count, size);
      size = omega (arith, c.read_run.auto.out, size);
      sectors = λ told k low. elim (cases_lt k done) [
        | inl before ↦ c.read_run.ensures.kept (k * 512) 512 (omega arith) ∙ c.loop-done.invariant.sectors told k before
        | inr now ↦
            let place : (done + (k - done)) * 512 ≡ k * 512 = omega arith in
            let lba : c.args.lba + done + (k - done) ≡ c.args.lba + k = omega arith in
            ap (λ (o : ℕ). piece c.read_run.new.out o 512) (sym place)
            ∙ c.in_ok-done.ensures.sectors told (k - done) (omega arith)
            ∙ ap (λ (x : Files). chain_sector (settled_links x c.args.images.now.items c.args.chain.now) (c.args.lba + done + (k - done)))
            (c.loop-done.invariant.reads.files told)
            ∙ ap (chain_sector (settled_links files c.args.images.now.items c.args.chain.now)) lba
      ];
      reads = OnlyReads-trans _ _ _ _ c.loop-done.invariant.reads c.read_run.ensures.reads;
      calls_before = λ more.
          more_calls (g.D.Disk.state c.args.disk.now).calls (g.D.Disk.state c.loop-done.disk).calls (g.D.Disk.state c.read_run.new.disk).calls
          ((c.args.lba + done) / 2048 - c.args.lba / 2048) ((c.args.lba + (done + n)) / 2048 - c.args.lba / 2048) (length c.args.chain.now + 1)
          (c.loop-done.invariant.calls_before c.loop-done-test.true) c.read_run.ensures.calls
          (omega (arith, c.in_ok-done.ensures.count, size, more));
      calls =
          more_calls (g.D.Disk.state c.args.disk.now).calls (g.D.Disk.state c.loop-done.disk).calls (g.D.Disk.state c.read_run.new.disk).calls
          ((c.args.lba + done) / 2048 - c.args.lba / 2048) (block_count c.args.lba (length c.args.out.now / 512)) (length c.args.chain.now + 1)
          (c.loop-done.invariant.calls_before c.loop-done-test.true) c.read_run.ensures.calls
          (next_block c.args.lba done (length c.args.out.now / 512) c.loop-done-test.true);
      no_fault = c.in_ok-done.ensures.faults ∙ c.loop-done.invariant.no_fault;
    }
