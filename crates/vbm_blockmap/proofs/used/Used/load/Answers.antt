use Rattle.std.proofs.Common.{◌≡◌, ◌+◌, ◌*◌, length, refl, ap, ◌∙◌, arith}
use Rattle.vbm_header.specs.Field.{number_at}
use Rattle.vbm_header.proofs.Headers.{accepted}
use Rattle.vbm_ports.proofs.States.{OnlyReads-refl, OnlyReads-trans}
use Rattle.vbm_volume.proofs.Images.{image_of-ok}
use Rattle.vbm_blockmap.proofs.Marking.{MarksWords-none, MarksWords-add, map_marked}
use Rattle.vbm_blockmap.proofs.used.Used.load.Goals as goal

pub loop-done-init : goal.loop-done-init
loop-done-init g c = record {
  within = omega arith;
  marks = λ told f is fits. MarksWords-none _ _;
  count = omega (arith, c.clear.ensures.count);
  no_fault = refl;
  reads = OnlyReads-refl g.D.Disk.tells (g.D.Disk.state c.args.disk.now);
}

pub loop-done-preserved : goal.loop-done-preserved
loop-done-preserved g c = record {
  within = omega (arith, c.min-count.ensures);
  marks = λ told f is fits.
      let here = ap (λ files. files c.args.name.now) (c.loop-done.invariant.reads.files told) ∙ is in
      MarksWords-add _ _ _ c.loop-done.done c.min-count.result _ _ _ (c.loop-done.invariant.marks told f is fits)
      (c.in_ok-load_piece.ensures.marks told f here (omega (arith, c.min-count.ensures, fits)))
      (λ k lt. refl)
      (λ k lt.
      let place : c.args.header.now.off_blocks + 4 * (c.loop-done.done + k) ≡ c.args.header.now.off_blocks + 4 * c.loop-done.done + 4 * k = omega arith in
      ap (λ o. number_at f o 4) place);
  count = omega (arith, c.loop-done.invariant.count, c.in_ok-load_piece.ensures.count);
  no_fault = c.in_ok-load_piece.ensures.no_fault ∙ c.loop-done.invariant.no_fault;
  reads = OnlyReads-trans _ _ _ _ c.loop-done.invariant.reads c.load_piece.ensures.reads;
}

pub returns-clause-marks : goal.returns-clause-marks
returns-clause-marks g c = λ told f is.
    let facts = accepted f (length f) c.args.header.now (image_of-ok f c.args.header.now (c.requires.told told f is)).0 in
    map_marked f c.args.header.now c.loop-done.done c.clear.new.self c.loop-done.self
    (let within = c.loop-done.invariant.within in let past = c.loop-done-test.false in omega (arith, within, past))
    c.clear.ensures.none (c.loop-done.invariant.marks told f is facts.map_end)
