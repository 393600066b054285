use Rattle.std.proofs.Common.{◌∙◌, arith}
use Rattle.vbm_intent.proofs.Fills.{piece_time, fill_goes_on}
use Rattle.vbm_intent.proofs.apply.fill_pieces.Goals as goal

pub returns-in_err-write_copies-clause-time : goal.returns-in_err-write_copies-clause-time
returns-in_err-write_copies-clause-time g c = λ told.
    piece_time c.args.name.now c.args.at c.args.len c.args.byte _ _ _ c.loop-done.done c.min-n.result (c.requires.fits told) (omega arith)
    (c.loop-done.invariant.told told) (c.write_copies.ensures.images told) c.write_copies.ensures.time

pub loop-done-preserved : goal.loop-done-preserved
loop-done-preserved g c = record {
  le = omega arith;
  told = λ told.
      fill_goes_on c.args.name.now c.args.at c.args.len c.args.byte _ _ _ c.loop-done.done c.min-n.result (c.requires.fits told) (omega arith)
      (c.loop-done.invariant.told told) (c.write_copies.ensures.images told) (omega arith) c.write_copies.ensures.time (c.in_ok-write_copies.ensures.ok told);
  faults = omega arith;
  no_fault = c.in_ok-write_copies.ensures.no_fault ∙ c.loop-done.invariant.no_fault;
}
