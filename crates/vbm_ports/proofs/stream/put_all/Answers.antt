use Rattle.std.proofs.Common.{◌∙◌, arith}
use Rattle.std.proofs.lemmas.List.{length-drop}
use Rattle.vbm_ports.proofs.Appends.{append-piece}
use Rattle.vbm_ports.proofs.stream.put_all.Goals as goal

pub loop-done-preserved : goal.loop-done-preserved
loop-done-preserved g c = record {
  within = omega (arith, c.in_ok-done.ensures.bound, length-drop c.loop-done.done c.args.bytes.now);
  written = λ told. append-piece _ _ _ c.args.bytes.now c.loop-done.done c.in_ok-done.field-0
      (c.loop-done.invariant.written told) (c.in_ok-done.ensures.ok told);
  faults = c.in_ok-done.ensures.no_fault ∙ c.loop-done.invariant.faults;
}
