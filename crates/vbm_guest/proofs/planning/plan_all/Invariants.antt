use Rattle.std.proofs.Common.{◌≡◌, ◌+◌, ◌≤◌, take}
use Rattle.vbm_intent.specs.Plan.{body_size}
use Rattle.vbm_guest.specs.Flushing.{settling_all}
use Rattle.vbm_guest.proofs.planning.plan_all.Given as goal

abbrev pub invariant-loop-i : goal.invariant-loop-i
invariant-loop-i l = record {
  changes : l.plan.changes ≡ settling_all (take l.i l.images.items);
  spare : l.fn.plan.spare ≤ l.plan.spare + body_size l.plan.changes;
}
