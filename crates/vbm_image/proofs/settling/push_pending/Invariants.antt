use Rattle.std.proofs.Common.{◌≡◌, ◌+◌, ◌≤◌, ◌++◌, length}
use Rattle.vbm_intent.specs.Plan.{body_size}
use Rattle.vbm_image.specs.Settling.{allocated_with}
use Rattle.vbm_image.proofs.SettlingPlans.{first_changes}
use Rattle.vbm_image.proofs.settling.push_pending.Given as goal

abbrev pub invariant-loop-i : goal.invariant-loop-i
invariant-loop-i l = record {
  changes : l.plan.changes
      ≡ l.fn.plan.changes ++ first_changes l.image.name l.image.header (allocated_with l.image.header.allocated l.image.pending.staged)
      l.image.pending.staged l.i;
  count : length l.plan.changes ≡ length l.fn.plan.changes + (l.i + 1);
  spare : l.fn.plan.spare ≤ l.plan.spare + body_size
      (first_changes l.image.name l.image.header (allocated_with l.image.header.allocated l.image.pending.staged) l.image.pending.staged l.i);
}
