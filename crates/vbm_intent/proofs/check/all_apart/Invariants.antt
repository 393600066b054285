use Rattle.std.proofs.Common.{◌↔◌, length, All}
use Rattle.vbm_intent.specs.Changes.{IsAllowed}
use Rattle.vbm_intent.proofs.Apart.{AllApart}
use Rattle.vbm_intent.proofs.check.all_apart.Given as goal

abbrev pub invariant-loop-piece : goal.invariant-loop-piece
invariant-loop-piece l = record {
  allowed : All IsAllowed l.left;
  so_far : AllApart l.left ↔ AllApart l.fn.changes;
}

abbrev pub decreases-loop-piece : goal.decreases-loop-piece
decreases-loop-piece l = length l.left
