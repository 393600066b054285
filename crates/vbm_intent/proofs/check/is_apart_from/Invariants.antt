use Rattle.std.proofs.Common.{◌↔◌, length, All}
use Rattle.vbm_intent.specs.Changes.{name_of, of_file, IsAllowed, ApartFrom}
use Rattle.vbm_intent.specs.Pieces.{change_in}
use Rattle.vbm_intent.proofs.check.is_apart_from.Given as goal

abbrev pub invariant-loop-other : goal.invariant-loop-other
invariant-loop-other l = record {
  allowed : All IsAllowed l.left;
  so_far : ApartFrom (change_in l.piece) (of_file (name_of (change_in l.piece)) l.left)
      ↔ ApartFrom (change_in l.piece) (of_file (name_of (change_in l.piece)) l.fn.later);
}

abbrev pub decreases-loop-other : goal.decreases-loop-other
decreases-loop-other l = length l.left
