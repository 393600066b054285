use Rattle.std.proofs.Common.{◌+◌, ◌*◌, ◌≤◌}
use Rattle.vbm_header.specs.Field.{number_at}
use Rattle.vbm_blockmap.specs.Used.{marked_count, MarksWords}
use Rattle.vbm_blockmap.proofs.used.Used.mark_words.Given as goal

abbrev pub invariant-loop-i : goal.invariant-loop-i
invariant-loop-i l = record {
  marks : MarksWords (λ k. number_at l.piece (4 * k) 4) l.i l.initial.self l.self;
  count : marked_count l.self ≤ marked_count l.initial.self + l.i;
}
