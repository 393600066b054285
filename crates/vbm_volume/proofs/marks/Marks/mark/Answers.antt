use Rattle.std.proofs.Common.{ℕ, List, ◌≡◌, ◌*◌, ◌/◌, ◌%◌, ◌^◌, eqb, length, not, set, ap, subst, arith}
use Rattle.std.specs.Int.Bits.{bit_and, bit_or}
use Rattle.vbm_volume.specs.Marks.{is_marked, MarksOneMore}
use Rattle.vbm_volume.proofs.MarkLemmas.{fresh, MarksOneMore-set}
use Rattle.vbm_volume.proofs.marks.Marks.mark.Goals as goal

pub returns-clause-fresh : goal.returns-clause-fresh
returns-clause-fresh c =
    subst (λ (words : List ℕ). eqb (bit_and (c.index_mut-word.result.now / 2 ^ (c.args.n % 64)) 1) 0 ≡ not (is_marked words c.args.n)) c.self.view_is
    (fresh c.self.inside.words.items c.args.n c.index_mut-word.result.now c.index_mut-word.ensures.value (omega (arith, ap length c.self.view_is)))

pub returns-clause-more : goal.returns-clause-more
returns-clause-more c =
    let new : List ℕ =
    set c.self.inside.words.items (c.args.n / 64) (bit_or c.index_mut-word.result.now (1 * 2 ^ (c.args.n % 64) % 2 ^ 64)) in
    subst (λ (words : List ℕ). MarksOneMore words new c.args.n) c.self.view_is
    (MarksOneMore-set c.self.inside.words.items c.args.n c.index_mut-word.result.now c.index_mut-word.ensures.value
    (omega (arith, ap length c.self.view_is)))
