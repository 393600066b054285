use Rattle.std.proofs.Common.{arith, sym, ◌∙◌}
use Rattle.std.proofs.lemmas.Fmt.{decimal_injective}
use Rattle.vbm_script.proofs.values.count.Goals as goal
use Rattle.vbm_script.proofs.values.count.Goals.{then-n-eq0-via-then-n-eq0, then-n-eq0-via-else-n-eq0+then-n-from}

pub returns-then-n-eq0 : goal.returns-then-n-eq0
returns-then-n-eq0 c = λ n h.
    let same = decimal_injective n c.in_ok-n.n (omega (arith, h.is_count)) (omega arith) (sym h.spelled ∙ c.in_ok-n.ensures) in
    elim c.then-n-eq0.branch [
      | then-n-eq0-via-then-n-eq0 w ↦ omega (arith, h.is_count, same)
      | then-n-eq0-via-else-n-eq0+then-n-from w ↦ omega (arith, h.is_count, same)
    ]
