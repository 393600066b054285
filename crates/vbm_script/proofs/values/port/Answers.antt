use Rattle.std.proofs.Common.{arith, sym, ◌∙◌}
use Rattle.std.proofs.lemmas.Fmt.{decimal_injective}
use Rattle.vbm_script.proofs.values.port.Goals as goal

pub returns-then-n-from : goal.returns-then-n-from
returns-then-n-from c = λ n h.
    omega (arith, h.is_port, decimal_injective n c.in_ok-n.n (omega (arith, h.is_port)) (omega arith) (sym h.spelled ∙ c.in_ok-n.ensures))
